use Rattle.std.proofs.Common.{◌≡◌, ◌∙◌, Option, Some, None, sym, ap, refl, option_map}
use Rattle.ely_cache.specs.Codes.{key_of}
use Rattle.ely_cache.specs.Resting.{get_by_bytes}
use Rattle.ely_cache.specs.declared.entry.Entry.{Entry}
use Rattle.ely_cache.proofs.Views.{absent_view, found_both}
use Rattle.ely_cache.proofs.cache.Cache.peek.Goals as goal

pub returns-in_err-slot : goal.returns-in_err-slot
returns-in_err-slot c =
    let s = c.self.inside.slots in
    let key = key_of c.args.name.now c.args.mech in
    let at : get_by_bytes s.index key ≡ None = sym c.in_err-slot.ensures in
    let gone = absent_view s.order.cap s.order.entries (get_by_bytes s.index) s.free.items key c.self.invariant.tied.numbers at in
    rw (c.from_residual.ensures, ← c.self.view_is) (rw gone refl)

pub returns-in_err-entry : goal.returns-in_err-entry
returns-in_err-entry c =
    let s = c.self.inside.slots in
    let key = key_of c.args.name.now c.args.mech in
    let at : get_by_bytes s.index key ≡ Some c.in_ok-slot.slot = sym c.in_ok-slot.ensures in
    let both = found_both s.order.cap s.order.entries (get_by_bytes s.index) s.free.items key c.in_ok-slot.slot c.self.invariant.tied.numbers at in
    rw (c.from_residual-in_err-entry.ensures, ← c.self.view_is) (ap (λ (o : Option Entry). option_map (λ (e : Entry). e.ready) o) (c.in_err-entry.ensures ∙ both))

pub returns : goal.returns
returns c =
    let s = c.self.inside.slots in
    let key = key_of c.args.name.now c.args.mech in
    let at : get_by_bytes s.index key ≡ Some c.in_ok-slot.slot = sym c.in_ok-slot.ensures in
    let both = found_both s.order.cap s.order.entries (get_by_bytes s.index) s.free.items key c.in_ok-slot.slot c.self.invariant.tied.numbers at in
    rw (← c.self.view_is) (ap (λ (o : Option Entry). option_map (λ (e : Entry). e.ready) o) (c.in_ok-entry.ensures ∙ both))
