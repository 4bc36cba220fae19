use Rattle.std.proofs.Common.{◌≡◌, List, Some, None, sym, ap, refl}
use Rattle.ely_cache.specs.Codes.{key_of}
use Rattle.ely_cache.specs.Resting.{count_at, get_by_bytes}
use Rattle.ely_cache.specs.declared.entry.Entry.{Entry}
use Rattle.ely_cache.proofs.Rests.{moved_rests}
use Rattle.ely_cache.proofs.Views.{absent_view, found_some, moved_tied, moved_view}
use Rattle.ely_cache.proofs.cache.Cache.find.Goals as goal

pub invariant_of-self : goal.invariant_of-self
invariant_of-self c =
    let s = c.self.inside.slots in
    let key = key_of c.args.name.now c.args.mech in
    let at : get_by_bytes s.index key ≡ Some c.in-Some.slot = sym c.in-Some.ensures in
    rw c.promote.ensures.entries (record {
      tied = record {
        numbers = moved_tied s.order.cap s.order.entries (get_by_bytes s.index) s.free.items key c.in-Some.slot c.self.invariant.tied.numbers at;
        rests = moved_rests s.order.cap s.order.entries (get_by_bytes s.index) s.free.items (count_at s.resting) key c.in-Some.slot c.self.invariant.tied.numbers at c.self.invariant.tied.rests;
        room = c.self.invariant.tied.room;
      };
      room = c.self.invariant.room;
    })

pub returns-in-Some-clause-found : goal.returns-in-Some-clause-found
returns-in-Some-clause-found c =
    let s = c.self.inside.slots in
    let key = key_of c.args.name.now c.args.mech in
    let at : get_by_bytes s.index key ≡ Some c.in-Some.slot = sym c.in-Some.ensures in
    rw (← c.self.view_is) (sym (found_some s.order.cap s.order.entries (get_by_bytes s.index) s.free.items key c.in-Some.slot c.self.invariant.tied.numbers at))

pub returns-in-Some-clause-entries : goal.returns-in-Some-clause-entries
returns-in-Some-clause-entries c =
    let s = c.self.inside.slots in
    let key = key_of c.args.name.now c.args.mech in
    let at : get_by_bytes s.index key ≡ Some c.in-Some.slot = sym c.in-Some.ensures in
    rw (← c.self.view_is, c.promote.ensures.entries) (ap (λ (es : List Entry). record { limit = s.order.cap; entries = es })
    (moved_view s.order.cap s.order.entries (get_by_bytes s.index) s.free.items key c.in-Some.slot c.self.invariant.tied.numbers at))

pub returns-in-None-clause-found : goal.returns-in-None-clause-found
returns-in-None-clause-found c =
    let s = c.self.inside.slots in
    let key = key_of c.args.name.now c.args.mech in
    let at : get_by_bytes s.index key ≡ None = sym c.in-None.ensures in
    let gone = absent_view s.order.cap s.order.entries (get_by_bytes s.index) s.free.items key c.self.invariant.tied.numbers at in
    rw (← c.self.view_is) (rw gone refl)

pub returns-in-None-clause-entries : goal.returns-in-None-clause-entries
returns-in-None-clause-entries c =
    let s = c.self.inside.slots in
    let key = key_of c.args.name.now c.args.mech in
    let at : get_by_bytes s.index key ≡ None = sym c.in-None.ensures in
    let gone = absent_view s.order.cap s.order.entries (get_by_bytes s.index) s.free.items key c.self.invariant.tied.numbers at in
    rw (← c.self.view_is) (rw gone refl)
