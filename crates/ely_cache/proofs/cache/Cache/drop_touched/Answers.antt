use Rattle.std.proofs.Common.{◌≡◌, ◌∙◌, List, ℕ, ap, ap₂}
use Rattle.ely_cache.specs.Entries.{untouched}
use Rattle.ely_cache.specs.Tied.{entries_of, not_resting_under}
use Rattle.ely_cache.specs.declared.entry.Entry.{Entry}
use Rattle.ely_cache.proofs.Places.{untouched-coded}
use Rattle.ely_cache.proofs.cache.Cache.drop_touched.Goals as goal

pub returns : goal.returns
returns c =
    let es = entries_of c.self.inside.slots.order.entries in
    let edit = c.args.edit.now in
    let left : entries_of c.drop_all.new.slots.order.entries ≡ untouched edit es = c.drop_all.ensures.entries ∙ ap (λ (start : List ℕ). not_resting_under start es) c.write_touched.ensures.items ∙ untouched-coded edit es in
    rw (← c.self.view_is) (ap₂ (λ (n : ℕ) (fs : List Entry). record { limit = n; entries = fs }) c.drop_all.ensures.cap left)
