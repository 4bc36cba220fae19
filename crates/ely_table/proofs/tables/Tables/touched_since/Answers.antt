use Rattle.std.proofs.Common.{List, ℕ, ltb, refl, ap, ◌∙◌}
use Rattle.std.specs.List.{list_any}
use Rattle.ely_table.specs.declared.table.Table.{Table}
use Rattle.ely_table.specs.Kept.{last_of}
use Rattle.ely_table.proofs.Touches.{touched_kept}
use Rattle.ely_table.proofs.tables.Tables.touched_since.Goals as goal

pub returns : goal.returns
returns c =
    let edits = c.self.inside.journal.items in
    c.any_later.ensures
    ∙ ap (λ (ts : List Table). list_any (λ (place : List ℕ × List ℕ). ltb c.v.inside.0 (last_of ts place.0 place.1)) c.args.deps.now) c.deref.ensures.value
    ∙ ap (λ (v : ℕ). list_any (λ (place : List ℕ × List ℕ). ltb v (last_of c.self.inside.tables.items place.0 place.1)) c.args.deps.now) c.v.view_is
    ∙ touched_kept _ c.self.inside.tables.items edits c.args.v c.args.deps.now c.self.invariant.kept
    ∙ rw (← c.self.view_is) refl
