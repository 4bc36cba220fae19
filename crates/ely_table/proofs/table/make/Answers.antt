use Rattle.std.proofs.Common.{refl, ap, ◌∙◌}
use Rattle.ely_row.specs.Edits.{changed}
use Rattle.ely_table.proofs.Reloading.{one_taken}
use Rattle.ely_table.proofs.table.make.Goals as goal

pub returns-clause-ok : goal.returns-clause-ok
returns-clause-ok c =
    let row = c.in_ok-row.ensures ∙ (c.in_ok-changed.ensures ∙ ap (changed c.args.edit.now) c.row_of.ensures) in
    one_taken c.args.table.now _ c.args.edit.now c.args.name.now c.in_ok-name.name c.in_ok-row.row c.args.number c.requires.name c.in_ok-name.ensures row c.in_ok-insert.ensures.updates refl refl refl c.count_with-rows.ensures
