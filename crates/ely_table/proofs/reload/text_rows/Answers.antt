use Rattle.std.proofs.Common.{ap, ◌∙◌}
use Rattle.ely_propfile.specs.Faults.{are_apart}
use Rattle.ely_table.proofs.Reloading.{rows_apart}
use Rattle.ely_table.proofs.reload.text_rows.Goals as goal

pub returns-clause-apart : goal.returns-clause-apart
returns-clause-apart c = ap are_apart c.in_ok-rows_of.ensures ∙ rows_apart c.in_ok-users.users.items c.in_ok-groups.groups.items c.in_ok-users.ensures.apart
