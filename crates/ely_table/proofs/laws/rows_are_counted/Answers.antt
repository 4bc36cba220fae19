use Rattle.ely_table.proofs.NameCounts.{are_counted}
use Rattle.ely_table.proofs.laws.rows_are_counted.Goals as goal

pub returns : goal.returns
returns c = are_counted
