use Rattle.ely_row.proofs.AfterEdits.{untouched_row}
use Rattle.ely_row.proofs.laws.untouched_row_stays.Goals as goal

pub returns : goal.returns
returns c = untouched_row
