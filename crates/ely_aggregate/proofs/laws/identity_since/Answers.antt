use Rattle.ely_aggregate.proofs.Agreement.{identity_of-since}
use Rattle.ely_aggregate.proofs.laws.identity_since.Goals as goal

pub returns : goal.returns
returns c = identity_of-since
