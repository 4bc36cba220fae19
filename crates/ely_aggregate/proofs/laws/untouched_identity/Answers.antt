use Rattle.ely_aggregate.proofs.Agreement.{identity_of-untouched}
use Rattle.ely_aggregate.proofs.laws.untouched_identity.Goals as goal

pub returns : goal.returns
returns c = identity_of-untouched
