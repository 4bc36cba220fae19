-- The members of an object without a fault.
use Rattle.ely_config_tree.proofs.Faultless.{known}
use Rattle.ely_config_tree.proofs.laws.faultless_objects.Goals as goal

pub returns-clause-known : goal.returns-clause-known
returns-clause-known c = known
