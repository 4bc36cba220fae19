-- The JSON type of a value without a fault.
use Rattle.ely_config_tree.proofs.Faultless.{array_faultless, object_faultless_of}
use Rattle.ely_config_tree.proofs.laws.faultless_values.Goals as goal

pub returns-clause-array : goal.returns-clause-array
returns-clause-array c = array_faultless

pub returns-clause-object : goal.returns-clause-object
returns-clause-object c = object_faultless_of
