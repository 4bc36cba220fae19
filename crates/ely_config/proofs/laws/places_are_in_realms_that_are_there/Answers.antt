use Rattle.ely_config.proofs.Targets.{places_there}
use Rattle.ely_config.proofs.laws.places_are_in_realms_that_are_there.Goals as goal

pub returns : goal.returns
returns c = places_there
