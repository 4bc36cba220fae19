use Rattle.ely_pipeline.proofs.FirstPlace.{there, first, nowhere}
use Rattle.ely_pipeline.proofs.laws.first_place_is_first.Goals as goal

pub returns : goal.returns
returns c = record { there = there; first = first; nowhere = nowhere }
