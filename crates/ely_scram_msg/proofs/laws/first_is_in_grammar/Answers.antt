use Rattle.ely_scram_msg.proofs.FirstGrammar.{first_exactly}
use Rattle.ely_scram_msg.proofs.laws.first_is_in_grammar.Goals as goal

pub returns : goal.returns
returns c = first_exactly
