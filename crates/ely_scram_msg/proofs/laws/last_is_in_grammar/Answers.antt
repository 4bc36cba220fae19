use Rattle.ely_scram_msg.proofs.LastGrammar.{last_exactly}
use Rattle.ely_scram_msg.proofs.laws.last_is_in_grammar.Goals as goal

pub returns : goal.returns
returns c = last_exactly
