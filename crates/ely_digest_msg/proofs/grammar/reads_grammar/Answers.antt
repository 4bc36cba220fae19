use Rattle.ely_digest_msg.proofs.GrammarLemmas.{reads_lists}
use Rattle.ely_digest_msg.proofs.SoundLemmas.{reads_nothing_else}
use Rattle.ely_digest_msg.proofs.FaultLemmas.{tells_faults, tells_nothing_else}
use Rattle.ely_digest_msg.proofs.grammar.reads_grammar.Goals as goal

pub returns-clause-lists : goal.returns-clause-lists
returns-clause-lists c = reads_lists

pub returns-clause-nothing_else : goal.returns-clause-nothing_else
returns-clause-nothing_else c = reads_nothing_else

pub returns-clause-faults : goal.returns-clause-faults
returns-clause-faults c = tells_faults

pub returns-clause-no_other_fault : goal.returns-clause-no_other_fault
returns-clause-no_other_fault c = tells_nothing_else
