use Rattle.ely_hash.proofs.XorLemmas.{IsXoredTo}
use Rattle.ely_hash.proofs.block.xor_block.Given as goal

abbrev pub invariant-loop-byte : goal.invariant-loop-byte
invariant-loop-byte l = IsXoredTo l.pad l.byte-items l.block l.byte-index
