use Rattle.std.proofs.Common.{◌<◌, length, arith}
use Rattle.ely_hash.proofs.XorLemmas.{IsXoredTo-more}
use Rattle.ely_hash.proofs.block.xor_block.Goals as goal

pub loop-byte-preserved : goal.loop-byte-preserved
loop-byte-preserved c =
    let h : c.loop-byte.byte-index < length c.loop-byte.byte-items = omega arith in
    IsXoredTo-more _ _ _ _ h c.loop-byte.invariant
