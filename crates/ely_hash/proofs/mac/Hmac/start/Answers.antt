use Rattle.std.proofs.Common.{take}
use Rattle.ely_hash.specs.Formulas.{xor_each}
use Rattle.ely_hash.proofs.MacLemmas.{IsHmac-start}
use Rattle.ely_hash.proofs.mac.Hmac.start.Goals as goal

pub returns : goal.returns
returns g c =
    let alg = g.H.HashAlg in
    let a : alg.stands c.start_with.result (take alg.hash.block (xor_each 0x36 c.block_of-block.result)) = rw (c.block_len-len.ensures, c.xor_block-inner.ensures) at c.start_with.ensures in
    let b : alg.stands c.start_with-2.result (take alg.hash.block (xor_each 0x5c c.block_of-block.result)) = rw (c.block_len-len.ensures, c.xor_block-outer.ensures) at c.start_with-2.ensures in
    IsHmac-start alg.stands alg.hash (record { inner = c.start_with.result; outer = c.start_with-2.result }) c.block_of-block.result c.args.key.now c.block_of-block.ensures a b
