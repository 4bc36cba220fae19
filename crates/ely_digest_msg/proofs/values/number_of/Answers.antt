use Rattle.std.proofs.Common.{arith}
use Rattle.std.proofs.lemmas.Int.Digits.{digits_value_more}
use Rattle.ely_digest_msg.proofs.CountLemmas.{count_fits}
use Rattle.ely_digest_msg.proofs.values.number_of.Goals as goal

pub overflow_mul-number : goal.overflow_mul-number
overflow_mul-number c =
    let fits = count_fits c.args.bytes.now c.loop-b.b-index c.requires c.loop-b-test.true in
    omega (arith, fits, c.loop-b.invariant)

pub overflow_add-number : goal.overflow_add-number
overflow_add-number c =
    let fits = count_fits c.args.bytes.now c.loop-b.b-index c.requires c.loop-b-test.true in
    omega (arith, fits, c.loop-b.invariant, c.hex_digit.ensures)

pub loop-b-preserved : goal.loop-b-preserved
loop-b-preserved c =
    let more = digits_value_more 16 c.args.bytes.now c.loop-b.b-index c.loop-b-test.true in
    omega (arith, more, c.loop-b.invariant, c.hex_digit.ensures)
