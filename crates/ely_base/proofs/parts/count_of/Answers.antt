use Rattle.ely_base.proofs.PartLemmas.{count_is}
use Rattle.ely_base.proofs.parts.count_of.Goals as goal

pub returns : goal.returns
returns c = count_is c.args.mark c.loop-b.count c.loop-b.b-index c.args.bytes.now c.loop-b-test.false c.loop-b.invariant
