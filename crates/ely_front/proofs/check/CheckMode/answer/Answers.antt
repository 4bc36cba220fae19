use Rattle.std.proofs.Common.{arith}
use Rattle.ely_front.proofs.CheckLemmas.{few_checked, line_checked}
use Rattle.ely_front.proofs.check.CheckMode.answer.Goals as goal

pub count-requires-clause-lines : goal.count-requires-clause-lines
count-requires-clause-lines g c = omega (arith, (few_checked c.args.self.now c.requires).0)

pub count-requires-clause-bad : goal.count-requires-clause-bad
count-requires-clause-bad g c = omega (arith, (few_checked c.args.self.now c.requires).1)

pub returns-clause-answered : goal.returns-clause-answered
returns-clause-answered g c =
    line_checked c.args.self.now c.count.new.self c.args.line.now c.args.out.now.items c.count.new.out.items c.args._steps.now
    c.in_ok-count.ensures.lines c.in_ok-count.ensures.bad c.in_ok-count.ensures.told
