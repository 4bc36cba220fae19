use Rattle.std.proofs.Common.{sym}
use Rattle.ely_base.proofs.PartLemmas.{cut_none, cut_some}
use Rattle.ely_base.proofs.parts.cut_at.Goals as goal

pub returns-in-None-clause-parts : goal.returns-in-None-clause-parts
returns-in-None-clause-parts c = cut_none c.args.mark c.args.bytes.now (sym c.in-None.ensures)

pub returns-in-Some-clause-parts : goal.returns-in-Some-clause-parts
returns-in-Some-clause-parts c = cut_some c.args.mark c.args.bytes.now c.in-Some.offset (sym c.in-Some.ensures)
