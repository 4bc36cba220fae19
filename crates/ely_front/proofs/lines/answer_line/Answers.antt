use Rattle.std.proofs.Common.{◌++◌, sym, subst}
use Rattle.ely_io.specs.declared.line.Line.{Line}
use Rattle.ely_front.specs.Lines.{heard}
use Rattle.ely_front.specs.Modes.{Answers}
use Rattle.ely_front.proofs.RunningLemmas.{nothing_answered}
use Rattle.ely_front.proofs.lines.answer_line.Goals as goal

pub returns-in-End-clause-answered : goal.returns-in-End-clause-answered
returns-in-End-clause-answered g c given lines said cost has =
    subst (λ (l : Line). Answers (g.M.Mode.stands given c.args.mode.now (lines ++ heard l)) said cost c.args.out.now.items c.args.out.now.items c.args.steps.now c.args.steps.now) (sym c.in-End.is)
    (nothing_answered g.M.Mode.stands c.args.mode.now c.args.out.now.items c.args.steps.now given lines said cost has)
