use Rattle.std.proofs.Common.{codes}
use Rattle.std.specs.Fmt.{decimal}
use Rattle.ely_script.specs.Text.{line_text}
use Rattle.ely_script.specs.OutcomeTexts.{outcome_text}
use Rattle.ely_script.specs.Words.{step_text, cache_text}
use Rattle.ely_script.proofs.Joins.{line_joined}
use Rattle.ely_script.proofs.print.push_step.Goals as goal

pub returns-clause-ok : goal.returns-clause-ok
unfolding line_text
returns-clause-ok c =
    let e = c.args.entry.now in
    rw (c.in_ok-push_both-2.ensures.ok, c.in_ok-push_outcome.ensures.ok, c.in_ok-push_text.ensures.ok, c.in_ok-push_both.ensures.ok, c.in_ok-push_counted-2.ensures.ok, c.in_ok-push_counted.ensures.ok, c.in_ok-push_number.ensures.ok, c.step_word.ensures, c.cache_word.ensures, c.from.ensures)
    (line_joined c.args.out.now.items (decimal c.args.number) (decimal e.actor) (decimal c.args.line) (step_text e.word) (outcome_text e.outcome) (cache_text e.cache) (codes " ") (codes "\n"))
