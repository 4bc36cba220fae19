use Rattle.ely_history.specs.Legal.{AreOver}
use Rattle.ely_history.proofs.Turns.{right_in_runs, right_in_turns}
use Rattle.ely_history.proofs.laws.who_gets_in.Goals as goal

pub returns-clause-runs : goal.returns-clause-runs
returns-clause-runs c = right_in_runs

pub returns-clause-so_far : goal.returns-clause-so_far
returns-clause-so_far c = λ given lines h. right_in_turns given lines (λ p. Unit {0}) h

pub returns-clause-whole : goal.returns-clause-whole
returns-clause-whole c = λ given lines h. right_in_turns given lines (AreOver lines) h
