-- A legal history is a run of the machine, whoever's turn it was at each step.
use Rattle.std.proofs.Common.{ℕ, List, [], ◌∷◌}
use Rattle.ely_script.specs.Lines.{ScriptLine}
use Rattle.ely_domain.specs.Given.{Given}
use Rattle.ely_domain.specs.Machine.{first_machine}
use Rattle.ely_history.specs.Histories.{IsRun}
use Rattle.ely_history.specs.Legal.{Point, first_point, point_after, IsLegalFrom}
use Rattle.ely_history.specs.Lines.{Taken}
use Rattle.ely_history.specs.Replays.{Told, steps_told}
use Rattle.ely_history.specs.WhoGetsIn.{IsByRight}
use Rattle.ely_history.proofs.GetsIn.{pinned_in_runs, proved_in_runs, authorized_in_runs, established_in_runs, by_right_in_runs, allowed_in_runs}

pub legal_is_run : (given : Given) (lines : List ScriptLine) (ends : Point → Type 0) (p : Point) (h : List Told)
    → IsLegalFrom given lines ends p h → IsRun given p.machine (steps_told h)
legal_is_run given lines ends p [] legal = tt
legal_is_run given lines ends p (told ∷ h) legal =
    (legal.1.outcome_is, legal_is_run given lines ends (point_after given p legal.0 told) h legal.2)

-- in every run those get in who should
pub right_in_runs : (given : Given) (h : List Taken) → IsRun given (first_machine given) h → IsByRight given h
right_in_runs given h run = record {
  established = established_in_runs given h run;
  pinned = pinned_in_runs given h run;
  proved = proved_in_runs given h run;
  authorized = authorized_in_runs given h run;
  by_right = by_right_in_runs given h run;
  allowed = allowed_in_runs given h run;
}

-- and so in every legal history, wherever it ends
pub right_in_turns : (given : Given) (lines : List ScriptLine) (ends : Point → Type 0) (h : List Told)
    → IsLegalFrom given lines ends (first_point given) h → IsByRight given (steps_told h)
right_in_turns given lines ends h legal =
    right_in_runs given (steps_told h) (legal_is_run given lines ends (first_point given) h legal)
