-- A job that is done, with what came of it.
use Rattle.std.specs.Prelude.{◌≡◌, Option, Some, None, IsFalse}
use Rattle.ely_job.specs.declared.job.Work.{Work}
use Rattle.ely_job.specs.declared.job.Work.TheVariants.{Held}
use Rattle.ely_job.specs.declared.verdict.Finished.{Finished}
use Rattle.ely_job.specs.declared.verdict.Verdict.{Verdict}
use Rattle.ely_job.specs.declared.verdict.Finished.TheVariants.{Ready}
use Rattle.ely_job.specs.declared.verdict.Finished.TheVariants as finished
use Rattle.ely_job.specs.declared.done.Kept.{Kept}
use Rattle.ely_job.specs.declared.done.Kept.TheVariants as kept
use Rattle.ely_job.specs.Jobs.{is_held, finished_of}

-- a job with its result
pub record Done : Type 0 where
  pub job : Work
  pub finished : Finished

-- the job and the result that are kept; a key that is held is both
abbrev pub done_of : Kept → Done
done_of (kept.Held ready) = record { job = Held ready; finished = Ready ready }
done_of (kept.Run job finished) = record { job = job; finished = finished }

-- what is kept beside a job is the result of that job
abbrev pub IsKept : Kept → Type 0
IsKept (kept.Held ready) = Unit {0}
IsKept (kept.Run job finished) = IsFalse (is_held job) × (finished_of job ≡ Some finished)

-- the job, but for one that holds its result
abbrev pub unheld : Work → Option Work
unheld (Held ready) = None
unheld job = Some job

-- the verdict that a result is
abbrev pub verdict_in : Finished → Option Verdict
verdict_in (finished.Verdict verdict) = Some verdict
verdict_in (Ready ready) = None
