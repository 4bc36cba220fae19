-- A call that runs a mode: what it reads, writes and answers.
use Rattle.std.specs.Prelude.{ℕ, ◌≡◌, ◌⊎◌, ◌<◌, List, ◌∷◌, length, Some}
use Rattle.ely_io.specs.Streams.{Input}
use Rattle.ely_io.specs.Causes.{Rose}
use Rattle.ely_io.specs.Lines.{lines_of}
use Rattle.ely_io.specs.Reading.{most}
use Rattle.ely_domain.specs.Given.{Given}
use Rattle.ely_front.specs.declared.ending.Ending.{Ending}
use Rattle.ely_front.specs.Moments.{Moment}
use Rattle.ely_front.specs.FirstLine.{Configures}
use Rattle.ely_front.specs.Modes.{Telling, TellingAll}
use Rattle.ely_front.specs.Ending.{EndsAs, IsDone, status_of}

-- the mode ran to an ending, and the status is that of the ending
abbrev pub Runs : Telling → TellingAll → Moment → Moment → ℕ → Type 0
Runs told at_end before after status =
    (ending : Ending) × (status ≡ status_of ending) × EndsAs told at_end before after ending

-- a failure of the source or of the sink is answered only where that one failed
pub record HasCauses (before after : Moment) (status : ℕ) : Type 0 where
  pub read : status ≡ 4 → Rose before.input.faults after.input.faults
  pub write : status ≡ 5 → Rose before.output.faults after.output.faults

-- the source tells its bytes, of which there are fewer than a reader takes, and their first line is a configuration
pub record IsWithinLimits (input : Input) (bytes : List ℕ) : Type 0 where
  pub given : Given
  pub first : List ℕ
  pub lines : List (List ℕ)
  pub told : input.left ≡ Some bytes
  pub few : length bytes < most
  pub is_read : lines_of bytes ≡ first ∷ lines
  pub configures : Configures first given

-- Where neither the source nor the sink failed, the mode wrote the whole text of such bytes, or memory ran out.
abbrev pub IsComplete : TellingAll → Moment → Moment → ℕ → Type 0
IsComplete at_end before after status = (bytes : List ℕ) → IsWithinLimits before.input bytes
    → (Rose before.input.faults after.input.faults → ⊥)
    → (Rose before.output.faults after.output.faults → ⊥)
    → ((status ≡ 0) × IsDone at_end bytes before after) ⊎ (status ≡ 1)
