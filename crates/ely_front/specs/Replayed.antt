-- What a replay prints of the lines of a script behind its first line.
use Rattle.std.specs.Prelude.{ℕ, ◌≡◌, ◌+◌, ◌≤◌, ◌<◌, List, ◌∷◌, length}
use Rattle.std.specs.Io.KnownBytes.{Appends, Consumes, IsAtEnd}
use Rattle.ely_io.specs.Lines.{lines_of}
use Rattle.ely_io.specs.Reading.{most}
use Rattle.ely_script.specs.Lines.{ScriptLine}
use Rattle.ely_domain.specs.Given.{Given}
use Rattle.ely_history.specs.Headline.{IsHistoryOf}
use Rattle.ely_history.specs.Replays.{Told}
use Rattle.ely_front.specs.Moments.{Moment}
use Rattle.ely_front.specs.FirstLine.{Configures}
use Rattle.ely_front.specs.Lines.{script_of, text_of, cost_of}

-- the text of a history of these lines
abbrev pub IsTextOf : Given → List ScriptLine → List ℕ → Type 0
IsTextOf given lines said = (h : List Told) × IsHistoryOf given lines h × (said ≡ text_of h)

-- the same, and what the history costs
abbrev pub IsPaidTextOf : Given → List ScriptLine → List ℕ → ℕ → Type 0
IsPaidTextOf given lines said cost = (h : List Told) × IsHistoryOf given lines h × (said ≡ text_of h) × (cost ≡ cost_of given h)

-- The whole input was read, its first line is the configuration, and the text of a history of the other lines was
-- written, and nothing else. The counter of HMAC computations rose by the cost of that history at most.
pub record IsReplayed (gave : List ℕ) (before after : Moment) : Type 0 where
  pub given : Given
  pub first : List ℕ
  pub lines : List (List ℕ)
  pub history : List Told
  pub at_end : IsAtEnd after.input.left
  pub few : length gave < most
  pub is_read : lines_of gave ≡ first ∷ lines
  pub configures : Configures first given
  pub is_history : IsHistoryOf given (script_of lines) history
  pub is_written : Appends before.output.held after.output.held (text_of history)
  pub is_paid : after.steps ≤ before.steps + cost_of given history

-- the source gave some bytes, which were replayed
abbrev pub Replays : Moment → Moment → Type 0
Replays before after = (gave : List ℕ) × Consumes before.input.left after.input.left gave × IsReplayed gave before after
