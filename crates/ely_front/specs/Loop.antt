-- A mode that is under way.
use Rattle.std.specs.Prelude.{ℕ, Bool, false, ◌≡◌, ◌⊎◌, ◌≤◌, List, [], ◌∷◌, ◌++◌, length, None}
use Rattle.std.specs.Io.KnownBytes.{Consumes, Appends}
use Rattle.ely_io.specs.Streams.{Output}
use Rattle.ely_io.specs.Lines.{lines_of, whole_lines}
use Rattle.ely_io.specs.Reading.{Reader, Counts}
use Rattle.ely_domain.specs.Costs.{RoseBy}
use Rattle.ely_domain.specs.Given.{Given}
use Rattle.ely_front.specs.declared.ending.Ending.{Ending}
use Rattle.ely_front.specs.declared.ending.Ending.TheVariants.{Done, NoMemory}
use Rattle.ely_front.specs.Moments.{Moment}
use Rattle.ely_front.specs.FirstLine.{Configures}
use Rattle.ely_front.specs.Lines.{script_of}
use Rattle.ely_front.specs.Modes.{Standing, Finishes}
use Rattle.ely_front.specs.Ending.{Closes}

-- Since the start the source gave the first line, which is the configuration, these lines, each with its LF, and what the
-- reader holds. This text was written, but for what is collected.
pub record HasRead (start now : Moment) (reader : Reader) (given : Given) (lines : List (List ℕ)) (said out : List ℕ) : Type 0 where
  pub gave : List ℕ
  pub first : List ℕ
  pub took : Consumes start.input.left now.input.left gave
  pub count : reader.taken ≡ length gave
  pub all : (more : List ℕ) → lines_of (gave ++ more) ≡ first ∷ (lines ++ lines_of (reader.held ++ more))
  pub whole : (more : List ℕ) → whole_lines (gave ++ more) ≡ first ∷ (lines ++ whole_lines (reader.held ++ more))
  pub configures : Configures first given
  pub written : List ℕ
  pub is_written : Appends start.output.held now.output.held written
  pub text_is : said ≡ written ++ out
  pub short : length lines ≤ reader.given
  pub mark : reader.mark ≡ None
  pub counts : Counts reader

-- the lines that were given were answered, and the counter of HMAC computations rose by their cost at most
pub record IsUnderWay {M : Type 0} (stands : Standing M) (start now : Moment) (reader : Reader) (mode : M) (out : List ℕ) : Type 0 where
  pub given : Given
  pub lines : List (List ℕ)
  pub said : List ℕ
  pub cost : ℕ
  pub has_read : HasRead start now reader given lines said out
  pub stood : stands given mode (script_of lines) said cost
  pub is_paid : RoseBy start.steps now.steps cost

-- a prefix of what was collected was written, and the rest is kept: nothing where no whole line is held
pub record WritesOn (before after : Output) (old new : List ℕ) (more : Bool) : Type 0 where
  pub written : List ℕ
  pub appended : Appends before.held after.held written
  pub kept : old ≡ written ++ new
  pub all : more ≡ false → new ≡ []

-- What is printed at the end was put behind what was collected, and that was written; or what was collected was written, and
-- memory ran out; or the sink failed.
abbrev pub EndsWith : (List ℕ → ℕ → Type 0) → List ℕ → ℕ → List ℕ → Output → Output → Ending → Type 0
EndsWith at_end said cost out before after result =
    ((whole : List ℕ) × Finishes at_end said cost out whole × Closes before after whole Done result)
    ⊎ Closes before after out NoMemory result
