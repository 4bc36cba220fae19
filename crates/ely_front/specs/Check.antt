-- What a check writes of the lines of a script behind its first line.
use Rattle.std.specs.Prelude.{ℕ, ◌≡◌, ◌+◌, ◌<◌, List, [], ◌∷◌, ◌++◌, length, codes, Ok, Err}
use Rattle.std.specs.Fmt.{decimal}
use Rattle.std.specs.Io.KnownBytes.{Appends, Consumes, IsAtEnd}
use Rattle.ely_io.specs.Lines.{lines_of}
use Rattle.ely_io.specs.Reading.{most}
use Rattle.ely_script.specs.declared.command.LineError.TheVariants.{Bad}
use Rattle.ely_login.specs.declared.outcome.BadLine.{BadLine}
use Rattle.ely_login.specs.declared.word.StepWord.TheVariants as steps
use Rattle.ely_script.specs.FaultTexts.{bad_text}
use Rattle.ely_script.specs.Lines.{ScriptLine}
use Rattle.ely_script.specs.Words.{step_text}
use Rattle.ely_domain.specs.Given.{Given}
use Rattle.ely_front.specs.declared.check.Check.{Check}
use Rattle.ely_front.specs.Moments.{Moment}
use Rattle.ely_front.specs.FirstLine.{Configures}
use Rattle.ely_front.specs.Lines.{script_of}

-- the line that is written where the line with this number can't be read
abbrev pub bad_line : ℕ → BadLine → List ℕ
bad_line number fault =
    decimal number ++ codes " " ++ step_text steps.BadLine ++ codes " " ++ bad_text fault ++ codes "\n"

-- what is written of the line with this number: nothing where it was read
abbrev pub line_told : ℕ → ScriptLine → List ℕ
line_told number (Ok command) = []
line_told number (Err (Bad actor fault)) = bad_line number fault

-- what is written of these lines, the first of which has this number
abbrev pub bad_lines : ℕ → List ScriptLine → List ℕ
bad_lines number [] = []
bad_lines number (line ∷ lines) = line_told number line ++ bad_lines (number + 1) lines

-- how many of the lines can't be read
abbrev pub count_bad : List ScriptLine → ℕ
count_bad [] = 0
count_bad (Ok command ∷ lines) = count_bad lines
count_bad (Err fault ∷ lines) = count_bad lines + 1

-- the last line that is written: how many lines there are, and how many of them can't be read
abbrev pub total_text : ℕ → ℕ → List ℕ
total_text lines bad = codes "checked " ++ decimal lines ++ codes " lines " ++ decimal bad ++ codes " bad\n"

-- what is written of all the lines, which are counted from 1
abbrev pub check_text : List ScriptLine → List ℕ
check_text lines = bad_lines 1 lines ++ total_text (length lines) (count_bad lines)

-- what is written of the lines while more may come: those that can't be read
abbrev pub TellsBad : Given → List ScriptLine → List ℕ → Type 0
TellsBad given lines said = said ≡ bad_lines 1 lines

-- what is written where they are all, without an HMAC computation
abbrev pub TellsTotal : Given → List ScriptLine → List ℕ → ℕ → Type 0
TellsTotal given lines said cost = (said ≡ check_text lines) × (cost ≡ 0)

-- The whole input was read, its first line is a configuration, and what a check tells of the other lines was written, and
-- nothing else. No HMAC computation was made.
pub record IsChecked (gave : List ℕ) (before after : Moment) : Type 0 where
  pub given : Given
  pub first : List ℕ
  pub lines : List (List ℕ)
  pub at_end : IsAtEnd after.input.left
  pub few : length gave < most
  pub is_read : lines_of gave ≡ first ∷ lines
  pub configures : Configures first given
  pub is_written : Appends before.output.held after.output.held (check_text (script_of lines))
  pub uncounted : after.steps ≡ before.steps

-- the source gave some bytes, which were checked
abbrev pub Checks : Moment → Moment → Type 0
Checks before after = (gave : List ℕ) × Consumes before.input.left after.input.left gave × IsChecked gave before after

-- a check has counted these lines
pub record HasCounted (check : Check) (lines : List ScriptLine) : Type 0 where
  pub lines_are : check.lines ≡ length lines
  pub bad_are : check.bad ≡ count_bad lines

-- it has answered these lines: the text is what it tells of them, and it cost nothing
pub record HasChecked (given : Given) (check : Check) (lines : List ScriptLine) (said : List ℕ) (cost : ℕ) : Type 0 where
  pub counted : HasCounted check lines
  pub text_is : said ≡ bad_lines 1 lines
  pub free : cost ≡ 0
