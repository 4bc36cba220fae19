-- How a mode ends, and what was written then.
use Rattle.std.specs.Prelude.{ℕ, ◌≡◌, ◌⊎◌, ◌≤◌, ◌<◌, List, [], ◌∷◌, ◌++◌, length, codes, Err}
use Rattle.std.specs.Io.KnownBytes.{Consumes, Appends, IsAtEnd}
use Rattle.ely_base.specs.declared.refused.Refused.{Refused}
use Rattle.ely_base.specs.declared.refused.Refused.TheVariants.{Fault, NoMemory as OutOfMemory}
use Rattle.ely_io.specs.declared.line.LineFault.{LineFault}
use Rattle.ely_io.specs.declared.line.LineFault.TheVariants.{Read as ReadFault, Spent as SpentFault}
use Rattle.ely_io.specs.Streams.{Input, Output}
use Rattle.ely_io.specs.Causes.{AppendsPrefix}
use Rattle.ely_io.specs.Lines.{lines_of, whole_lines}
use Rattle.ely_io.specs.Reading.{most}
use Rattle.ely_config_text.specs.declared.fault.TextFault.{TextFault}
use Rattle.ely_config_text.specs.Texts.{fault_text}
use Rattle.ely_domain.specs.Costs.{RoseBy}
use Rattle.ely_domain.specs.Given.{Given}
use Rattle.ely_front.specs.declared.ending.Ending.{Ending}
use Rattle.ely_front.specs.declared.ending.Ending.TheVariants.{Done, NoMemory, Words, Config, Read, Write, ConfigLimit, BytesLimit}
use Rattle.ely_front.specs.Moments.{Moment}
use Rattle.ely_front.specs.FirstLine.{conf, Configures, config_most, config_limit_text, IsFirstLine}
use Rattle.ely_front.specs.Lines.{script_of}
use Rattle.ely_front.specs.Modes.{Telling, TellingAll}
use Rattle.ely_front.specs.Printed.{IsPrinted, IsPrintedWhole}

-- the exit status of each ending
abbrev pub status_of : Ending → ℕ
status_of Done = 0
status_of NoMemory = 1
status_of Words = 2
status_of Config = 3
status_of Read = 4
status_of Write = 5
status_of ConfigLimit = 6
status_of BytesLimit = 6

-- the line that is written where the reader took all that it may take
abbrev pub bytes_limit_text : List ℕ
bytes_limit_text = codes "limit bytes 1099511627776\n"

-- The whole input was read, its first line is the configuration, and what the mode prints of the other lines where they are all
-- was written, and nothing else. The counter of HMAC computations rose by what that costs at most.
pub record IsDone (at_end : TellingAll) (gave : List ℕ) (before after : Moment) : Type 0 where
  pub given : Given
  pub first : List ℕ
  pub lines : List (List ℕ)
  pub said : List ℕ
  pub cost : ℕ
  pub at_end_of_input : IsAtEnd after.input.left
  pub few : length gave < most
  pub is_read : lines_of gave ≡ first ∷ lines
  pub configures : Configures first given
  pub is_told : at_end given (script_of lines) said cost
  pub is_written : Appends before.output.held after.output.held said
  pub is_paid : RoseBy before.steps after.steps cost

-- A text that belongs to an ending of the mode, for the bytes that the source gave. Only at the end of the input is a line
-- read that has no LF.
abbrev pub Says : Telling → TellingAll → List ℕ → Input → Ending → List ℕ → Type 0
Says told at_end gave input Done said = IsAtEnd input.left × (length gave < most) × IsPrintedWhole at_end (lines_of gave) said
Says told at_end gave input Read said = (length gave < most) × IsPrinted told (whole_lines gave) said
Says told at_end gave input BytesLimit said = (length gave ≡ most)
    × (printed : List ℕ) × IsPrinted told (whole_lines gave) printed × (said ≡ printed ++ bytes_limit_text)
Says told at_end gave input Config said = (first : List ℕ) × (fault : TextFault) × IsFirstLine gave input first
    × (length first ≤ config_most) × (conf first ≡ Err fault) × (said ≡ fault_text fault)
Says told at_end gave input ConfigLimit said = (first : List ℕ) × IsFirstLine gave input first
    × (config_most < length first) × (said ≡ config_limit_text)
Says told at_end gave input _ said = ⊥

-- nothing was written, or a prefix of a text that belongs to an ending
abbrev pub IsCutShort : Telling → TellingAll → List ℕ → Moment → Moment → Type 0
IsCutShort told at_end gave before after = Appends before.output.held after.output.held []
    ⊎ ((ending : Ending) × (said : List ℕ) × Says told at_end gave after.input ending said
    × AppendsPrefix before.output.held after.output.held said)

-- a text that belongs to the ending was written whole
abbrev pub IsSaid : Telling → TellingAll → List ℕ → Moment → Moment → Ending → Type 0
IsSaid told at_end gave before after ending = (said : List ℕ) × Says told at_end gave after.input ending said
    × Appends before.output.held after.output.held said

-- how the mode ends between two moments, where the source gave these bytes
abbrev pub Ends : Telling → TellingAll → List ℕ → Moment → Moment → Ending → Type 0
Ends told at_end gave before after Done = IsDone at_end gave before after
Ends told at_end gave before after NoMemory = IsCutShort told at_end gave before after
Ends told at_end gave before after Write = IsCutShort told at_end gave before after
Ends told at_end gave before after Words = ⊥
Ends told at_end gave before after ending = IsSaid told at_end gave before after ending

-- the source gave some bytes, no more than a reader takes, and the mode ends so
abbrev pub EndsAs : Telling → TellingAll → Moment → Moment → Ending → Type 0
EndsAs told at_end before after ending = (gave : List ℕ) × Consumes before.input.left after.input.left gave
    × (length gave ≤ most) × Ends told at_end gave before after ending

-- the text was written and that is the ending, or the sink failed
abbrev pub Closes : Output → Output → List ℕ → Ending → Ending → Type 0
Closes before after said ending result = ((result ≡ ending) × Appends before.held after.held said)
    ⊎ ((result ≡ Write) × AppendsPrefix before.held after.held said)

-- the same, or memory ran out before anything was written
abbrev pub Refuses : Output → Output → List ℕ → Ending → Ending → Type 0
Refuses before after said ending result = ((result ≡ NoMemory) × (after ≡ before)) ⊎ Closes before after said ending result

-- how a mode ends where the reader of lines refused
abbrev pub stop_ending : Refused LineFault → Ending
stop_ending OutOfMemory = NoMemory
stop_ending (Fault ReadFault) = Read
stop_ending (Fault SpentFault) = BytesLimit

-- the text that is written then
abbrev pub stop_text : Refused LineFault → List ℕ
stop_text OutOfMemory = []
stop_text (Fault ReadFault) = []
stop_text (Fault SpentFault) = bytes_limit_text
