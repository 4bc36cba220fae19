-- What one call of a reader of lines does.
use Rattle.std.specs.Prelude.{ℕ, ◌≡◌, ◌+◌, ◌^◌, ◌<◌, ◌≤◌, Bool, true, false, List, [], ◌∷◌, ◌++◌, length, Option, Some, None, Result, Ok, Err}
use Rattle.std.specs.Io.KnownBytes.{Consumes, IsAtEnd}
use Rattle.ely_base.specs.declared.refused.Refused.{Refused}
use Rattle.ely_base.specs.declared.refused.Refused.TheVariants.{Fault, NoMemory}
use Rattle.ely_io.specs.declared.line.Line.{Line}
use Rattle.ely_io.specs.declared.line.Line.TheVariants.{End, Text, TooLong}
use Rattle.ely_io.specs.declared.line.LineFault.{LineFault}
use Rattle.ely_io.specs.declared.line.LineFault.TheVariants.{Read, Spent}
use Rattle.ely_io.specs.Streams.{Input}
use Rattle.ely_io.specs.Causes.{Rose}
use Rattle.ely_io.specs.Lines.{HasNoLf}

-- the bytes that a reader holds, how many it has taken, how many of them up to the end of the last line given, and the fault
-- that it answered
pub record Reader : Type 0 where
  pub held : List ℕ
  pub taken : ℕ
  pub given : ℕ
  pub mark : Option LineFault
  -- whether the last call met the end of the input
  pub ended : Bool

-- a reader that has taken nothing
abbrev pub new_reader : Reader
new_reader = record { held = []; taken = 0; given = 0; mark = None; ended = false }

-- the most bytes that a reader takes
abbrev pub most : ℕ
most = 2 ^ 40

-- these bytes are a line that is given: up to an LF, or up to the end
abbrev pub IsGivenAt : Bool → List ℕ → List ℕ → Reader → Option (List ℕ) → Type 0
IsGivenAt false bytes line new left = bytes ≡ line ++ 10 ∷ new.held
IsGivenAt true bytes line new left = (bytes ≡ line) × (new.held ≡ []) × (0 < length line) × IsAtEnd left × (new.taken < most)

-- the same, where the reader says whether it met the end of the input
abbrev pub IsGiven : List ℕ → List ℕ → Reader → Option (List ℕ) → Type 0
IsGiven bytes line new left = IsGivenAt new.ended bytes line new left

-- A call that begins without a mark, over a source that gave the bytes bs.
abbrev pub GivesLine : ℕ → Reader → Reader → List ℕ → Input → Input → Result Line (Refused LineFault) → Type 0
GivesLine limit old new bs before after (Ok End) =
    (old.held ++ bs ≡ []) × (new.held ≡ []) × IsAtEnd after.left × (new.taken < most) × (new.mark ≡ None) × (new.ended ≡ true)
GivesLine limit old new bs before after (Ok (Text line)) =
    HasNoLf line × (length line ≤ limit) × IsGiven (old.held ++ bs) line new after.left × (new.mark ≡ None)
GivesLine limit old new bs before after (Ok TooLong) =
    (line : List ℕ) × HasNoLf line × (limit < length line) × IsGiven (old.held ++ bs) line new after.left × (new.mark ≡ None)
GivesLine limit old new bs before after (Err (Fault Read)) =
    HasNoLf (old.held ++ bs) × Rose before.faults after.faults × (new.given ≡ old.given) × (new.mark ≡ Some Read) × (new.taken < most)
GivesLine limit old new bs before after (Err (Fault Spent)) =
    HasNoLf (old.held ++ bs) × (new.taken ≡ most) × (new.given ≡ old.given) × (new.mark ≡ Some Spent)
GivesLine limit old new bs before after (Err NoMemory) =
    (new.held ≡ old.held ++ bs) × (new.given ≡ old.given) × (new.mark ≡ None)

-- One call, which begins without a mark, between two moments of its source.
abbrev pub Next : ℕ → Reader → Reader → Input → Input → Result Line (Refused LineFault) → Type 0
Next limit old new before after result =
    (bs : List ℕ) × Consumes before.left after.left bs × (new.taken ≡ old.taken + length bs) × GivesLine limit old new bs before after result

-- It answers its mark, and stays as it is.
abbrev pub Answers : Option LineFault → Reader → Reader → Result Line (Refused LineFault) → Type 0
Answers None old new result = Unit {0}
Answers (Some fault) old new result = (result ≡ Err (Fault fault)) × (new ≡ old)

-- What is taken and not given is held.
abbrev pub Counts : Reader → Type 0
Counts r = (r.taken ≤ most) × (r.mark ≡ None → r.given + length r.held ≡ r.taken)
