-- Which histories of a script are legal, whoever's turn it is.
use Rattle.std.specs.Prelude.{ℕ, ◌≡◌, ◌+◌, ◌-◌, ◌≤◌, ◌==◌, ◌&&◌, if◌then◌else◌, nat_lt, List, [], ◌∷◌, length, filter, slice_get, Option, Some, None}
use Rattle.ely_script.specs.Lines.{ScriptLine}
use Rattle.ely_login.specs.Outcomes.{is_accepted}
use Rattle.ely_domain.specs.Given.{Given}
use Rattle.ely_domain.specs.Keeping.{Kept, first_kept, word_due, kept_after}
use Rattle.ely_domain.specs.KeptKeys.{stands_for}
use Rattle.ely_history.specs.Lines.{Taken, carried_after}
use Rattle.ely_domain.specs.Machine.{Machine, first_machine, step}
use Rattle.ely_history.specs.Parts.{Part, actor_of, parts_of, event_of}
use Rattle.ely_history.specs.Replays.{Made, Told}

-- how many of an actor's lines are over, how many steps of its next line are made, and the serial that the line carries
pub record Cursor : Type 0 where
  pub over : ℕ
  pub made : ℕ
  pub carried : Option ℕ

-- where a history stands
pub record Point : Type 0 where
  pub machine : Machine
  pub kept : Kept
  pub cursors : ℕ → Cursor

-- before the first step
abbrev pub first_point : Given → Point
first_point given = record {
  machine = first_machine given;
  kept = first_kept given;
  cursors = λ _. record { over = 0; made = 0; carried = None };
}

-- an actor's lines, in order
abbrev pub own_lines : List ScriptLine → ℕ → List ScriptLine
own_lines lines actor = filter (λ l. actor_of l == actor) lines

-- The step is its actor's next by the cursor, its outcome is the machine's at that point, and its word the one that is due.
pub record IsNext (given : Given) (lines : List ScriptLine) (p : Point) (line : ScriptLine) (told : Told) : Type 0 where
  pub part : Part
  pub line_is : slice_get (own_lines lines told.made.actor) (p.cursors told.made.actor).over ≡ Some line
  pub number_is : told.made.line ≡ (p.cursors told.made.actor).over + 1
  pub part_is : slice_get (parts_of line) (p.cursors told.made.actor).made ≡ Some part
  pub event_is : event_of part (p.cursors told.made.actor).carried ≡ Some told.made.taken.event
  pub outcome_is : told.made.taken.outcome ≡ (step given p.machine told.made.taken.event).0
  pub word_is : stands_for told.shown ≡ word_due given p.machine p.kept told.made.taken.event told.made.taken.outcome

-- a refused step, or the last one, ends its line
abbrev pub cursor_after : ScriptLine → Cursor → Taken → Option ℕ → Cursor
cursor_after line cursor t carried =
    if is_accepted t.outcome && nat_lt (cursor.made + 1) (length (parts_of line))
    then record { over = cursor.over; made = cursor.made + 1; carried = carried }
    else record { over = cursor.over + 1; made = 0; carried = None }

-- the point behind a step
abbrev pub point_after : Given → Point → ScriptLine → Told → Point
point_after given p line told =
    let t = told.made.taken in
    let s = step given p.machine t.event in
    record {
      machine = s.1;
      kept = kept_after given p.machine p.kept t.event t.outcome told.shown;
      cursors = λ a.
          (if a == told.made.actor
          then cursor_after line (p.cursors a) t (carried_after (p.cursors a).carried t.event s)
          else p.cursors a);
    }

-- the history is legal from this point on, and ends at a point as it should
abbrev pub IsLegalFrom : Given → List ScriptLine → (Point → Type 0) → Point → List Told → Type 0
IsLegalFrom given lines ends p [] = ends p
IsLegalFrom given lines ends p (told ∷ h) =
    (line : ScriptLine) × IsNext given lines p line told × IsLegalFrom given lines ends (point_after given p line told) h

-- a history that may go on
abbrev pub IsLegalSoFar : Given → List ScriptLine → List Told → Type 0
IsLegalSoFar given lines h = IsLegalFrom given lines (λ p. Unit {0}) (first_point given) h

-- every actor's lines are over, and nothing of a further one is made
abbrev pub AreOver : List ScriptLine → Point → Type 0
AreOver lines p = (a : ℕ) → p.cursors a ≡ record { over = length (own_lines lines a); made = 0; carried = None }

-- a history of all steps of all lines
abbrev pub IsWhole : Given → List ScriptLine → List Told → Type 0
IsWhole given lines h = IsLegalFrom given lines (AreOver lines) (first_point given) h

-- where an actor's line with this number stands in the file
abbrev pub file_index : List ScriptLine → ℕ → ℕ → ℕ
file_index [] actor number = 0
file_index (line ∷ lines) actor number =
    if actor_of line == actor
    then (if number == 1 then 0 else file_index lines actor (number - 1) + 1)
    else file_index lines actor number + 1

-- the entries of a line stand before those of each later line of the file
abbrev pub IsInFileOrder : List ScriptLine → List Made → Type 0
IsInFileOrder lines [] = Unit {0}
IsInFileOrder lines (m ∷ []) = Unit {0}
IsInFileOrder lines (m ∷ n ∷ ms) =
    (file_index lines m.actor m.line ≤ file_index lines n.actor n.line) × IsInFileOrder lines (n ∷ ms)
