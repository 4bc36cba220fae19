-- What the printed history of a script is.
use Rattle.std.specs.Prelude.{◌≡◌, List}
use Rattle.ely_script.specs.Lines.{ScriptLine}
use Rattle.ely_domain.specs.Given.{Given}
use Rattle.ely_history.specs.WhoGetsIn.{IsByRight}
use Rattle.ely_history.specs.Replays.{Told, made_of, steps_told, replayed}
use Rattle.ely_history.specs.Legal.{IsWhole, IsInFileOrder}

-- The history of these lines in file order: each line's steps stand in it once and in their order, before those of each later
-- line, and each outcome is the machine's at that point; so those get in who should. The lines fix the history, but for words
-- that are free.
pub record IsHistoryOf (given : Given) (lines : List ScriptLine) (h : List Told) : Type 0 where
  pub whole : IsWhole given lines h
  pub in_file_order : IsInFileOrder lines (made_of h)
  pub who_gets_in : IsByRight given (steps_told h)
  pub fixed : made_of h ≡ replayed given lines
