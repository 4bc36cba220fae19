-- The lines of a script, and what is printed of them.
use Rattle.std.specs.Prelude.{ℕ, List, [], ◌∷◌, map, Err}
use Rattle.ely_io.specs.declared.line.Line.{Line as Read}
use Rattle.ely_io.specs.declared.line.Line.TheVariants.{End, Text, TooLong}
use Rattle.ely_script.specs.Lines.{ScriptLine, read_of, too_long}
use Rattle.ely_script.specs.Text.{text}
use Rattle.ely_domain.specs.Given.{Given}
use Rattle.ely_domain.specs.Machine.{first_machine}
use Rattle.ely_history.specs.Costs.{cost_from}
use Rattle.ely_domain.specs.Keeping.{first_kept}
use Rattle.ely_history.specs.Replays.{Told, entry_of, steps_told, words_told}

-- what a reader of lines gave, read as a line of the script: nothing at the end
abbrev pub heard : Read → List ScriptLine
heard End = []
heard (Text line) = read_of line ∷ []
heard TooLong = Err too_long ∷ []

-- the lines behind the first one, as they are read
abbrev pub script_of : List (List ℕ) → List ScriptLine
script_of lines = map read_of lines

-- the text of a history
abbrev pub text_of : List Told → List ℕ
text_of h = text (map entry_of h)

-- how many HMAC computations a history takes: each naming derives its key, unless it found it, and each check tries what was
-- shown
unfoldable pub cost_of : Given → List Told → ℕ
cost_of given h = cost_from given (first_machine given) (first_kept given) (steps_told h) (words_told h)
