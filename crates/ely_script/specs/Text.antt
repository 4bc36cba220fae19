-- The printed history: one line a step.
use Rattle.std.specs.Prelude.{ℕ, ◌+◌, List, [], ◌∷◌, ◌++◌, codes}
use Rattle.std.specs.Fmt.{decimal}
use Rattle.ely_script.specs.declared.entry.Entry.{Entry}
use Rattle.ely_script.specs.OutcomeTexts.{outcome_text}
use Rattle.ely_script.specs.Words.{step_text, cache_text}

-- the line of a step: its number, its actor, the line's number, the step, the outcome and the cache word
unfoldable pub line_text : ℕ → Entry → List ℕ
line_text number entry =
    decimal number ++ codes " " ++ decimal entry.actor ++ codes " " ++ decimal entry.line
    ++ codes " " ++ step_text entry.word ++ codes " " ++ outcome_text entry.outcome ++ cache_text entry.cache ++ codes "\n"

-- the lines of these steps, the first of which has this number
abbrev pub text_from : ℕ → List Entry → List ℕ
text_from number [] = []
text_from number (entry ∷ entries) = line_text number entry ++ text_from (number + 1) entries

-- the text of a history: its steps, counted from 1
abbrev pub text : List Entry → List ℕ
text entries = text_from 1 entries

-- the entry as one of the actor's line with this number
abbrev pub numbered : ℕ → Entry → Entry
numbered line entry = record entry { line = line }
