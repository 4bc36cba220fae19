-- How a line of a script is read: its actor, its verb and the verb's arguments, or its first fault.
use Rattle.std.specs.Prelude.{ℕ, ◌-◌, ◌^◌, nat_lt, if◌then◌else◌, List, [], ◌∷◌, length, Option, Some, None, Result, Ok, Err}
use Rattle.ely_base.specs.Numbers.{number_of}
use Rattle.ely_base.specs.Parts.{parts_at}
use Rattle.ely_script.specs.declared.command.Command.{Command}
use Rattle.ely_script.specs.declared.command.LineError.{LineError}
use Rattle.ely_script.specs.declared.command.LineError.TheVariants.{Bad}
use Rattle.ely_script.specs.declared.command.Verb.{Verb}
use Rattle.ely_script.specs.declared.limits.TheConstants.{MAX_LINE_BYTES}
use Rattle.ely_login.specs.declared.outcome.BadLine.{BadLine}
use Rattle.ely_login.specs.declared.outcome.BadLine.TheVariants as bad
use Rattle.ely_script.specs.Verbs.{verb_of}

-- a line that was read
abbrev pub ScriptLine : Type 0
ScriptLine = Result Command LineError

-- the line of this actor, or its fault
abbrev pub line_by : ℕ → Result Verb BadLine → ScriptLine
line_by actor (Ok verb) = Ok (record { actor = actor; verb = verb })
line_by actor (Err fault) = Err (Bad actor fault)

-- the words behind the actor: a verb and its arguments
abbrev pub verb_in : List (List ℕ) → Result Verb BadLine
verb_in [] = Err bad.NoVerb
verb_in (word ∷ args) = verb_of word args

-- the actor, where the first word is a number below 2^32, and then the rest
abbrev pub by_actor : Option ℕ → List (List ℕ) → ScriptLine
by_actor None rest = Err (Bad 0 bad.NoActor)
by_actor (Some actor) rest = line_by actor (verb_in rest)

-- the words of a line, the first of which is the actor
abbrev pub of_words : List (List ℕ) → ScriptLine
of_words [] = Err (Bad 0 bad.NoActor)
of_words (first ∷ rest) = by_actor (number_of (2 ^ 32 - 1) first) rest

-- the fault of a line of too many bytes, of which no actor is read
abbrev pub too_long : LineError
too_long = Bad 0 bad.Long

-- a line is cut at each single space
unfoldable pub read_of : List ℕ → ScriptLine
read_of line = if nat_lt MAX_LINE_BYTES (length line) then Err too_long else of_words (parts_at 32 line)
