-- Which lists of words are a command, and what it asks for: a table of the modes with the options that each allows.
use Rattle.std.specs.Prelude.{Result, Ok, Err, ⊤, ◌≡◌, ◌||◌, Bool, not, List, Option, Some, None, if◌then◌else◌, codes, is_some, option_and_then}
use Rattle.std.specs.Str.{bytes_eq}
use Rattle.clap.specs.Words.{Text}
use Rattle.ely_base.specs.declared.refused.Refused.{Refused}
use Rattle.ely_base.specs.declared.refused.Refused.TheVariants.{Fault, NoMemory}
use Rattle.ely_words.specs.CommandLine.{given, is_taken}
use Rattle.ely_words.specs.declared.command_line.NoCommand.{NoCommand}
use Rattle.ely_words.specs.declared.asked.Asked.{Asked}
use Rattle.ely_words.specs.declared.asked.Asked.TheVariants.{Replay, Check}

-- no option is given
abbrev pub none_given : Option Text → Option Text → Option Text → Option Text → Bool
none_given workers seed actors lines = not (is_some workers || is_some seed || is_some actors || is_some lines)

-- this, where no option is given
abbrev pub asked_alone : Asked → Option Text → Option Text → Option Text → Option Text → Option Asked
asked_alone asked workers seed actors lines = if none_given workers seed actors lines then Some asked else None

-- what this word asks for, where the table allows these options with it
abbrev pub asked_for : Text → Option Text → Option Text → Option Text → Option Text → Option Asked
asked_for word workers seed actors lines =
    if bytes_eq word (codes "replay") then asked_alone Replay workers seed actors lines
    else (if bytes_eq word (codes "check") then asked_alone Check workers seed actors lines
    else None)

-- what the words ask for, where `clap` takes them and the table allows their options with the mode
abbrev pub asked_by : List Text → Option Asked
asked_by words = if is_taken words
    then option_and_then (λ word. asked_for word (given (codes "workers") words) (given (codes "seed") words)
    (given (codes "actors") words) (given (codes "lines") words)) (given (codes "mode") words)
    else None

-- the words ask for this, or they are no command, or memory ran out
abbrev pub TellsAsked : List Text → Result Asked (Refused NoCommand) → Type 0
TellsAsked words (Ok asked) = asked_by words ≡ Some asked
TellsAsked words (Err (Fault _)) = asked_by words ≡ None
TellsAsked words (Err NoMemory) = ⊤
