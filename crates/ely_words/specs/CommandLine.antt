-- The command line as `clap` sees it: `elydom MODE [--workers N] [--seed N] [--actors N] [--lines N]`
use Rattle.std.specs.Prelude.{Result, Ok, Err, ⊤, ◌≡◌, ◌==◌, Bool, true, false, List, Option, Some, length, codes, option_map}
use Rattle.std.specs.Borrow.{Bor}
use Rattle.clap.specs.declared.parser.matches.ArgMatches.{ArgMatches}
use Rattle.clap.specs.Words.{App, Text, fault_of, first_of, first_value, found_of, matches_of, new_app, new_rule, with_rule}
use Rattle.clap.specs.Simple.{on_top}
use Rattle.ely_base.specs.declared.refused.Refused.{Refused}
use Rattle.ely_base.specs.declared.refused.Refused.TheVariants.{Fault, NoMemory}
use Rattle.ely_words.specs.declared.command_line.NoCommand.{NoCommand}

-- a command of this name without arguments, and without a flag for help
abbrev pub new_command : Text → App
new_command name = on_top (λ s. record s { disable_help_flag = true }) (new_app name)

-- the command with one more positional, which must be there
abbrev pub with_positional : Text → App → App
with_positional name app = with_rule app (record (new_rule name) { required = true })

-- the command with one more option, `--NAME VALUE` or `--NAME=VALUE`, which is there once or not at all
abbrev pub with_option : Text → App → App
with_option name app = with_rule app (record (new_rule name) { long = Some name })

-- the one command line: a mode that must be there, and four options
abbrev pub elydom : App
elydom =
    with_option (codes "lines") (with_option (codes "actors") (with_option (codes "seed") (with_option (codes "workers")
    (with_positional (codes "mode") (new_command (codes "elydom"))))))

-- `clap` takes the words: it finds no error of any kind in them
abbrev pub is_taken : List Text → Bool
is_taken words = length (fault_of elydom words) == 0

-- the value that the words give to the argument of this name, if they give one
unfoldable pub given : Text → List Text → Option Text
given name words = first_of name (matches_of elydom words)

-- the text that is lent, if there is one
abbrev pub text_of : Option (Bor Text) → Option Text
text_of o = option_map (λ s. s.now) o

-- the matches have at each name what the words give to it
abbrev pub IsFoundIn : List Text → ArgMatches → Type 0
IsFoundIn words m = (name : Text) → first_value (found_of m) name ≡ given name words

-- the words are taken and these are their matches, or they aren't taken, or memory ran out
abbrev pub TellsMatches : List Text → Result ArgMatches (Refused NoCommand) → Type 0
TellsMatches words (Ok m) = (is_taken words ≡ true) × IsFoundIn words m
TellsMatches words (Err (Fault _)) = is_taken words ≡ false
TellsMatches words (Err NoMemory) = ⊤
