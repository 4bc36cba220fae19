-- What is found in the matches of a command is what the words give.
use Rattle.std.proofs.Common.{◌≡◌, ◌∙◌, List, ap}
use Rattle.clap.specs.declared.parser.matches.ArgMatches.{ArgMatches}
use Rattle.clap.specs.Words.{Text, first_of, found_of, matches_of, rows_of}
use Rattle.clap.proofs.WalkLemmas.{first_value-rows}
use Rattle.ely_words.specs.CommandLine.{IsFoundIn, elydom, given}

-- where the matches have the rows of the words, each name has there what the words give to it
pub found_given : (m : ArgMatches) (words : List Text) → rows_of (found_of m) ≡ matches_of elydom words → IsFoundIn words m
unfolding given
found_given m words e name = first_value-rows (found_of m) name ∙ ap (first_of name) e
