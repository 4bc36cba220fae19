-- The words of a line behind its verb: how many there are, and what each stands for. Words are numbered from 1, the actor.
use Rattle.std.specs.Prelude.{ℕ, ◌+◌, ◌-◌, ◌^◌, nat_le, if◌then◌else◌, List, [], ◌∷◌, length, codes, Option, Some, None, Result, Ok, Err}
use Rattle.std.specs.List.{join_with_byte}
use Rattle.std.specs.Option.{ok_or}
use Rattle.std.specs.Str.{bytes_eq}
use Rattle.ely_base.specs.Numbers.{number_of}
use Rattle.ely_base.specs.Refused.{◌>>=◌, refused_as}
use Rattle.ely_base.specs.Texts.{base64_of}
use Rattle.ely_base.specs.Words.{read_word_of, name_word_of}
use Rattle.ely_row.specs.Attributes.{is_values}
use Rattle.ely_login.specs.declared.outcome.BadLine.{BadLine}
use Rattle.ely_login.specs.declared.outcome.BadLine.TheVariants as bad

-- the next argument and those behind it
abbrev pub first_of : List (List ℕ) → Result (List ℕ × List (List ℕ)) BadLine
first_of [] = Err bad.Arity
first_of (word ∷ words) = Ok (word, words)

-- the last argument, where one is left
abbrev pub last_of : List (List ℕ) → Result (Option (List ℕ)) BadLine
last_of [] = Ok None
last_of (word ∷ []) = Ok (Some word)
last_of _ = Err bad.Arity

-- no argument is left
abbrev pub none_of : List (List ℕ) → Result (Unit {0}) BadLine
none_of [] = Ok tt
none_of (word ∷ words) = Err bad.Arity

-- exactly one argument
abbrev pub one_of : List (List ℕ) → Result (List ℕ) BadLine
one_of words = do
  first ← first_of words
  end ← none_of first.1
  Ok first.0

-- exactly two arguments
abbrev pub two_of : List (List ℕ) → Result (List ℕ × List ℕ) BadLine
two_of words = do
  first ← first_of words
  second ← one_of first.1
  Ok (first.0, second)

-- exactly three arguments
abbrev pub three_of : List (List ℕ) → Result (List ℕ × List ℕ × List ℕ) BadLine
three_of words = do
  first ← first_of words
  last ← two_of first.1
  Ok (first.0, last.0, last.1)

-- exactly five arguments
abbrev pub five_of : List (List ℕ) → Result (List ℕ × List ℕ × List ℕ × List ℕ × List ℕ) BadLine
five_of words = do
  first ← first_of words
  second ← first_of first.1
  third ← first_of second.1
  last ← two_of third.1
  Ok (first.0, second.0, third.0, last.0, last.1)

-- as many arguments as an attribute may have values: 1 to 64
abbrev pub some_of : List (List ℕ) → Result (List (List ℕ)) BadLine
some_of words = if is_values words then Ok words else Err bad.Arity

-- the rest of the line, with its spaces as they stand; at least the space before it must stand there
abbrev pub rest_of : List (List ℕ) → Result (List ℕ) BadLine
rest_of [] = Err bad.Arity
rest_of (word ∷ words) = Ok (join_with_byte 32 (word ∷ words))

-- the number up to max that the word of this number is
abbrev pub number_at : ℕ → ℕ → List ℕ → Result ℕ BadLine
number_at max number word = ok_or (number_of max word) (bad.Number number)

-- the login that the word of this number names: a number below 2^32
abbrev pub ctx_at : ℕ → List ℕ → Result ℕ BadLine
ctx_at number word = number_at (2 ^ 32 - 1) number word

-- the word of this number as it stands, of at least one byte
abbrev pub raw_at : ℕ → List ℕ → Result (List ℕ) BadLine
raw_at number word = if nat_le 1 (length word) then Ok word else Err (bad.Word number)

-- the bytes whose base64 text the word of this number is
abbrev pub base64_at : ℕ → List ℕ → Result (List ℕ) BadLine
base64_at number word = refused_as (λ f. bad.Word number) (base64_of word)

-- the text that the word of this number stands for: in base64, or `-` for the empty one
abbrev pub text_at : ℕ → List ℕ → Result (List ℕ) BadLine
text_at number word = if bytes_eq word (codes "-") then Ok [] else base64_at number word

-- the bytes of the coded word of this number
abbrev pub coded_at : ℕ → List ℕ → Result (List ℕ) BadLine
coded_at number word = refused_as (λ f. bad.Word number) (read_word_of word)

-- the name that the coded word of this number stands for
abbrev pub name_at : ℕ → List ℕ → Result (List ℕ) BadLine
name_at number word = refused_as (λ f. bad.Word number) (name_word_of word)

-- the names that the coded words from this number on stand for
abbrev pub names_at : ℕ → List (List ℕ) → Result (List (List ℕ)) BadLine
names_at number [] = Ok []
names_at number (word ∷ words) =
    name_at number word >>= λ name.
    names_at (number + 1) words >>= λ names.
    Ok (name ∷ names)

-- the place that the third and the fourth word name: a realm and a name there
abbrev pub place_at : List ℕ → List ℕ → Result (List ℕ × List ℕ) BadLine
place_at realm name = do
  r ← name_at 3 realm
  n ← name_at 4 name
  Ok (r, n)
