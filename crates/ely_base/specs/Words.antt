-- Coded words: `%` and two hexadecimal digits stand for one byte, and every other byte for itself.
use Rattle.std.specs.Prelude.{ℕ, ◌+◌, ◌*◌, ◌/◌, ◌%◌, ◌==◌, ◌||◌, Bool, nat_le, if◌then◌else◌, List, [], ◌∷◌, ◌++◌, slice_index, Option, Some, None, option_and_then, Result, Ok, Err}
use Rattle.std.specs.Option.{option_map}
use Rattle.ely_base.specs.Names.{name_of}
use Rattle.ely_base.specs.Refused.{◌>>=◌, refused_as}
use Rattle.hex.specs.Hex.{hex_digit_value, upper_digits}
use Rattle.ely_base.specs.declared.texts.TextFault.{TextFault}
use Rattle.ely_base.specs.declared.texts.TextFault.TheVariants.{Bad}

-- the byte of two digits, before other bytes
abbrev pub with_code : ℕ → ℕ → Option (List ℕ) → Option (List ℕ)
with_code high low rest =
    option_and_then (λ h. option_and_then (λ l. option_map (λ bytes. (h * 16 + l) ∷ bytes) rest) (hex_digit_value low)) (hex_digit_value high)

-- the bytes of a coded word
abbrev pub word_of : List ℕ → Option (List ℕ)
word_of [] = Some []
word_of (c ∷ []) = if c == 37 then None else Some (c ∷ [])
word_of (c ∷ d ∷ []) = if c == 37 then None else option_map (λ bytes. c ∷ bytes) (word_of (d ∷ []))
word_of (c ∷ d ∷ e ∷ rest) = if c == 37 then with_code d e (word_of rest) else option_map (λ bytes. c ∷ bytes) (word_of (d ∷ e ∷ rest))

-- the bytes, or that the word is badly coded
abbrev pub or_bad : Option (List ℕ) → Result (List ℕ) TextFault
or_bad None = Err Bad
or_bad (Some bytes) = Ok bytes

-- what a word is read as
abbrev pub read_word_of : List ℕ → Result (List ℕ) TextFault
read_word_of text = or_bad (word_of text)

-- what a word is read as where it should stand for a name
abbrev pub name_word_of : List ℕ → Result (List ℕ) TextFault
name_word_of text = read_word_of text >>= λ bytes. refused_as (λ f. Bad) (name_of bytes)

-- the bytes that are written as codes
abbrev pub is_special : ℕ → Bool
is_special b = nat_le b 0x20 || b == 37 || b == 44 || b == 0x7F

-- what one byte is written as
abbrev pub code_of : ℕ → List ℕ
code_of b = if is_special b then (37 ∷ slice_index upper_digits (b / 16) ∷ slice_index upper_digits (b % 16) ∷ []) else (b ∷ [])

-- the text that is written
abbrev pub word_text : List ℕ → List ℕ
word_text [] = []
word_text (b ∷ bytes) = code_of b ++ word_text bytes
