-- Names, texts, numbers and flags of JSON values.
use Rattle.std.specs.Prelude.{ℕ, ◌^◌, Bool, false, List, nat_lt, if◌then◌else◌, Option, Some, None, option_and_then}
use Rattle.std.specs.Result.{result_ok}
use Rattle.serde_json.specs.Data.{Data, Members as Object}
use Rattle.serde_json.specs.Find.{as_bool, as_number, as_str, as_u64}
use Rattle.ely_base.specs.Names as names
use Rattle.ely_config_json.specs.Parts.{given, list_of, pair_of}

-- a text that is a name
abbrev pub name_of : Data → Option (List ℕ)
name_of value = option_and_then (λ text. result_ok (names.name_of text)) (as_str value)

-- the bytes of a text
abbrev pub text_of : Data → Option (List ℕ)
text_of value = as_str value

-- a whole number below 2^32
abbrev pub number_of : Data → Option ℕ
number_of value = option_and_then (λ n. if nat_lt n (2 ^ 32) then Some n else None) (option_and_then as_u64 (as_number value))

-- true or false
abbrev pub flag_of : Data → Option Bool
flag_of value = as_bool value

-- names
abbrev pub names_of : Data → Option (List (List ℕ))
names_of value = list_of name_of value

-- pairs of names
abbrev pub pairs_of : Data → Option (List (List ℕ × List ℕ))
pairs_of value = list_of (pair_of name_of name_of) value

-- the flag of this name in an object; false where it isn't there
abbrev pub flag_in : List ℕ → Object → Option Bool
flag_in name object = given flag_of false name object
