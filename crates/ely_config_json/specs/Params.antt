-- What derives keys of clear passwords, as JSON objects say it.
use Rattle.std.specs.Prelude.{ℕ, List, [], if◌then◌else◌, codes, Option, Some, None, option_and_then}
use Rattle.std.specs.Result.{result_ok}
use Rattle.serde_json.specs.Data.{Data, Members as Object}
use Rattle.serde_json.specs.Find.{as_object, as_str}
use Rattle.ely_base.specs.Texts.{base64_of}
use Rattle.ely_row.specs.Salts.{Params, is_params}
use Rattle.ely_config_json.specs.Names.{number_of, text_of}
use Rattle.ely_config_json.specs.Parts.{both, given, optional}

-- the bytes of a base64 text (RFC 4648 section 4)
abbrev pub base64_in : Data → Option (List ℕ)
base64_in value = option_and_then (λ text. result_ok (base64_of text)) (as_str value)

-- the turns, 4,096 where they aren't said, and the salt for every password, where it is there
abbrev pub scram_of : Data → Option (ℕ × Option (List ℕ))
scram_of value = option_and_then (λ object. both (given number_of 4096 (codes "turns") object) (optional base64_in (codes "salt") object)) (as_object value)

-- parts within their bounds
abbrev pub bounded : Params → Option Params
bounded params = if is_params params then Some params else None

-- what derives keys: 4,096 turns, derived salts and an empty seed where nothing else is said
abbrev pub params_in : Object → Option Params
params_in object = option_and_then (λ made. bounded (record { turns = made.0.0; salt = made.0.1; seed = made.1 }))
    (both (given scram_of (4096, None) (codes "scram") object) (given text_of [] (codes "seed") object))
