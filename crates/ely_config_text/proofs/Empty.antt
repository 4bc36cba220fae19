-- The empty line.
use Rattle.std.proofs.Common.{◌≡◌, [], Err, refl}
use Rattle.std.specs.Str.{is_utf8, chars}
use Rattle.json.specs.Json.{value}
use Rattle.json.specs.Lex.{lex, punctuate}
use Rattle.ely_config_text.specs.declared.fault.TextFault.TheVariants.{NotJson}
use Rattle.ely_config_text.specs.Texts.{config_in}

-- it is no JSON
pub empty_is_no_json : config_in [] ≡ Err NotJson
unfolding is_utf8 chars value punctuate lex
empty_is_no_json = refl
