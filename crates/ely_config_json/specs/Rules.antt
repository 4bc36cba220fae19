-- The rules that JSON values stand for.
use Rattle.std.specs.Prelude.{ℕ, zero, suc, List, if◌then◌else◌, codes, Option, Some, None, option_map, option_and_then}
use Rattle.std.specs.Str.{bytes_eq}
use Rattle.serde_json.specs.Data.{Data, Members as Object}
use Rattle.serde_json.specs.Find.{as_object}
use Rattle.ely_pipeline.specs.declared.rule.Rule.{Rule}
use Rattle.ely_pipeline.specs.declared.rule.Rule.TheVariants.{Constant, AddPrefix, AddSuffix, StripPrefix, StripSuffix, Before, After, Map, Require, Chain, First}
use Rattle.ely_config_json.specs.Names.{name_of, names_of, pairs_of}
use Rattle.ely_config_json.specs.Parts.{by_word, list_of, needed}

-- the rule of this word with a text
abbrev pub text_rule : List ℕ → List ℕ → Option Rule
text_rule word text =
    if bytes_eq word (codes "add-prefix") then Some (AddPrefix text)
    else (if bytes_eq word (codes "add-suffix") then Some (AddSuffix text)
    else (if bytes_eq word (codes "strip-prefix") then Some (StripPrefix text)
    else (if bytes_eq word (codes "strip-suffix") then Some (StripSuffix text)
    else (if bytes_eq word (codes "before") then Some (Before text)
    else (if bytes_eq word (codes "after") then Some (After text)
    else None)))))

-- the rule of this word that has no rule in it
abbrev pub simple_rule : Object → List ℕ → Option Rule
simple_rule object word =
    if bytes_eq word (codes "constant") then option_map Constant (needed name_of (codes "to") object)
    else (if bytes_eq word (codes "map") then option_map Map (needed pairs_of (codes "pairs") object)
    else (if bytes_eq word (codes "require") then option_map Require (needed names_of (codes "names") object)
    else option_and_then (text_rule word) (needed name_of (codes "text") object)))

-- the rule of this word, with rules in it read so
abbrev pub rule_in : (Data → Option Rule) → Object → List ℕ → Option Rule
rule_in inner object word =
    if bytes_eq word (codes "chain") then option_map Chain (needed (list_of inner) (codes "of") object)
    else (if bytes_eq word (codes "first") then option_map First (needed (list_of inner) (codes "of") object)
    else simple_rule object word)

-- the rule of a value that nests at most so many levels deep
unfoldable pub rule_of : ℕ → Data → Option Rule
rule_of zero value = None
rule_of (suc levels) value = option_and_then (by_word (rule_in (rule_of levels)) (codes "rule")) (as_object value)
