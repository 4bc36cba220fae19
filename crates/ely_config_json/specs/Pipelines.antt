-- The pipelines that JSON objects stand for.
use Rattle.std.specs.Prelude.{ℕ, List, [], ◌∷◌, codes, Option, Some, None, option_map, option_and_then}
use Rattle.std.specs.Option.{option_map_or}
use Rattle.serde_json.specs.Data.{Data, Members as Object}
use Rattle.serde_json.specs.Find.{as_object, get_member}
use Rattle.ely_pipeline.specs.declared.rule.Rule.{Rule}
use Rattle.ely_pipeline.specs.declared.mapper.RealmMapper.{RealmMapper}
use Rattle.ely_pipeline.specs.declared.pipeline.Pipeline.{Pipeline}
use Rattle.ely_config.specs.Configs.{plain_pipeline}
use Rattle.ely_config_json.specs.Names.{name_of}
use Rattle.ely_config_json.specs.Parts.{both, given, list_of, needed, optional}
use Rattle.ely_config_json.specs.RealmMappers.{realm_mapper_of}
use Rattle.ely_config_json.specs.Rules.{rule_of}

-- a realm as a pipeline knows it: its name, and the last rule for its names
abbrev pub Known : Type 0
Known = List ℕ × Option Rule

-- the name of a realm, with its last rule
abbrev pub known_of : Data → Option Known
known_of value = option_and_then (λ object. both (needed name_of (codes "name") object) (optional (rule_of 8) (codes "transformer") object)) (as_object value)

-- the realms that the pipeline knows: those of the configuration, or else the realm `main`
abbrev pub known_in : Object → Option (List Known)
known_in object = given (list_of known_of) plain_pipeline.realms (codes "realms") object

-- the name of the first realm
abbrev pub first_name : List Known → Option (List ℕ)
first_name [] = None
first_name (known ∷ others) = Some known.0

-- the realm where none is chosen: the first one where it isn't said
abbrev pub default_realm_in : List Known → Object → Option (List ℕ)
default_realm_in known object = option_map_or name_of (get_member (codes "default-realm") object) (first_name known)

-- the default realm and all realms
abbrev pub targets_in : Object → Option (List ℕ × List Known)
targets_in object = option_and_then (λ known. option_map (λ name. (name, known)) (default_realm_in known object)) (known_in object)

-- the rules before the realm is chosen
abbrev pub rules_before : Object → Option (Option Rule × Option Rule)
rules_before object = both (optional (rule_of 8) (codes "decoder") object) (optional (rule_of 8) (codes "pre-realm") object)

-- what chooses the realm, and the rule after that
abbrev pub rules_after : Object → Option (Option RealmMapper × Option Rule)
rules_after object = both (optional realm_mapper_of (codes "realm-mapper") object) (optional (rule_of 8) (codes "post-realm") object)

-- the pipeline of an object
abbrev pub pipeline_in : Object → Option Pipeline
pipeline_in object = option_map (λ made. record {
  decoder = made.0.0.0;
  pre = made.0.0.1;
  mapper = made.0.1.0;
  default_realm = made.1.0;
  post = made.0.1.1;
  realms = made.1.1;
})
    (both (both (rules_before object) (rules_after object)) (targets_in object))
