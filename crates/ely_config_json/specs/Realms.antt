-- The realms that JSON values stand for.
use Rattle.std.specs.Prelude.{ℕ, List, [], ◌∷◌, if◌then◌else◌, codes, Option, Some, None, option_map, option_and_then}
use Rattle.std.specs.Str.{bytes_eq}
use Rattle.serde_json.specs.Data.{Data, Members as Object}
use Rattle.serde_json.specs.Find.{as_object}
use Rattle.ely_config.specs.declared.realm.RealmKind.{RealmKind}
use Rattle.ely_config.specs.declared.realm.RealmKind.TheVariants.{Modifiable, Properties, Aggregate, Caching}
use Rattle.ely_config.specs.declared.realm.RealmConfig.{RealmConfig}
use Rattle.ely_config.specs.Configs.{main_realm}
use Rattle.ely_config_json.specs.Names.{flag_in, name_of, names_of, number_of, text_of}
use Rattle.ely_config_json.specs.Parts.{both, by_word, given, list_of, needed, optional}
use Rattle.ely_config_json.specs.RoleMappers.{role_mapper_of}

-- the kind of a realm of two texts, which are empty where they aren't there
abbrev pub properties_in : Object → Option RealmKind
properties_in object = option_map (λ made. Properties made.0 made.1.0 made.1.1)
    (both (flag_in (codes "plain-text") object) (both (given text_of [] (codes "users") object) (given text_of [] (codes "groups") object)))

-- the kind of a realm of others
abbrev pub aggregate_in : Object → Option RealmKind
aggregate_in object = option_map (λ made. Aggregate made.0 made.1)
    (both (needed name_of (codes "authentication") object) (needed names_of (codes "authorization") object))

-- the kind of a caching realm, which keeps 16 keys where no other number is said
abbrev pub caching_in : Object → Option RealmKind
caching_in object = option_map (λ made. Caching made.0 made.1)
    (both (needed name_of (codes "of") object) (given number_of 16 (codes "max-entries") object))

-- the kind of this word
abbrev pub kind_in : Object → List ℕ → Option RealmKind
kind_in object word =
    if bytes_eq word (codes "modifiable") then Some Modifiable
    else (if bytes_eq word (codes "properties") then properties_in object
    else (if bytes_eq word (codes "aggregate") then aggregate_in object
    else (if bytes_eq word (codes "caching") then caching_in object
    else None)))

-- the realm of an object: roles are the values of `groups` where no other attribute is said
abbrev pub realm_in : Object → Option RealmConfig
realm_in object = option_map (λ made. record { name = made.0.0; kind = made.1.0; role_attribute = made.0.1; role_mapper = made.1.1 })
    (both (both (needed name_of (codes "name") object) (given name_of (codes "groups") (codes "role-attribute") object))
    (both (by_word kind_in (codes "kind") object) (optional (role_mapper_of 8) (codes "role-mapper") object)))

-- the realm of a value
abbrev pub realm_of : Data → Option RealmConfig
realm_of value = option_and_then realm_in (as_object value)

-- the realms of a configuration: the realm `main` where they aren't said
abbrev pub realms_in : Object → Option (List RealmConfig)
realms_in object = given (list_of realm_of) (main_realm ∷ []) (codes "realms") object
