-- The realm mappers that JSON values stand for.
use Rattle.std.specs.Prelude.{ℕ, List, if◌then◌else◌, codes, Option, None, option_map, option_and_then}
use Rattle.std.specs.Str.{bytes_eq}
use Rattle.serde_json.specs.Data.{Data, Members as Object}
use Rattle.serde_json.specs.Find.{as_object}
use Rattle.ely_pipeline.specs.declared.mapper.RealmMapper.{RealmMapper}
use Rattle.ely_pipeline.specs.declared.mapper.RealmMapper.TheVariants.{Constant, MapAfter, TakeAfter}
use Rattle.ely_config_json.specs.Names.{name_of, pairs_of}
use Rattle.ely_config_json.specs.Parts.{both, by_word, needed}

-- the mapper by pairs
abbrev pub map_after_in : Object → Option RealmMapper
map_after_in object = option_map (λ made. MapAfter made.0 made.1)
    (both (needed name_of (codes "mark") object) (needed pairs_of (codes "pairs") object))

-- the mapper of this word
abbrev pub realm_mapper_in : Object → List ℕ → Option RealmMapper
realm_mapper_in object word =
    if bytes_eq word (codes "constant") then option_map Constant (needed name_of (codes "realm") object)
    else (if bytes_eq word (codes "map-after") then map_after_in object
    else (if bytes_eq word (codes "take-after") then option_map TakeAfter (needed name_of (codes "mark") object)
    else None))

-- the mapper of a value
abbrev pub realm_mapper_of : Data → Option RealmMapper
realm_mapper_of value = option_and_then (by_word realm_mapper_in (codes "rule")) (as_object value)
