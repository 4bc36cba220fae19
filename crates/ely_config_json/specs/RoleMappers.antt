-- The role mappers that JSON values stand for.
use Rattle.std.specs.Prelude.{ℕ, zero, suc, Bool, true, false, List, if◌then◌else◌, codes, Option, Some, None, option_map, option_and_then}
use Rattle.std.specs.Str.{bytes_eq}
use Rattle.serde_json.specs.Data.{Data, Members as Object}
use Rattle.serde_json.specs.Find.{as_object, as_str}
use Rattle.ely_roles.specs.declared.mapper.SetOp.{SetOp}
use Rattle.ely_roles.specs.declared.mapper.SetOp.TheVariants.{And, Or, Minus, Xor}
use Rattle.ely_roles.specs.declared.mapper.RoleMapper.{RoleMapper}
use Rattle.ely_roles.specs.declared.mapper.RoleMapper.TheVariants.{Constant, AddPrefix, AddSuffix, Aggregate, Logical, Mapped}
use Rattle.ely_config_json.specs.Names.{flag_in, name_of, names_of}
use Rattle.ely_config_json.specs.Parts.{both, by_word, list_of, needed, optional, pair_of}

-- how two sets are joined
abbrev pub op_of : List ℕ → Option SetOp
op_of word =
    if bytes_eq word (codes "and") then Some And
    else (if bytes_eq word (codes "or") then Some Or
    else (if bytes_eq word (codes "minus") then Some Minus
    else (if bytes_eq word (codes "xor") then Some Xor
    else None)))

-- the mapper that joins what two mappers make, each of which may be missing
abbrev pub logical_in : (Data → Option RoleMapper) → Object → Option RoleMapper
logical_in inner object = option_map (λ made. Logical made.0 made.1.0 made.1.1)
    (both (option_and_then op_of (needed as_str (codes "op") object)) (both (optional inner (codes "left") object) (optional inner (codes "right") object)))

-- pairs of a role and its targets
abbrev pub role_pairs_of : Data → Option (List (List ℕ × List (List ℕ)))
role_pairs_of value = list_of (pair_of name_of names_of) value

-- the mapper by pairs, which keeps no role itself where it isn't said
abbrev pub mapped_in : Object → Option RoleMapper
mapped_in object = option_map (λ made. Mapped made.0 made.1.0 made.1.1)
    (both (needed role_pairs_of (codes "map") object) (both (flag_in (codes "keep-mapped") object) (flag_in (codes "keep-non-mapped") object)))

-- the mapper that joins each role with a text, before it or behind it
abbrev pub affixed_in : Bool → Object → Option RoleMapper
affixed_in is_prefix object = option_map (λ text. if is_prefix then AddPrefix text else AddSuffix text) (needed name_of (codes "text") object)

-- the mapper of this word that has no mapper in it
abbrev pub simple_role_mapper : Object → List ℕ → Option RoleMapper
simple_role_mapper object word =
    if bytes_eq word (codes "constant") then option_map Constant (needed names_of (codes "roles") object)
    else (if bytes_eq word (codes "add-prefix") then affixed_in true object
    else (if bytes_eq word (codes "add-suffix") then affixed_in false object
    else (if bytes_eq word (codes "mapped") then mapped_in object
    else None)))

-- the mapper of this word, with mappers in it read so
abbrev pub role_mapper_in : (Data → Option RoleMapper) → Object → List ℕ → Option RoleMapper
role_mapper_in inner object word =
    if bytes_eq word (codes "aggregate") then option_map Aggregate (needed (list_of inner) (codes "of") object)
    else (if bytes_eq word (codes "logical") then logical_in inner object
    else simple_role_mapper object word)

-- the mapper of a value that nests at most so many levels deep
unfoldable pub role_mapper_of : ℕ → Data → Option RoleMapper
role_mapper_of zero value = None
role_mapper_of (suc levels) value = option_and_then (by_word (role_mapper_in (role_mapper_of levels)) (codes "rule")) (as_object value)
