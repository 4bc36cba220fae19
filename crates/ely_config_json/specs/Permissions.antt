-- The permissions that JSON values stand for.
use Rattle.std.specs.Prelude.{ℕ, List, [], if◌then◌else◌, codes, Option, Some, None, option_map, option_and_then}
use Rattle.std.specs.Str.{bytes_eq}
use Rattle.serde_json.specs.Data.{Data, Members as Object}
use Rattle.serde_json.specs.Find.{as_object, as_str}
use Rattle.ely_perm.specs.declared.mode.Mode.{Mode}
use Rattle.ely_perm.specs.declared.mode.Mode.TheVariants.{First, And, Or, Xor, Unless}
use Rattle.ely_perm.specs.declared.row.PermRow.{PermRow}
use Rattle.ely_perm.specs.declared.permissions.Permissions.{Permissions}
use Rattle.ely_config_json.specs.Names.{flag_in, names_of, text_of}
use Rattle.ely_config_json.specs.Parts.{both, given, list_of, needed}

-- the mode of this word
abbrev pub mode_of : List ℕ → Option Mode
mode_of word =
    if bytes_eq word (codes "first") then Some First
    else (if bytes_eq word (codes "and") then Some And
    else (if bytes_eq word (codes "or") then Some Or
    else (if bytes_eq word (codes "xor") then Some Xor
    else (if bytes_eq word (codes "unless") then Some Unless
    else None))))

-- the row of an object, which is for nobody where it isn't said whom it is for
abbrev pub row_in : Object → Option PermRow
row_in object = option_map (λ made. record { principals = made.0.0; roles = made.0.1; match_all = made.1.0; grant = made.1.1 })
    (both (both (given names_of [] (codes "principals") object) (given names_of [] (codes "roles") object))
    (both (flag_in (codes "match-all") object) (needed (list_of text_of) (codes "grant") object)))

-- the row of a value
abbrev pub row_of : Data → Option PermRow
row_of value = option_and_then row_in (as_object value)

-- the permissions of an object
abbrev pub permissions_in : Object → Option Permissions
permissions_in object = option_map (λ made. record { mode = made.0; rows = made.1 })
    (both (option_and_then mode_of (needed as_str (codes "mode") object)) (needed (list_of row_of) (codes "rows") object))

-- the permissions of a value
abbrev pub permissions_of : Data → Option Permissions
permissions_of value = option_and_then permissions_in (as_object value)
