-- How many members permissions have, and how long their texts are.
use Rattle.std.specs.Prelude.{ℕ, ◌&&◌, Bool, nat_le, List, length}
use Rattle.std.specs.List.{list_all}
use Rattle.ely_perm.specs.declared.row.PermRow.{PermRow}
use Rattle.ely_perm.specs.declared.permissions.Permissions.{Permissions}

-- a list has at most 64 members
abbrev pub length_fits : {A : Type 0} → List A → Bool
length_fits members = nat_le (length members) 64

-- a granted text has 1 to 255 bytes
abbrev pub text_fits : List ℕ → Bool
text_fits text = nat_le 1 (length text) && nat_le (length text) 255

-- the row's names, roles and granted texts are few enough, and each of these texts fits
abbrev pub row_fits : PermRow → Bool
row_fits row = length_fits row.principals && length_fits row.roles && length_fits row.grant && list_all text_fits row.grant

-- the rows are few enough, and each fits
abbrev pub fits : Permissions → Bool
fits perms = length_fits perms.rows && list_all row_fits perms.rows
