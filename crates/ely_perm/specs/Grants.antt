-- Which texts are granted.
use Rattle.std.specs.Prelude.{ℕ, ◌-◌, ◌&&◌, ◌||◌, Bool, true, List, [], ◌∷◌, length, take, map, filter, nat_eq, codes}
use Rattle.std.specs.List.{list_any, starts_with, ends_with}
use Rattle.std.specs.Str.{bytes_eq}
use Rattle.ely_row.specs.Sets.{is_among}
use Rattle.ely_perm.specs.declared.mode.Mode.TheVariants.{First}
use Rattle.ely_perm.specs.declared.row.PermRow.{PermRow}
use Rattle.ely_perm.specs.declared.permissions.Permissions.{Permissions}
use Rattle.ely_perm.specs.Modes.{decided}

-- the grant ends with `:*`, and the wanted text begins with all before that `*`
abbrev pub is_family_of : List ℕ → List ℕ → Bool
is_family_of grant wanted = ends_with nat_eq grant (codes ":*") && starts_with nat_eq wanted (take (length grant - 1) grant)

-- the grant is `*`, is the wanted text, or has its family
abbrev pub implies : List ℕ → List ℕ → Bool
implies grant wanted = bytes_eq grant (codes "*") || (bytes_eq grant wanted || is_family_of grant wanted)

-- the row is for everybody, for the name, or for one of the roles
abbrev pub matches : List ℕ → List (List ℕ) → PermRow → Bool
matches name roles row = row.match_all || (is_among row.principals name || list_any (is_among roles) row.roles)

-- the rows that match, in their order
abbrev pub matching : List ℕ → List (List ℕ) → List PermRow → List PermRow
matching name roles rows = filter (matches name roles) rows

-- one of the row's texts implies the wanted one
abbrev pub grants : List ℕ → PermRow → Bool
grants wanted row = list_any (λ grant. implies grant wanted) row.grant

-- what the mode makes of the answers of the rows that match, each of which grants the wanted text or not
abbrev pub granted : Permissions → List ℕ → List (List ℕ) → List ℕ → Bool
granted perms name roles wanted = decided perms.mode (map (grants wanted) (matching name roles perms.rows))

-- one row, which is for everybody and grants `login`
abbrev pub login_for_all : Permissions
login_for_all = record { mode = First; rows = record { principals = []; roles = []; match_all = true; grant = codes "login" ∷ [] } ∷ [] }
