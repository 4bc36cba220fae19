-- The rows that users and their groups make.
use Rattle.std.specs.Prelude.{◌≡◌, ℕ, List, map, codes, Option, Some, None}
use Rattle.std.specs.Option.{option_map}
use Rattle.std.specs.Map.{lookup}
use Rattle.std.specs.Str.{bytes_eq}
use Rattle.ely_row.specs.declared.cred.Credential.{Credential}
use Rattle.ely_row.specs.Rows.{Row, empty_row, with_cred, with_attr}

-- the row of a credential in slot 1
abbrev pub cred_row : Credential → Row
cred_row cred = with_cred 1 cred empty_row

-- the same with the groups, where there are some, as the attribute `groups`
abbrev pub user_row : Credential → Option (List (List ℕ)) → Row
user_row cred None = cred_row cred
user_row cred (Some groups) = with_attr (codes "groups") groups (cred_row cred)

-- the row of each user, with the groups of that name; groups of other names make nothing
abbrev pub rows_of : List (List ℕ × Credential) → List (List ℕ × List (List ℕ)) → List (List ℕ × Row)
rows_of users groups = map (λ user. (user.0, user_row user.1 (lookup (bytes_eq user.0) groups))) users

-- the row of a name is that of its user, where it is one
abbrev pub RowsByName : Type 0
RowsByName = (users : List (List ℕ × Credential)) (groups : List (List ℕ × List (List ℕ))) (name : List ℕ)
    → lookup (bytes_eq name) (rows_of users groups)
    ≡ option_map (λ cred. user_row cred (lookup (bytes_eq name) groups)) (lookup (bytes_eq name) users)
