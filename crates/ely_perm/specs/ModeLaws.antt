-- When the rows that match grant a text, mode by mode.
use Rattle.std.specs.Prelude.{ℕ, ◌≡◌, ◌%◌, ◌==◌, ◌&&◌, Bool, false, not, List, [], ◌∷◌, count_by}
use Rattle.std.specs.List.{list_any, list_all}
use Rattle.ely_perm.specs.declared.mode.Mode.{Mode}
use Rattle.ely_perm.specs.declared.row.PermRow.{PermRow}
use Rattle.ely_perm.specs.Grants.{grants, matching, granted}

-- there is a first row, and it grants the text
abbrev pub first_grants : List ℕ → List PermRow → Bool
first_grants wanted [] = false
first_grants wanted (row ∷ others) = grants wanted row

-- one row at least grants the text
abbrev pub some_grant : List ℕ → List PermRow → Bool
some_grant wanted rows = list_any (grants wanted) rows

-- there is a row, and each row grants the text
abbrev pub each_grants : List ℕ → List PermRow → Bool
each_grants wanted [] = false
each_grants wanted (row ∷ others) = list_all (grants wanted) (row ∷ others)

-- an odd number of rows grants the text
abbrev pub odd_number_grants : List ℕ → List PermRow → Bool
odd_number_grants wanted rows = count_by (grants wanted) rows % 2 == 1

-- the first row grants the text and no other does
abbrev pub first_alone_grants : List ℕ → List PermRow → Bool
first_alone_grants wanted [] = false
first_alone_grants wanted (row ∷ others) = grants wanted row && not (some_grant wanted others)

-- with this mode a text is granted exactly where the rows that match say so
abbrev pub IsGrantedWhere : Mode → (List ℕ → List PermRow → Bool) → Type 0
IsGrantedWhere mode say = (rows : List PermRow) (name : List ℕ) (roles : List (List ℕ)) (wanted : List ℕ)
    → granted (record { mode = mode; rows = rows }) name roles wanted ≡ say wanted (matching name roles rows)
