-- Sets of names. A set is listed in the order of the bytes of its names, each name once.
use Rattle.std.specs.Prelude.{ℕ, Bool, List, [], fold}
use Rattle.std.specs.List.{list_any}
use Rattle.std.specs.List.Sorted.{IsStrictlySortedBy}
use Rattle.std.specs.Str.{bytes_eq}
use Rattle.std.specs.BTreeSet.{insert_key}
use Rattle.ely_row.specs.Rows.{name_cmp}

-- the names as a set
abbrev pub as_set : List (List ℕ) → List (List ℕ)
as_set names = fold (insert_key name_cmp) [] names

-- the name is one of these
abbrev pub is_among : List (List ℕ) → List ℕ → Bool
is_among names name = list_any (λ n. bytes_eq n name) names

-- the names rise, so that none stands twice
abbrev pub IsSet : List (List ℕ) → Type 0
IsSet names = IsStrictlySortedBy name_cmp names
