-- Which edits touch the identities that an answer stands on.
use Rattle.std.specs.Prelude.{◌≡◌, ℕ, Bool, false, List, [], ◌∷◌, ◌++◌}
use Rattle.std.specs.List.{list_any}
use Rattle.ely_row.specs.declared.edit.Edit.{Edit}
use Rattle.ely_row.specs.Edits.{Texts, is_of, row}

-- the edit is of one of the places
abbrev pub touches : Edit → List (List ℕ × List ℕ) → Bool
touches edit deps = list_any (λ place. is_of place.0 place.1 edit) deps

-- an edit that doesn't touch n in r leaves the row that the edits before it made of n in r
abbrev pub UntouchedStays : Texts → List Edit → Edit → Type 0
UntouchedStays texts edits edit =
    (r n : List ℕ) → touches edit ((r, n) ∷ []) ≡ false → row texts (edits ++ edit ∷ []) r n ≡ row texts edits r n
