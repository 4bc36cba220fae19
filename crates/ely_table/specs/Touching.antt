-- Which edits of a journal change what an answer rests on.
use Rattle.std.specs.Prelude.{ℕ, Bool, List, drop}
use Rattle.std.specs.List.{list_any}
use Rattle.ely_row.specs.declared.edit.Edit.{Edit}
use Rattle.ely_row.specs.Dependence.{touches}

-- an edit after the first v touches one of the places
unfoldable pub touched_since : List Edit → ℕ → List (List ℕ × List ℕ) → Bool
touched_since edits v deps = list_any (λ edit. touches edit deps) (drop v edits)
