-- Lengths of arrays.
use Rattle.std.proofs.Common.{◌≡◌, List, [], ◌∷◌, refl, ap, suc, length}
use Rattle.serde_json.specs.Events.{items_len}
use Rattle.serde_json.specs.View.{items_view}
use Rattle.serde_json.specs.declared.value.Value.{Value}

-- the items of an array are as many as its values
pub count_view : (vs : List Value) → items_len (items_view vs) ≡ length vs
count_view [] = refl
count_view (v ∷ vs) = ap suc (count_view vs)
