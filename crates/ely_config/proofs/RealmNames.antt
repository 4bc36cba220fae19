-- Realms with the same names, in the same order.
use Rattle.std.proofs.Common.{◌≡◌, ℕ, ◌&&◌, List, [], ◌∷◌, length, map, bytes_eq, refl, ap, arith}
use Rattle.std.specs.Prelude.{zip}
use Rattle.std.specs.List.{list_all}
use lib.Pointwise.{pointwise}

module _ {X Y : Type 0} (name : X → List ℕ) (other : Y → List ℕ) where
  -- where there are as many, it is enough to look at them pair by pair
  pub by_pairs : (xs : List X) (ys : List Y) → length xs ≡ length ys
      → list_all (λ (pair : X × Y). bytes_eq (name pair.0) (other pair.1)) (zip xs ys) ≡ pointwise bytes_eq (map name xs) (map other ys)
  by_pairs [] [] same = refl
  by_pairs [] (y ∷ ys) same = absurd (omega (arith, same))
  by_pairs (x ∷ xs) [] same = absurd (omega (arith, same))
  by_pairs (x ∷ xs) (y ∷ ys) same = ap (λ b. bytes_eq (name x) (other y) && b) (by_pairs xs ys (omega (arith, same)))
