-- Attributes of several rows, and the first of a list.
use Rattle.std.proofs.Common.{◌≡◌, ℕ, suc, true, false, ◌-◌, ◌<◌, ◌≤◌, List, [], ◌∷◌, ◌++◌, map, take, drop, length, get_or, Option, Some, None, sym, ap, ◌∙◌, arith, length-append, drop-cons}
use Rattle.std.specs.Prelude.{IfSome, IsSome, ◌↔◌}
use Rattle.std.proofs.lemmas.List.{take-append-le}
use Rattle.ely_row.specs.Rows.{Row}
use Rattle.ely_aggregate.specs.Plans.{Attrs, merged, over}

-- the first ones stay where one behind them goes
pub take-popped : {X : Type 0} (n : ℕ) (popped : Option X) (old new : List X) → (IsSome popped ↔ (0 < length old)) → IfSome popped (λ x. old ≡ new ++ x ∷ []) → n < length old → take n new ≡ take n old
take-popped n None old new is left more = let none : false ≡ true = is.1 (omega (arith, more)) in absurd (cc)
take-popped n (Some x) old new is left more =
    let long : length old ≡ length (new ++ x ∷ []) = ap length left in
    let joined = length-append new (x ∷ []) in
    sym (ap (take n) left ∙ take-append-le n new (x ∷ []) (omega arith))

-- one more realm, the one before those that were merged
pub merged-more : (rows : List ℕ → Option Row) (realms : List (List ℕ)) (left : ℕ) (realm : List ℕ) (row : Row) (attrs more : Attrs)
    → 0 < left → left ≤ length realms → realm ≡ get_or realms (left - 1) realm → Some row ≡ rows realm
    → attrs ≡ merged (map rows (drop left realms)) → more ≡ over row.attrs attrs → more ≡ merged (map rows (drop (left - 1) realms))
merged-more rows realms left realm row attrs more some within here is so_far put =
    let next : suc (left - 1) ≡ left = omega (arith, some) in
    let cut : drop (left - 1) realms ≡ get_or realms (left - 1) realm ∷ drop (suc (left - 1)) realms = drop-cons realms (left - 1) realm (omega (arith, some, within)) in
    put ∙ ap (over row.attrs) (so_far ∙ ap (λ (i : ℕ). merged (map rows (drop i realms))) (sym next))
    ∙ ap (λ (r : Option Row). merged (r ∷ map rows (drop (suc (left - 1)) realms))) (is ∙ ap rows here)
    ∙ ap (λ (rs : List (List ℕ)). merged (map rows rs)) (sym cut)
