-- An entry above all others goes to the end of a map.
use Rattle.std.proofs.Common.{◌≡◌, List, [], ◌∷◌, ◌++◌, ap, refl, sym, subst, ◌∙◌, append_assoc}
use Rattle.std.specs.declared.cmp.Ordering.{Ordering}
use Rattle.std.specs.declared.cmp.Ordering.TheVariants.{Less}
use Rattle.std.specs.Ordering.{ordering_reverse, match_ordering}
use Rattle.std.specs.Cmp.{IsTotalOrder}
use Rattle.std.specs.List.{AllByRecursion}
use Rattle.std.specs.List.Sorted.{IsStrictlySortedBy}
use Rattle.std.specs.Map.{keys_of}
use Rattle.std.specs.BTreeMap.{insert_entry}
use Rattle.std.proofs.lemmas.Map.Keys.{sorted_head, sorted_tail}

-- what holds of each key holds of one in the middle
all_in_middle : {K X : Type 0} (P : K → Type 0) (es : List (K × X)) (k : K) (v : X) (rest : List (K × X)) → AllByRecursion P (keys_of (es ++ (k, v) ∷ rest)) → P k
all_in_middle P [] k v rest h = h.0
all_in_middle P (e ∷ es) k v rest h = all_in_middle P es k v rest (h.1)

pub insert_last : {K X : Type 0} {cmp : K → K → Ordering} → IsTotalOrder cmp → (es : List (K × X)) (k : K) (v : X) (rest : List (K × X)) → IsStrictlySortedBy cmp (keys_of (es ++ (k, v) ∷ rest)) → insert_entry cmp es k v ≡ es ++ (k, v) ∷ []
insert_last order [] k v rest sorted = refl
insert_last {cmp = cmp} order (e ∷ es) k v rest sorted =
    let less = all_in_middle (λ y. cmp e.0 y ≡ Less) es k v rest (sorted_head cmp e.0 _ sorted) in
    ap (λ o. match_ordering o ((k, v) ∷ e ∷ es) ((e.0, v) ∷ es) (e ∷ insert_entry cmp es k v)) (order.antisymm k e.0 ∙ ap ordering_reverse less)
    ∙ ap (λ fs. e ∷ fs) (insert_last order es k v rest (sorted_tail cmp e.0 _ sorted))

-- one more entry is copied from what is left
pub copied_more : {K X : Type 0} {cmp : K → K → Ordering} → IsTotalOrder cmp → (copy more all rest tail : List (K × X)) (k l : K) (v w : X)
    → copy ++ rest ≡ all → rest ≡ (k, v) ∷ tail → IsStrictlySortedBy cmp (keys_of all) → l ≡ k → w ≡ v → more ≡ insert_entry cmp copy l w → more ++ tail ≡ all
copied_more {cmp = cmp} order copy more all rest tail k l v w so_far first sorted same_key same_value put =
    let whole : copy ++ (k, v) ∷ tail ≡ all = ap (λ es. copy ++ es) (sym first) ∙ so_far in
    let at_end = insert_last order copy k v tail (subst (λ es. IsStrictlySortedBy cmp (keys_of es)) (sym whole) sorted) in
    ap (λ es. es ++ tail) (put ∙ ap (λ q. insert_entry cmp copy q w) same_key ∙ ap (λ x. insert_entry cmp copy k x) same_value ∙ at_end) ∙ append_assoc copy ((k, v) ∷ []) tail ∙ whole
