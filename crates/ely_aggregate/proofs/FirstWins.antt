-- What merged rows have of an attribute.
use Rattle.std.proofs.Common.{◌≡◌, ℕ, Bool, true, false, List, [], ◌∷◌, refl, sym, ap, ◌∙◌, cond, Option, Some, None}
use Rattle.std.specs.List.{AllByRecursion}
use Rattle.std.specs.List.Sorted.{IsStrictlySortedBy}
use Rattle.std.specs.Option.{option_or}
use Rattle.std.specs.Ordering.{is_eq, match_ordering, ordering_reverse}
use Rattle.std.specs.declared.cmp.Ordering.{Ordering}
use Rattle.std.specs.declared.cmp.Ordering.TheVariants.{Less, Equal, Greater}
use Rattle.std.specs.Map.{keys_of, lookup}
use Rattle.std.specs.BTreeMap.{insert_entry, is_at}
use Rattle.std.proofs.lemmas.Cmp.{nat_list_cmp_total}
use Rattle.std.proofs.lemmas.Map.Keys.{sorted_head, sorted_tail}
use Rattle.std.proofs.lemmas.Map.Lookups.{exact_bytes}
use Rattle.ely_row.specs.Rows.{Row, name_cmp}
use Rattle.ely_aggregate.specs.Plans.{AreRows, Attrs, first_values, merged, over}

abbrev Values : Type 0
Values = List (List ℕ)

-- whether it is this name
abbrev is_name : List ℕ → List ℕ → Bool
is_name q k = is_at (name_cmp q) k

equal : (o : Ordering) → is_eq o ≡ true → o ≡ Equal
equal Less e = absurd (let bad : false ≡ true = e in (cc))
equal Equal e = refl
equal Greater e = absurd (let bad : false ≡ true = e in (cc))

same_name : (q k : List ℕ) → is_name q k ≡ true → q ≡ k
same_name q k e = exact_bytes q k (equal (name_cmp q k) e)

not_above : (k other : List ℕ) → k ≡ other → name_cmp k other ≡ Greater → ⊥
not_above k other is above =
    let itself : name_cmp k k ≡ Greater = ap (name_cmp k) is ∙ above in
    let turned : name_cmp k k ≡ Less = nat_list_cmp_total.antisymm k k ∙ ap ordering_reverse itself in
    let bad : Greater ≡ Less = sym itself ∙ turned in (cc)

same_twice : (b : Bool) (v w : Values) (rest : Option Values) → cond b (Some v) rest ≡ cond b (Some v) (cond b (Some w) rest)
same_twice true v w rest = refl
same_twice false v w rest = refl

swapped : (a b : Bool) (v w : Values) (rest : Option Values) → (a ≡ true → b ≡ true → ⊥) → cond a (Some w) (cond b (Some v) rest) ≡ cond b (Some v) (cond a (Some w) rest)
swapped true true v w rest apart = absurd (apart refl refl)
swapped true false v w rest apart = refl
swapped false true v w rest apart = refl
swapped false false v w rest apart = refl

lookup-insert_entry : (q k : List ℕ) (v : Values) (es : Attrs) → lookup (is_at (name_cmp q)) (insert_entry name_cmp es k v) ≡ cond (is_name q k) (Some v) (lookup (is_at (name_cmp q)) es)
lookup-insert_entry q k v [] = refl
lookup-insert_entry q k v (e ∷ es) = by_order (name_cmp k e.0) refl (lookup-insert_entry q k v es)
  where
    by_order : (o : Ordering) → name_cmp k e.0 ≡ o → lookup (is_at (name_cmp q)) (insert_entry name_cmp es k v) ≡ cond (is_name q k) (Some v) (lookup (is_at (name_cmp q)) es)
        → lookup (is_at (name_cmp q)) (match_ordering o ((k, v) ∷ e ∷ es) ((e.0, v) ∷ es) (e ∷ insert_entry name_cmp es k v)) ≡ cond (is_name q k) (Some v) (cond (is_name q e.0) (Some e.1) (lookup (is_at (name_cmp q)) es))
    by_order Less below later = refl
    by_order Equal same later =
        same_twice (is_name q e.0) v e.1 (lookup (is_at (name_cmp q)) es)
        ∙ ap (λ (n : List ℕ). cond (is_name q n) (Some v) (cond (is_name q e.0) (Some e.1) (lookup (is_at (name_cmp q)) es))) (sym (exact_bytes k e.0 same))
    by_order Greater above later =
        ap (cond (is_name q e.0) (Some e.1)) later
        ∙ swapped (is_name q e.0) (is_name q k) v e.1 (lookup (is_at (name_cmp q)) es) (λ here there. not_above k e.0 (sym (same_name q k there) ∙ same_name q e.0 here) above)

option_or-cond : (b : Bool) (v : Values) (rest other : Option Values) → (b ≡ true → rest ≡ None) → option_or rest (cond b (Some v) other) ≡ option_or (cond b (Some v) rest) other
option_or-cond true v rest other gone = ap (λ (o : Option Values). option_or o (Some v)) (gone refl)
option_or-cond false v rest other gone = refl

-- a name below all others isn't among them
none_above : (k q : List ℕ) (es : Attrs) → AllByRecursion (λ y. name_cmp k y ≡ Less) (keys_of es) → q ≡ k → lookup (is_at (name_cmp q)) es ≡ None
none_above k q [] less is = refl
none_above k q (e ∷ es) less is = let other : is_name q e.0 ≡ false = ap (λ (n : List ℕ). is_eq (name_cmp n e.0)) is ∙ ap is_eq less.0 in rw other (none_above k q es less.1 is)

lookup-over : (q : List ℕ) (first others : Attrs) → IsStrictlySortedBy name_cmp (keys_of first) → lookup (is_at (name_cmp q)) (over first others) ≡ option_or (lookup (is_at (name_cmp q)) first) (lookup (is_at (name_cmp q)) others)
lookup-over q [] others sorted = refl
lookup-over q (e ∷ es) others sorted =
    lookup-over q es (insert_entry name_cmp others e.0 e.1) (sorted_tail name_cmp e.0 (keys_of es) sorted)
    ∙ ap (option_or (lookup (is_at (name_cmp q)) es)) (lookup-insert_entry q e.0 e.1 others)
    ∙ option_or-cond (is_name q e.0) e.1 (lookup (is_at (name_cmp q)) es) (lookup (is_at (name_cmp q)) others) (λ here. none_above e.0 q es (sorted_head name_cmp e.0 (keys_of es) sorted) (same_name q e.0 here))

pub lookup-merged : (attr : List ℕ) (rows : List (Option Row)) → AreRows rows → lookup (is_at (name_cmp attr)) (merged rows) ≡ first_values attr rows
lookup-merged attr [] are = refl
lookup-merged attr (None ∷ rows) are = lookup-merged attr rows are.1
lookup-merged attr (Some row ∷ rows) are =
    lookup-over attr row.attrs (merged rows) are.0.attrs_rise ∙ ap (option_or (lookup (is_at (name_cmp attr)) row.attrs)) (lookup-merged attr rows are.1)
