-- What is in a set of names; and that a set is told by what is in it.
use Rattle.std.proofs.Common.{◌≡◌, ℕ, Bool, true, false, ◌||◌, ◌&&◌, List, [], ◌∷◌, ◌++◌, refl, sym, ap, ◌∙◌}
use Rattle.std.specs.Prelude.{fold, filter, cond}
use Rattle.std.specs.declared.cmp.Ordering.{Ordering}
use Rattle.std.specs.declared.cmp.Ordering.TheVariants.{Less, Equal, Greater}
use Rattle.std.specs.Ordering.{ordering_reverse, match_ordering, eq_by_cmp}
use Rattle.std.specs.List.{AllByRecursion, list_any, dedup, dedup_from}
use Rattle.std.specs.List.Sorted.{IsPermutation, IsSorted, IsStrictlySortedBy}
use Rattle.std.specs.Str.{bytes_eq}
use Rattle.std.specs.BTreeMap.{is_at}
use Rattle.std.specs.BTreeSet.{BTreeSet, insert_key}
use Rattle.std.proofs.lemmas.Cmp.{nat_list_cmp_total, nat_list_eq_equiv}
use Rattle.std.proofs.lemmas.Map.Lookups.{btree_set_from_contains, exact_bytes}
use Rattle.std.proofs.lemmas.List.Folds.{list_any-append}
use Rattle.std.proofs.lemmas.List.Kept.{IsStrictlySortedBy-dedup}
use Rattle.std.proofs.lemmas.List.Sorted.{list_any-IsPermutation}
use Rattle.std.proofs.lemmas.Map.Text.{is_eq-slice_cmp}
use Rattle.std.proofs.lemmas.Map.Views.{any-filter_same}
use Rattle.std.proofs.lemmas.Slice.Eq.{bytes_eq-Decides}
use Rattle.ely_row.specs.Rows.{name_cmp}
use Rattle.ely_row.specs.Sets.{as_set, is_among, IsSet}

-- ---- tests

or-false : (a : Bool) → (a || false) ≡ a
or-false true = refl
or-false false = refl

or-swap : (a b c : Bool) → (a || (b || c)) ≡ (b || (a || c))
or-swap true true c = refl
or-swap true false c = refl
or-swap false b c = refl

or-twice : (a b : Bool) → (a || b) ≡ (a || (a || b))
or-twice true b = refl
or-twice false b = refl

or-third : (a b c : Bool) → ((a || b) || c) ≡ (b || (a || c))
or-third true true c = refl
or-third true false c = refl
or-third false b c = refl

-- ---- one more name

all-insert : (P : List ℕ → Type 0) (ks : List (List ℕ)) (k : List ℕ) → AllByRecursion P ks → P k → AllByRecursion P (insert_key name_cmp ks k)
all-insert P [] k all here = (here, tt)
all-insert P (x ∷ xs) k all here = by (name_cmp k x) (all-insert P xs k all.1 here)
  where
    by : (r : Ordering) → AllByRecursion P (insert_key name_cmp xs k) → AllByRecursion P (match_ordering r (k ∷ x ∷ xs) (x ∷ xs) (x ∷ insert_key name_cmp xs k))
    by Less rest = (here, all)
    by Equal rest = all
    by Greater rest = (all.0, rest)

all-above : (k x : List ℕ) (xs : List (List ℕ)) → name_cmp k x ≡ Less → AllByRecursion (λ y. name_cmp x y ≡ Less) xs → AllByRecursion (λ y. name_cmp k y ≡ Less) xs
all-above k x [] below all = tt
all-above k x (y ∷ ys) below all = (nat_list_cmp_total.trans k x y below all.0, all-above k x ys below all.1)

IsSet-insert : (ks : List (List ℕ)) (k : List ℕ) → IsSet ks → IsSet (insert_key name_cmp ks k)
unfolding IsStrictlySortedBy
IsSet-insert [] k rise = (tt, tt)
IsSet-insert (x ∷ xs) k rise = by (name_cmp k x) refl (IsSet-insert xs k rise.1)
  where
    by : (r : Ordering) → name_cmp k x ≡ r → IsSet (insert_key name_cmp xs k) → IsSet (match_ordering r (k ∷ x ∷ xs) (x ∷ xs) (x ∷ insert_key name_cmp xs k))
    by Less e rest = ((e, all-above k x xs e rise.0), rise)
    by Equal e rest = rise
    by Greater e rest = (all-insert (λ y. name_cmp x y ≡ Less) xs k rise.0 (nat_list_cmp_total.antisymm x k ∙ ap ordering_reverse e), rest)

is_among-insert : (ks : List (List ℕ)) (k name : List ℕ) → is_among (insert_key name_cmp ks k) name ≡ (bytes_eq k name || is_among ks name)
is_among-insert [] k name = refl
is_among-insert (x ∷ xs) k name = by (name_cmp k x) refl (is_among-insert xs k name)
  where
    by : (r : Ordering) → name_cmp k x ≡ r → is_among (insert_key name_cmp xs k) name ≡ (bytes_eq k name || is_among xs name)
        → is_among (match_ordering r (k ∷ x ∷ xs) (x ∷ xs) (x ∷ insert_key name_cmp xs k)) name ≡ (bytes_eq k name || (bytes_eq x name || is_among xs name))
    by Less e rest = refl
    by Equal e rest = or-twice (bytes_eq x name) (is_among xs name) ∙ ap (λ y. bytes_eq y name || (bytes_eq x name || is_among xs name)) (sym (exact_bytes k x e))
    by Greater e rest = ap (λ b. bytes_eq x name || b) rest ∙ or-swap (bytes_eq x name) (bytes_eq k name) (is_among xs name)

-- ---- the set of names

IsSet-fold : (names ks : List (List ℕ)) → IsSet ks → IsSet (fold (insert_key name_cmp) ks names)
IsSet-fold [] ks rise = rise
IsSet-fold (x ∷ xs) ks rise = IsSet-fold xs (insert_key name_cmp ks x) (IsSet-insert ks x rise)

pub IsSet-as_set : (names : List (List ℕ)) → IsSet (as_set names)
unfolding IsStrictlySortedBy
IsSet-as_set names = IsSet-fold names [] tt

is_among-fold : (names ks : List (List ℕ)) (name : List ℕ) → is_among (fold (insert_key name_cmp) ks names) name ≡ (is_among ks name || is_among names name)
is_among-fold [] ks name = sym (or-false (is_among ks name))
is_among-fold (x ∷ xs) ks name =
    is_among-fold xs (insert_key name_cmp ks x) name
    ∙ ap (λ b. b || is_among xs name) (is_among-insert ks x name)
    ∙ or-third (bytes_eq x name) (is_among ks name) (is_among xs name)

pub is_among-as_set : (names : List (List ℕ)) (name : List ℕ) → is_among (as_set names) name ≡ is_among names name
is_among-as_set names name = is_among-fold names [] name

-- ---- a set is told by what is in it

found_alike : (names : List (List ℕ)) (name : List ℕ) → list_any (is_at (name_cmp name)) names ≡ is_among names name
found_alike names name = ap (λ (test : List ℕ → Bool). list_any test names) (λ i n. (is_eq-slice_cmp name n ∙ nat_list_eq_equiv.symm name n) i)

set_of : List (List ℕ) → BTreeSet (List ℕ)
set_of names = record { keys = names }

pub same_sets : (a b : List (List ℕ)) → IsSet a → IsSet b → ((name : List ℕ) → is_among a name ≡ is_among b name) → a ≡ b
unfolding set_of
same_sets a b rise_a rise_b same =
    btree_set_from_contains nat_list_cmp_total (set_of a) (set_of b) rise_a rise_b (λ name. found_alike a name ∙ same name ∙ sym (found_alike b name)) exact_bytes

-- a set is the set of its own names
pub as_set-of_set : (names : List (List ℕ)) → IsSet names → as_set names ≡ names
as_set-of_set names rise = same_sets (as_set names) names (IsSet-as_set names) rise (is_among-as_set names)

-- ---- what is among the names of lists

pub is_among-append : (a b : List (List ℕ)) (name : List ℕ) → is_among (a ++ b) name ≡ (is_among a name || is_among b name)
is_among-append a b name = list_any-append (λ n. bytes_eq n name) a b

pub is_among-filter : (p : List ℕ → Bool) (names : List (List ℕ)) (name : List ℕ) → is_among (filter p names) name ≡ (p name && is_among names name)
is_among-filter p names name = any-filter_same (λ n. bytes_eq n name) p (p name) (λ n same. ap p ((bytes_eq-Decides n name).0 same)) names

-- ---- a list that is sorted and rid of doubles is the set of its names

is_among-dedup_from : (k : List ℕ) (xs : List (List ℕ)) (name : List ℕ) → is_among (dedup_from bytes_eq k xs) name ≡ (bytes_eq k name || is_among xs name)
is_among-dedup_from k [] name = refl
is_among-dedup_from k (x ∷ xs) name = by (bytes_eq x k) refl (is_among-dedup_from k xs name) (is_among-dedup_from x xs name)
  where
    by : (b : Bool) → bytes_eq x k ≡ b → is_among (dedup_from bytes_eq k xs) name ≡ (bytes_eq k name || is_among xs name)
        → is_among (dedup_from bytes_eq x xs) name ≡ (bytes_eq x name || is_among xs name)
        → is_among (cond b (dedup_from bytes_eq k xs) (k ∷ dedup_from bytes_eq x xs)) name ≡ (bytes_eq k name || (bytes_eq x name || is_among xs name))
    by true same past kept =
        past ∙ or-twice (bytes_eq k name) (is_among xs name)
        ∙ ap (λ y. bytes_eq k name || (bytes_eq y name || is_among xs name)) (sym ((bytes_eq-Decides x k).0 same))
    by false other past kept = ap (λ b. bytes_eq k name || b) kept

is_among-dedup : (names : List (List ℕ)) (name : List ℕ) → is_among (dedup bytes_eq names) name ≡ is_among names name
is_among-dedup [] name = refl
is_among-dedup (x ∷ xs) name = is_among-dedup_from x xs name

pub as_set-sorted : (names sorted : List (List ℕ)) → IsPermutation names sorted → IsSorted name_cmp sorted → dedup bytes_eq sorted ≡ as_set names
as_set-sorted names sorted moved rise =
    same_sets (dedup bytes_eq sorted) (as_set names) (IsStrictlySortedBy-dedup nat_list_cmp_total alike sorted rise) (IsSet-as_set names)
    (λ name. is_among-dedup sorted name ∙ sym (list_any-IsPermutation (λ n. bytes_eq n name) names sorted moved) ∙ sym (is_among-as_set names name))
  where
    alike : (x y : List ℕ) → bytes_eq x y ≡ eq_by_cmp name_cmp x y
    alike x y = sym (is_eq-slice_cmp x y)
