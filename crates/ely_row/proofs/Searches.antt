-- What a binary search says of a set of names.
use Rattle.std.proofs.Common.{◌≡◌, ℕ, ◌≤◌, Bool, true, false, List, [], length, get_or, Result, Ok, Err, is_ok, refl, sym, ap, subst, ◌∙◌, arith}
use Rattle.std.specs.declared.cmp.Ordering.{Ordering}
use Rattle.std.specs.declared.cmp.Ordering.TheVariants.{Less, Equal, Greater}
use Rattle.std.specs.Ordering.{ordering_index, is_eq}
use Rattle.std.specs.List.{All}
use Rattle.std.specs.List.Sorted.{IsNonDecreasingBy, IsSearchInRange, IsBinarySearchResult}
use Rattle.std.specs.Prelude.{nat_lt}
use Rattle.std.specs.Str.{bytes_eq}
use Rattle.std.proofs.lemmas.Bool.Decides.{nat_tests}
use Rattle.std.proofs.lemmas.Map.Text.{is_eq-slice_cmp}
use Rattle.std.proofs.lemmas.Cmp.{nat_list_cmp_total}
use Rattle.std.proofs.lemmas.List.Folds.{list_any_at, list_any_none}
use Rattle.std.proofs.lemmas.Map.Keys.{Less-from_sorted}
use Rattle.std.proofs.lemmas.Map.Lookups.{exact_bytes}
use Rattle.std.proofs.lemmas.Slice.Eq.{bytes_eq-Decides}
use Rattle.ely_row.specs.Rows.{name_cmp}
use Rattle.ely_row.specs.Sets.{is_among, IsSet}

-- a smaller name stands no higher beside a third one
lower_first : (a b name : List ℕ) → name_cmp a b ≡ Less → ordering_index (name_cmp a name) ≤ ordering_index (name_cmp b name)
lower_first a b name less = by (name_cmp b name) refl (name_cmp a name) refl
  where
    by : (r : Ordering) → name_cmp b name ≡ r → (s : Ordering) → name_cmp a name ≡ s → ordering_index s ≤ ordering_index r
    by Less is s as_s = subst (λ o. ordering_index o ≤ 0) (sym (nat_list_cmp_total.trans a b name less is) ∙ as_s) (omega arith)
    by Equal is s as_s = subst (λ o. ordering_index o ≤ 1) (sym (ap (name_cmp a) (sym (exact_bytes b name is)) ∙ less) ∙ as_s) (omega arith)
    by Greater is Less as_s = omega arith
    by Greater is Equal as_s = omega arith
    by Greater is Greater as_s = omega arith

module _ (names : List (List ℕ)) (set : IsSet names) (name : List ℕ) where
  -- the comparisons with a name rise along a set
  comparisons_rise : IsNonDecreasingBy (λ one. ordering_index (name_cmp one name)) names
  comparisons_rise i j d le within = by (nat_lt i j) refl
    where
      by : (b : Bool) → nat_lt i j ≡ b → ordering_index (name_cmp (get_or names i d) name) ≤ ordering_index (name_cmp (get_or names j d) name)
      by true is = lower_first (get_or names i d) (get_or names j d) name (Less-from_sorted name_cmp names i j d set (grind (arith, nat_tests, is)) within)
      by false is =
          let same : i ≡ j = grind (arith, nat_tests, is, le) in
          subst (λ k. ordering_index (name_cmp (get_or names i d) name) ≤ ordering_index (name_cmp (get_or names k d) name)) same (omega arith)

  -- a name that isn't compared as equal is another one
  differs : (one : List ℕ) (r : Ordering) → name_cmp one name ≡ r → is_eq r ≡ false → bytes_eq one name ≡ false
  differs one r is other = sym (is_eq-slice_cmp one name) ∙ ap is_eq is ∙ other

  -- the search ends at a name exactly where the set has it
  pub found : (r : Result ℕ ℕ) → IsSearchInRange r (length names) → IsBinarySearchResult (λ one. name_cmp one name) names r → is_ok r ≡ is_among names name
  found (Ok at) within equal = sym (list_any_at (λ n. bytes_eq n name) names at [] within ((bytes_eq-Decides (get_or names at []) name).1 (exact_bytes (get_or names at []) name (equal []))))
  found (Err at) within parted = sym (list_any_none (λ n. bytes_eq n name) names none)
    where
      none : All (λ n. bytes_eq n name ≡ false) names
      none k d inside = by (nat_lt k at) refl
        where
          by : (b : Bool) → nat_lt k at ≡ b → bytes_eq (get_or names k d) name ≡ false
          by true is = differs (get_or names k d) Less ((parted comparisons_rise).0 k d (omega arith) (grind (arith, nat_tests, is))) refl
          by false is = differs (get_or names k d) Greater ((parted comparisons_rise).1 k d (grind (arith, nat_tests, is)) inside) refl
