-- The places whose codes begin with a start: they stand together in the reverse index, from the start on.
use Rattle.std.proofs.Common.{◌≡◌, ◌<◌, ◌⊎◌, ℕ, Bool, true, false, List, [], ◌∷◌, inl, inr, refl, sym, ap, subst, ◌∙◌, Some, None, arith, nat_eq, count_by, Less}
use Rattle.std.specs.Cmp.{first_so, second_so}
use Rattle.std.specs.Cmp.Lexicographic.{bytes_decides, slice_cmp, texts_ties}
use Rattle.std.specs.declared.cmp.Ordering.{Ordering}
use Rattle.std.specs.Ordering.{is_eq, is_gt, is_le, nat_cmp}
use Rattle.std.specs.declared.vec.Vec.{Vec}
use Rattle.std.specs.declared.ops.Bound.TheVariants.{Included, Unbounded}
use Rattle.std.specs.BTreeMap.{BTreeMap, IsOrdered, is_at}
use Rattle.std.specs.BTreeMap.Range.{IsEntryInRange, IsRangeOf, entries_between, range_contains}
use Rattle.std.specs.List.{AllByRecursion, filter, slice_get}
use Rattle.std.specs.List.Sorted.{IsStrictlySortedBy}
use Rattle.std.specs.Map.{keys_of, lookup}
use Rattle.std.proofs.lemmas.Bool.{cases_Bool, eq-eqb, eqb-true}
use Rattle.std.proofs.lemmas.Cmp.{by_ranked, nat_list_cmp_total, ranked}
use Rattle.std.proofs.lemmas.List.Elements.{recursion_from_All}
use Rattle.std.proofs.lemmas.List.Kept.{IsStrictlySortedBy-filter}
use Rattle.std.proofs.lemmas.Map.Entries.{lookup-filter-keys}
use Rattle.std.proofs.lemmas.Map.Keys.{sorted_head, sorted_tail}
use Rattle.ely_cache.specs.Codes.{begins_with}
use Rattle.ely_cache.specs.Resting.{NoneUnder, count_at, count_in, get_by_bytes}
use Rattle.ely_cache.proofs.Items.{each_weaker}

-- ---- the order of codes

-- a code from the start on that doesn't begin with it stands behind all that do
behind : (start place code : List ℕ) → begins_with start place ≡ true → is_gt (slice_cmp nat_cmp start code) ≡ false → begins_with start code ≡ false → slice_cmp nat_cmp place code ≡ Less
behind [] place code begun from other = absurd (let bad : true ≡ false = other in (cc))
behind (a ∷ bs) [] code begun from other = absurd (let bad : false ≡ true = begun in (cc))
behind (a ∷ bs) (p ∷ ps) [] begun from other = absurd (let bad : true ≡ false = from in (cc))
behind (a ∷ bs) (p ∷ ps) (k ∷ ks) begun from other =
    let same : a ≡ p = eqb-true a p (first_so (nat_eq a p) (begins_with bs ps) begun) in
    by_ranked (a < k) (a ≡ k) (k < a) (nat_cmp a k) (ranked a k (nat_cmp a k) refl)
    (λ e l. rw (← same, e) refl)
    (λ e q.
    let later : is_gt (slice_cmp nat_cmp bs ks) ≡ false = rw e at from in
    let differs : begins_with bs ks ≡ false = rw (eq-eqb a k q) at other in
    let rest = behind bs ps ks (second_so (nat_eq a p) (begins_with bs ps) begun) later differs in
    rw (← same, e) rest)
    (λ e g. absurd (let bad : true ≡ false = rw e at from in (cc)))

-- a code that begins with the start stands from it on
begun_from : (start code : List ℕ) → begins_with start code ≡ true → is_le (slice_cmp nat_cmp start code) ≡ true
begun_from [] [] begun = refl
begun_from [] (k ∷ ks) begun = refl
begun_from (a ∷ bs) [] begun = absurd (let bad : false ≡ true = begun in (cc))
begun_from (a ∷ bs) (k ∷ ks) begun =
    let same : a ≡ k = eqb-true a k (first_so (nat_eq a k) (begins_with bs ks) begun) in
    let rest = begun_from bs ks (second_so (nat_eq a k) (begins_with bs ks) begun) in
    by_ranked (a < k) (a ≡ k) (k < a) (nat_cmp a k) (ranked a k (nat_cmp a k) refl)
    (λ e l. rw e refl)
    (λ e q. rw e rest)
    (λ e g. absurd (omega arith))

pub no_first : (slots : List ℕ) → slice_get slots 0 ≡ None → slots ≡ []
no_first [] none = refl
no_first (n ∷ ns) none = absurd (let bad : Some n ≡ None = none in (cc))

-- ---- what is left of a range

-- a place's code and its numbers
abbrev Place : Type 0 → Type 0 → Type 0
Place Y Z = Vec ℕ Y × Vec ℕ Z

abbrev by_items : {Y : Type 0} → Vec ℕ Y → Vec ℕ Y → Ordering
by_items x y = slice_cmp nat_cmp x.items y.items

abbrev at_bytes : {Y : Type 0} → List ℕ → Vec ℕ Y → Bool
at_bytes bytes = is_at (λ k. slice_cmp nat_cmp bytes k.items)

-- how often the number stands at the place, among these
abbrev count_among : {Y Z : Type 0} → List (Place Y Z) → List ℕ → ℕ → ℕ
count_among places place s = count_in (lookup (at_bytes place) places) s

module _ {Y Z : Type 0} where
  -- places of the map from the start on, with each that has a number and whose code begins so
  pub record IsLeft (start : List ℕ) (m : BTreeMap (Vec ℕ Y) (Vec ℕ Z)) (left : List (Place Y Z)) : Type 0 where
    pub read : AllByRecursion (λ e. get_by_bytes m e.0.items ≡ Some e.1) left
    pub from : AllByRecursion (λ e. is_gt (slice_cmp nat_cmp start e.0.items) ≡ false) left
    pub rise : IsStrictlySortedBy by_items (keys_of left)
    pub all : (place : List ℕ) (s : ℕ) → begins_with start place ≡ true → 0 < count_at m place s → 0 < count_among left place s

  keys-filter : (p : Vec ℕ Y → Bool) (es : List (Place Y Z)) → keys_of (filter (λ e. p e.0) es) ≡ filter p (keys_of es)
  keys-filter p [] = refl
  keys-filter p (e ∷ es) = elim (cases_Bool (p e.0)) [ inl kept ↦ rw kept (ap (λ (ks : List (Vec ℕ Y)). e.0 ∷ ks) (keys-filter p es)) | inr gone ↦ rw gone (keys-filter p es) ]

  -- the whole range
  pub left-range : (start : Vec ℕ Y) (m : BTreeMap (Vec ℕ Y) (Vec ℕ Z)) (left : List (Place Y Z)) → IsRangeOf by_items (Included start) Unbounded m left
      → left ≡ entries_between by_items (Included start) Unbounded m.entries → IsOrdered by_items m → IsLeft start.items m left
  left-range start m left range between ordered =
      let in_range = recursion_from_All (IsEntryInRange by_items (Included start) Unbounded m) left range.0 in
      let p : Vec ℕ Y → Bool = range_contains by_items (Included start) Unbounded in record {
        read = each_weaker (IsEntryInRange by_items (Included start) Unbounded m) (λ (e : Place Y Z). get_by_bytes m e.0.items ≡ Some e.1) (λ e w. w.1) left in_range;
        from = each_weaker (IsEntryInRange by_items (Included start) Unbounded m) (λ (e : Place Y Z). is_gt (slice_cmp nat_cmp start.items e.0.items) ≡ false) (λ e w. w.0.0) left in_range;
        rise = subst (λ (es : List (Place Y Z)). IsStrictlySortedBy by_items (keys_of es)) (sym between)
            (subst (IsStrictlySortedBy by_items) (sym (keys-filter p m.entries)) (IsStrictlySortedBy-filter by_items p (keys_of m.entries) ordered));
        all = λ place s begun some.
            let kept : (k : Vec ℕ Y) → at_bytes place k ≡ true → p k ≡ true = λ k here.
            let is : place ≡ k.items = (bytes_decides place k.items).0 (texts_ties place k.items ∙ here) in
            let from : is_le (slice_cmp nat_cmp start.items k.items) ≡ true = begun_from start.items k.items (ap (begins_with start.items) (sym is) ∙ begun) in
            rw from refl in
            let same : lookup (at_bytes place) left ≡ lookup (at_bytes place) m.entries = ap (lookup (at_bytes place)) between ∙ lookup-filter-keys (at_bytes place) p true kept m.entries in
            rw same some;
      }

  module _ (start : List ℕ) (m : BTreeMap (Vec ℕ Y) (Vec ℕ Z)) where
    -- a place without numbers is passed
    pub left-empty : (e : Place Y Z) (left : List (Place Y Z)) → IsLeft start m (e ∷ left) → e.1.items ≡ [] → IsLeft start m left
    left-empty e left w empty = record {
      read = w.read.1;
      from = w.from.1;
      rise = sorted_tail by_items e.0 (keys_of left) w.rise;
      all = λ place s begun some. later place s (w.all place s begun some) (cases_Bool (at_bytes place e.0));
    }
      where
        later : (place : List ℕ) (s : ℕ) → 0 < count_among (e ∷ left) place s → (at_bytes place e.0 ≡ true) ⊎ (at_bytes place e.0 ≡ false) → 0 < count_among left place s
        later place s some (inl here) = absurd (let one : 0 < count_by (nat_eq s) e.1.items = rw here at some in let none : 0 < count_by (nat_eq s) [] = rw empty at one in omega (arith, none))
        later place s some (inr other) = rw other at some

    -- behind the last such place
    none_behind : (place : List ℕ) (left : List (Place Y Z)) → AllByRecursion (λ e. slice_cmp nat_cmp place e.0.items ≡ Less) left → lookup (at_bytes place) left ≡ None
    none_behind place [] h = refl
    none_behind place (e ∷ es) h = rw (ap is_eq h.0) (none_behind place es h.1)

    all_behind : (place code : List ℕ) (left : List (Place Y Z)) → slice_cmp nat_cmp place code ≡ Less → AllByRecursion (λ k. slice_cmp nat_cmp code k.items ≡ Less) (keys_of left) → AllByRecursion (λ e. slice_cmp nat_cmp place e.0.items ≡ Less) left
    all_behind place code [] less h = tt
    all_behind place code (e ∷ es) less h = (nat_list_cmp_total.trans place code e.0.items less h.0, all_behind place code es less h.1)

    pub left-past : (e : Place Y Z) (left : List (Place Y Z)) → IsLeft start m (e ∷ left) → begins_with start e.0.items ≡ false → NoneUnder start m
    left-past e left w other place s begun =
        let less = behind start place e.0.items begun w.from.0 other in
        let none : lookup (at_bytes place) (e ∷ left) ≡ None =
        none_behind place (e ∷ left) (less, all_behind place e.0.items left less (sorted_head by_items e.0 (keys_of left) w.rise)) in
        by_count (count_at m place s) refl (λ some. let bad : 0 < count_in {Y = Z} None s = rw none at (w.all place s begun some) in omega (arith, bad))
      where
        by_count : (n : ℕ) → count_at m place s ≡ n → (0 < count_at m place s → ⊥) → count_at m place s ≡ 0
        by_count n is none = omega arith

    pub left-none : IsLeft start m [] → NoneUnder start m
    left-none w place s begun = by_count (λ some. let bad : 0 < count_in {Y = Z} None s = w.all place s begun some in omega (arith, bad))
      where
        by_count : (0 < count_at m place s → ⊥) → count_at m place s ≡ 0
        by_count none = omega arith
