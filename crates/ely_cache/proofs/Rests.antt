-- The counts of the reverse index under each change of the items.
use Rattle.std.proofs.Common.{◌≡◌, ◌≢◌, ◌+◌, ◌-◌, ◌<◌, ◌&&◌, ℕ, Bool, true, false, List, [], ◌∷◌, ◌++◌, inl, inr, refl, sym, ap, subst, ◌∙◌, cond, Option, Some, arith, nat_eq, zero, suc}
use Rattle.std.specs.List.{AllByRecursion, list_any}
use Rattle.std.specs.Map.{lookup}
use Rattle.std.specs.Str.{bytes_eq}
use Rattle.std.proofs.lemmas.Bool.{cases_Bool, eqb-true, eq-eqb}
use Rattle.std.proofs.lemmas.List.Sums.{sum_by-cons}
use Rattle.lru.specs.LruCache.{last_entry, lru_cache, promoted as moved_front, put_entries}
use Rattle.ely_cache.specs.declared.entry.Entry.{Entry}
use Rattle.ely_cache.specs.declared.slots.Slots.{Slots}
use Rattle.ely_cache.specs.Codes.{begins_with, place_code}
use Rattle.ely_cache.specs.Entries.{entry_key}
use Rattle.ely_cache.specs.Resting.{StandsUnder, one_at, ones_at}
use Rattle.ely_cache.specs.Tied.{AreTied, IsTied, Item, IsUnused, entries_of, resting_on, rests_under, not_resting_under}
use Rattle.ely_cache.proofs.Items.{each_parts, lookup_entry_split, lookup_split, remove_entry_split}
use Rattle.ely_cache.proofs.Ties.{key_is, same_key, tied_front}
use Rattle.ely_cache.proofs.Views.{cut, last_split, moved_is, renewed_is}

-- the counts are those of the items
abbrev pub AreRests : (List ℕ → ℕ → ℕ) → List Item → Type 0
AreRests counts items = (place : List ℕ) (s : ℕ) → counts place s ≡ resting_on items place s

-- what one item counts
abbrev own : Item → List ℕ → ℕ → ℕ
own x place s = ones_at x.1.deps x.0 place s

resting-split : (x : Item) (a b : List Item) (place : List ℕ) (s : ℕ) → resting_on (a ++ x ∷ b) place s ≡ own x place s + resting_on (a ++ b) place s
resting-split x [] b place s = refl
resting-split x (y ∷ ys) b place s = let rest = resting-split x ys b place s in omega arith

-- an item comes to the front
pub rests-front : (counts : List ℕ → ℕ → ℕ) (x : Item) (a b : List Item) → AreRests counts (a ++ x ∷ b) → AreRests counts (x ∷ (a ++ b))
rests-front counts x a b is place s = is place s ∙ resting-split x a b place s

-- an item leaves
pub rests-gone : (counts less : List ℕ → ℕ → ℕ) (x : Item) (a b : List Item) → AreRests counts (a ++ x ∷ b)
    → ((place : List ℕ) (s : ℕ) → less place s ≡ counts place s - own x place s) → AreRests less (a ++ b)
rests-gone counts less x a b is gone place s =
    let was = is place s in let parts = resting-split x a b place s in let now = gone place s in omega arith

-- a new item in front
pub rests-new : (counts more : List ℕ → ℕ → ℕ) (x : Item) (items : List Item) → AreRests counts items
    → ((place : List ℕ) (s : ℕ) → more place s ≡ counts place s + own x place s) → AreRests more (x ∷ items)
rests-new counts more x items is put place s =
    let was = is place s in let now = put place s in omega arith

-- an item leaves, and another comes in front
pub rests-exchanged : (counts more less : List ℕ → ℕ → ℕ) (x y : Item) (a b : List Item) → AreRests counts (a ++ x ∷ b)
    → ((place : List ℕ) (s : ℕ) → more place s ≡ counts place s + own y place s)
    → ((place : List ℕ) (s : ℕ) → less place s ≡ more place s - own x place s) → AreRests less (y ∷ (a ++ b))
rests-exchanged counts more less x y a b is put gone place s =
    let was = is place s in let parts = resting-split x a b place s in let up = put place s in let down = gone place s in omega arith

module _ (limit : ℕ) (items : List Item) (g : List ℕ → Option ℕ) (free : List ℕ) where
  -- an item that the index names comes to the front
  pub moved_rests : (counts : List ℕ → ℕ → ℕ) (key : List ℕ) (n : ℕ) → AreTied limit items g free → g key ≡ Some n → AreRests counts items → AreRests counts (moved_front (nat_eq n) items)
  moved_rests counts key n t at is =
      let w = cut limit items g free key n t at in
      subst (AreRests counts) (sym (moved_is limit items g free key n w)) (rests-front counts (n, w.item) w.before w.after (subst (AreRests counts) w.is is))

  -- another entry takes its place in front
  pub renewed_rests : (counts more less : List ℕ → ℕ → ℕ) (n : ℕ) (e old : Entry) (cap : ℕ) → AreTied limit items g free → g (entry_key e) ≡ Some n → AreRests counts items
      → Some old ≡ lookup (nat_eq n) items
      → ((place : List ℕ) (s : ℕ) → more place s ≡ counts place s + ones_at e.deps n place s)
      → ((place : List ℕ) (s : ℕ) → less place s ≡ more place s - ones_at old.deps n place s) → AreRests less (put_entries nat_eq (lru_cache items cap) n e)
  renewed_rests counts more less n e old cap t at is found put gone =
      let w = cut limit items g free (entry_key e) n t at in
      let one : lookup (nat_eq n) items ≡ Some w.item = ap (λ (es : List Item). lookup (nat_eq n) es) w.is ∙ lookup_split (n, w.item) w.before w.after w.unused in
      let same : old ≡ w.item = (let both : Some old ≡ Some w.item = found ∙ one in (cc)) in
      subst (AreRests less) (sym (renewed_is limit items g free (entry_key e) n e cap w))
      (rests-exchanged counts more less (n, w.item) (n, e) w.before w.after (subst (AreRests counts) w.is is) put
      (λ place s. gone place s ∙ ap (λ (f : Entry). more place s - ones_at f.deps n place s) same))

module _ (limit cap : ℕ) (g : List ℕ → Option ℕ) where
  last_is : (x : Item) (e : Entry) (front : List Item) → AreTied limit (front ++ x ∷ []) g [] → put_entries nat_eq (lru_cache (front ++ x ∷ []) cap) x.0 e ≡ (x.0, e) ∷ (front ++ [])
  last_is x e front t =
      let first = tied_front limit x front [] g [] t in
      let unused : IsUnused front x.0 = (each_parts (λ (q : Item). q.0 ≢ x.0) front [] first.numbered.0).0 in
      rw (lookup_entry_split x front [] unused, remove_entry_split x front [] unused) refl

  -- a new entry takes the number of the last item, which leaves
  pub evicted_rests : (counts more less : List ℕ → ℕ → ℕ) (items : List Item) (x : Item) (e : Entry) → AreTied limit items g [] → last_entry items ≡ Some x → AreRests counts items
      → ((place : List ℕ) (s : ℕ) → more place s ≡ counts place s + ones_at e.deps x.0 place s)
      → ((place : List ℕ) (s : ℕ) → less place s ≡ more place s - ones_at x.1.deps x.0 place s) → AreRests less (put_entries nat_eq (lru_cache items cap) x.0 e)
  evicted_rests counts more less items x e t last is put gone =
      let s = last_split items x last in
      let tied = subst (λ (its : List Item). AreTied limit its g []) s.1 t in
      subst (λ (its : List Item). AreRests less (put_entries nat_eq (lru_cache its cap) x.0 e)) (sym s.1)
      (subst (AreRests less) (sym (last_is x e s.0 tied))
      (rests-exchanged counts more less x (x.0, e) s.0 [] (subst (AreRests counts) s.1 is) put gone))

-- ---- what the counts say of the items

-- whether the code of one of them begins with the start
abbrev names : List ℕ → List (List ℕ × List ℕ) → Bool
names start deps = list_any (λ d. begins_with start (place_code d.0 d.1)) deps

ones-cons : (d : List ℕ × List ℕ) (ds : List (List ℕ × List ℕ)) (n : ℕ) (place : List ℕ) (s : ℕ) → ones_at (d ∷ ds) n place s ≡ one_at (place_code d.0 d.1) n place s + ones_at ds n place s
ones-cons d ds n place s = sum_by-cons (λ (p : List ℕ × List ℕ). one_at (place_code p.0 p.1) n place s) d ds

one-some : (here number : Bool) → 0 < cond (here && number) 1 0 → (here ≡ true) × (number ≡ true)
one-some true true some = (refl, refl)
one-some true false some = absurd (omega arith)
one-some false number some = absurd (omega arith)

named_later : (d : List ℕ × List ℕ) (ds : List (List ℕ × List ℕ)) (start : List ℕ) → names start ds ≡ true → names start (d ∷ ds) ≡ true
named_later d ds start named = elim (cases_Bool (begins_with start (place_code d.0 d.1))) [ inl here ↦ rw here refl | inr other ↦ rw other named ]

module _ (start place : List ℕ) (begun : begins_with start place ≡ true) where
  -- a number that stands at a place is that of an entry which names the place
  ones-some : (ds : List (List ℕ × List ℕ)) (n s : ℕ) → 0 < ones_at ds n place s → (s ≡ n) × (names start ds ≡ true)
  ones-some [] n s some = absurd (omega (arith, some))
  ones-some (d ∷ ds) n s some = by_first (one_at (place_code d.0 d.1) n place s) refl (ones-some ds n s)
    where
      by_first : (first : ℕ) → one_at (place_code d.0 d.1) n place s ≡ first → (0 < ones_at ds n place s → (s ≡ n) × (names start ds ≡ true)) → (s ≡ n) × (names start (d ∷ ds) ≡ true)
      by_first zero none later =
          let parts = ones-cons d ds n place s in
          let rest = later (omega (arith, some)) in
          (rest.0, named_later d ds start rest.1)
      by_first (suc first) one later =
          let is = one-some (bytes_eq (place_code d.0 d.1) place) (nat_eq s n) (omega arith) in
          let here : begins_with start (place_code d.0 d.1) ≡ true = ap (begins_with start) (key_is (place_code d.0 d.1) place is.0) ∙ begun in
          (eqb-true s n is.1, rw here refl)

-- an item whose entry rests on such a place, with those before and after it
pub record Resting (start : List ℕ) (s : ℕ) (items : List Item) : Type 0 where
  pub item : Item
  pub before : List Item
  pub after : List Item
  pub is : items ≡ before ++ item ∷ after
  pub number : s ≡ item.0
  pub rests : rests_under start item.1 ≡ true

resting-some : (start place : List ℕ) → begins_with start place ≡ true → (items : List Item) (s : ℕ) → 0 < resting_on items place s → Resting start s items
resting-some start place begun [] s some = absurd (omega (arith, some))
resting-some start place begun (x ∷ xs) s some = by_first (own x place s) refl (resting-some start place begun xs s)
  where
    by_first : (first : ℕ) → own x place s ≡ first → (0 < resting_on xs place s → Resting start s xs) → Resting start s (x ∷ xs)
    by_first zero none later = let rest = later (omega (arith, some)) in record {
      item = rest.item;
      before = x ∷ rest.before;
      after = rest.after;
      is = ap (λ (ys : List Item). x ∷ ys) rest.is;
      number = rest.number;
      rests = rest.rests;
    }
    by_first (suc first) one later = let is = ones-some start place begun x.1.deps x.0 s (omega arith) in record {
      item = x;
      before = [];
      after = xs;
      is = refl;
      number = is.0;
      rests = is.1;
    }

-- a number that stands at such a place
pub resting-under : (slots : Slots) (start : List ℕ) (s : ℕ) → IsTied slots → StandsUnder start slots.resting s → Resting start s slots.order.entries
resting-under slots start s tied w =
    resting-some start w.place w.begun slots.order.entries s (subst (λ (n : ℕ). 0 < n) (tied.rests w.place s) w.some)

ones-none : (ds : List (List ℕ × List ℕ)) (n : ℕ) (start : List ℕ) → ((place : List ℕ) → begins_with start place ≡ true → ones_at ds n place n ≡ 0) → names start ds ≡ false
ones-none [] n start none = refl
ones-none (d ∷ ds) n start none =
    let code = place_code d.0 d.1 in
    let rest = ones-none ds n start (λ place begun. let all = none place begun in let parts = ones-cons d ds n place n in omega arith) in
    elim (cases_Bool (begins_with start code)) [
      | inl here ↦ absurd (
          let one : one_at code n code n ≡ 1 = rw (same_key code code refl, eq-eqb n n refl) refl in
          let parts = ones-cons d ds n code n in
          let all = none code here in
          omega arith)
      | inr other ↦ rw other rest
    ]

-- where no number stands at such a place
pub resting-none : (items : List Item) (start : List ℕ) → ((place : List ℕ) (s : ℕ) → begins_with start place ≡ true → resting_on items place s ≡ 0) → AllByRecursion (λ e. rests_under start e ≡ false) (entries_of items)
resting-none [] start none = tt
resting-none (x ∷ xs) start none =
    (ones-none x.1.deps x.0 start (λ place begun. let all = none place x.0 begun in omega arith), resting-none xs start (λ place s begun. let all = none place s begun in omega arith))

-- ---- dropping one after another

pub all_stay : (es : List Entry) (start : List ℕ) → AllByRecursion (λ e. rests_under start e ≡ false) es → not_resting_under start es ≡ es
all_stay [] start none = refl
all_stay (e ∷ es) start none = rw none.0 (ap (λ (fs : List Entry). e ∷ fs) (all_stay es start none.1))
