-- An item that is dropped by its number.
use Rattle.std.proofs.Common.{◌≡◌, ◌≢◌, ◌-◌, ℕ, Bool, true, false, List, [], ◌∷◌, ◌++◌, refl, sym, ap, ap₂, subst, ◌<◌, length, arith, ◌∙◌, cond, Option, Some, None, nat_eq, IsSome, is_some}
use Rattle.std.specs.Map.{lookup, remove_entry}
use Rattle.std.specs.Str.{bytes_eq}
use Rattle.std.proofs.lemmas.Bool.{eqb-true}
use Rattle.std.proofs.lemmas.List.{map-append}
use Rattle.ely_cache.specs.declared.entry.Entry.{Entry}
use Rattle.ely_cache.specs.Entries.{entry_key}
use Rattle.ely_cache.specs.Resting.{ones_at}
use Rattle.ely_cache.specs.Tied.{AreTied, IsOneLess, IsUnused, Item, entries_of}
use Rattle.ely_cache.proofs.Items.{each_parts, lookup_split, remove_entry_split}
use Rattle.ely_cache.proofs.Rests.{AreRests, Resting, rests-gone}
use Rattle.ely_cache.proofs.Ties.{tied_front, tied_rest}

-- the item of a number, with those before and after it
pub record At (n : ℕ) (e : Entry) (items : List Item) : Type 0 where
  pub before : List Item
  pub after : List Item
  pub is : items ≡ before ++ (n, e) ∷ after

some_is : (e f : Entry) → Some e ≡ Some f → e ≡ f
some_is e f same = cc

-- where there is an item, there are items
pub some_items : (items : List Item) (n : ℕ) (e : Entry) → Some e ≡ lookup (nat_eq n) items → 0 < length items
some_items [] n e found = absurd (let bad : Some e ≡ None = found in (cc))
some_items (x ∷ xs) n e found = omega arith

pub at-lookup : (items : List Item) (n : ℕ) (e : Entry) → lookup (nat_eq n) items ≡ Some e → At n e items
at-lookup [] n e found = absurd (let bad : None ≡ Some e = found in (cc))
at-lookup (x ∷ xs) n e found = by_first (nat_eq n x.0) refl (at-lookup xs n e)
  where
    by_first : (b : Bool) → nat_eq n x.0 ≡ b → (lookup (nat_eq n) xs ≡ Some e → At n e xs) → At n e (x ∷ xs)
    by_first true here later =
        let same : Some x.1 ≡ Some e = rw here at found in
        let number : n ≡ x.0 = eqb-true n x.0 here in
        record { before = []; after = xs; is = ap₂ (λ (m : ℕ) (f : Entry). (m, f) ∷ xs) (sym number) (some_is x.1 e same) }
    by_first false other later =
        let rest = later (rw other at found) in
        record { before = x ∷ rest.before; after = rest.after; is = ap (λ (ys : List Item). x ∷ ys) rest.is }

module _ (limit : ℕ) (g : List ℕ → Option ℕ) (free : List ℕ) where
  unused_before : (x : Item) (a b : List Item) → AreTied limit (a ++ x ∷ b) g free → IsUnused a x.0
  unused_before x a b t = (each_parts (λ (q : Item). q.0 ≢ x.0) a b (tied_front limit x a b g free t).numbered.0).0

  -- what is left
  abbrev Leaves : (List ℕ → Option ℕ) → (List ℕ → ℕ → ℕ) → Item → List Item → Type 0
  Leaves h less x items = AreTied limit (remove_entry (nat_eq x.0) items) h (free ++ x.0 ∷ []) × AreRests less (remove_entry (nat_eq x.0) items)

  leaves : (h : List ℕ → Option ℕ) (counts less : List ℕ → ℕ → ℕ) (x : Item) (a b : List Item) → AreTied limit (a ++ x ∷ b) g free → AreRests counts (a ++ x ∷ b)
      → ((key : List ℕ) → h key ≡ cond (bytes_eq (entry_key x.1) key) None (g key))
      → ((place : List ℕ) (s : ℕ) → less place s ≡ counts place s - ones_at x.1.deps x.0 place s) → Leaves h less x (a ++ x ∷ b)
  leaves h counts less x a b t is u gone =
      let left : remove_entry (nat_eq x.0) (a ++ x ∷ b) ≡ a ++ b = remove_entry_split x a b (unused_before x a b t) in (
        subst (λ (its : List Item). AreTied limit its h (free ++ x.0 ∷ [])) (sym left) (tied_rest limit x (a ++ b) g h free (tied_front limit x a b g free t) u),
        subst (AreRests less) (sym left) (rests-gone counts less x a b is gone),
      )

  pub dropped : (h : List ℕ → Option ℕ) (counts less : List ℕ → ℕ → ℕ) (n : ℕ) (e : Entry) (items : List Item) → AreTied limit items g free → AreRests counts items
      → Some e ≡ lookup (nat_eq n) items
      → ((key : List ℕ) → h key ≡ cond (bytes_eq (entry_key e) key) None (g key))
      → ((place : List ℕ) (s : ℕ) → less place s ≡ counts place s - ones_at e.deps n place s) → Leaves h less (n, e) items
  dropped h counts less n e items t is found u gone =
      let at = at-lookup items n e (sym found) in
      subst (Leaves h less (n, e)) (sym at.is)
      (leaves h counts less (n, e) at.before at.after (subst (λ (its : List Item). AreTied limit its g free) at.is t) (subst (AreRests counts) at.is is) u gone)

  -- an item that rests on such a place is there, and it alone goes by its number
  abbrev Goes : List ℕ → ℕ → List Item → Type 0
  Goes start s items = IsSome (lookup (nat_eq s) items) × IsOneLess start (entries_of items) (entries_of (remove_entry (nat_eq s) items))

  pub rested : (items : List Item) (start : List ℕ) (s : ℕ) → AreTied limit items g free → Resting start s items → Goes start s items
  rested items start s t w =
      let x = w.item in
      let tied = subst (λ (its : List Item). AreTied limit its g free) w.is t in
      let unused = unused_before x w.before w.after tied in
      let there : IsSome (lookup (nat_eq x.0) (w.before ++ x ∷ w.after)) = ap (λ (o : Option Entry). is_some o) (lookup_split x w.before w.after unused) in
      let left : remove_entry (nat_eq x.0) (w.before ++ x ∷ w.after) ≡ w.before ++ w.after = remove_entry_split x w.before w.after unused in
      let less : IsOneLess start (entries_of (w.before ++ x ∷ w.after)) (entries_of (remove_entry (nat_eq x.0) (w.before ++ x ∷ w.after))) = record {
        front = entries_of w.before;
        gone = x.1;
        back = entries_of w.after;
        before = map-append (λ (p : Item). p.1) w.before (x ∷ w.after);
        after = ap entries_of left ∙ map-append (λ (p : Item). p.1) w.before w.after;
        rested = w.rests;
      } in
      subst (λ (n : ℕ). Goes start n items) (sym w.number) (subst (Goes start x.0) (sym w.is) (there, less))
