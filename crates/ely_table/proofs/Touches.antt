-- An edit after the first ones touches a place exactly where the place's last edit has a number above theirs.
use Rattle.std.proofs.Common.{◌≡◌, ℕ, zero, suc, ◌+◌, ◌-◌, ◌<◌, ◌≤◌, Bool, true, false, ◌||◌, cond, ltb, List, [], ◌∷◌, drop, refl, sym, ap, ◌∙◌, ⊎_elim, arith}
use Rattle.std.specs.List.{list_any}
use Rattle.std.proofs.lemmas.Bool.{lt-ltb, le-ltb, cases_lt}
use Rattle.ely_row.specs.declared.edit.Edit.{Edit}
use Rattle.ely_row.specs.Edits.{Texts, is_of}
use Rattle.ely_table.specs.declared.table.Table.{Table}
use Rattle.ely_table.specs.Touching.{touched_since}
use Rattle.ely_table.specs.Kept.{last_of, last_from, last_touch, AreKept}

-- the same answer at each element
any_same : {X : Type 0} (p q : X → Bool) → ((x : X) → p x ≡ q x) → (xs : List X) → list_any p xs ≡ list_any q xs
any_same p q same [] = refl
any_same p q same (x ∷ xs) = ap (λ (b : Bool). b || list_any p xs) (same x) ∙ ap (λ (b : Bool). q x || b) (any_same p q same xs)

or_swap : (a b c d : Bool) → ((a || b) || (c || d)) ≡ ((a || c) || (b || d))
or_swap true b c d = refl
or_swap false true true d = refl
or_swap false true false d = refl
or_swap false false c d = refl

any_none : {Y : Type 0} (ys : List Y) → list_any (λ (y : Y). false) ys ≡ false
any_none [] = refl
any_none (y ∷ ys) = any_none ys

any_or : {Y : Type 0} (p q : Y → Bool) (ys : List Y) → (list_any p ys || list_any q ys) ≡ list_any (λ (y : Y). p y || q y) ys
any_or p q [] = refl
any_or p q (y ∷ ys) = or_swap (p y) (list_any p ys) (q y) (list_any q ys) ∙ ap (λ (b : Bool). (p y || q y) || b) (any_or p q ys)

-- one of these for one of those, or the other way round
any_swap : {X Y : Type 0} (f : X → Y → Bool) (xs : List X) (ys : List Y) → list_any (λ (x : X). list_any (f x) ys) xs ≡ list_any (λ (y : Y). list_any (λ (x : X). f x y) xs) ys
any_swap f [] ys = sym (any_none ys)
any_swap f (x ∷ xs) ys = ap (λ (b : Bool). list_any (f x) ys || b) (any_swap f xs ys) ∙ any_or (f x) (λ y. list_any (λ x. f x y) xs) ys

or_true : (b : Bool) → true ≡ (b || true)
or_true true = refl
or_true false = refl

or_false : (b : Bool) → b ≡ (b || false)
or_false true = refl
or_false false = refl

number_within : (here : Bool) (k last : ℕ) → last ≤ k → cond here (k + 1) last ≤ k + 1
number_within true k last low = omega arith
number_within false k last low = omega arith

-- v edits are passed, and this edit has the number k + 1
passed : (here : Bool) (v k last : ℕ) (edit : Edit) (p : Edit → Bool) (edits : List Edit) → p edit ≡ here → last ≤ k → (ltb v (cond here (k + 1) last) || list_any p (drop (v - (k + 1)) edits)) ≡ (ltb v last || list_any p (drop (v - k) (edit ∷ edits)))
passed here v k last edit p edits is low = ⊎_elim early late (cases_lt k v)
  where
    early : k < v → (ltb v (cond here (k + 1) last) || list_any p (drop (v - (k + 1)) edits)) ≡ (ltb v last || list_any p (drop (v - k) (edit ∷ edits)))
    early h =
        let next : suc (v - (k + 1)) ≡ v - k = omega arith in
        let within = number_within here k last low in
        let new_low : ltb v (cond here (k + 1) last) ≡ false = le-ltb v (cond here (k + 1) last) (omega (arith, within)) in
        let old_low : ltb v last ≡ false = le-ltb v last (omega arith) in
        ap (λ (b : Bool). b || list_any p (drop (v - (k + 1)) edits)) (new_low ∙ sym old_low) ∙ ap (λ (j : ℕ). ltb v last || list_any p (drop j (edit ∷ edits))) next

    by_here : (b : Bool) → p edit ≡ b → v ≤ k → (ltb v (cond b (k + 1) last) || list_any p edits) ≡ (ltb v last || (p edit || list_any p edits))
    by_here true e h =
        let above : ltb v (k + 1) ≡ true = lt-ltb v (k + 1) (omega arith) in
        ap (λ (b : Bool). b || list_any p edits) above ∙ (or_true (ltb v last) ∙ ap (λ (b : Bool). ltb v last || (b || list_any p edits)) (sym e))
    by_here false e h = ap (λ (b : Bool). ltb v last || (b || list_any p edits)) (sym e)

    late : v ≤ k → (ltb v (cond here (k + 1) last) || list_any p (drop (v - (k + 1)) edits)) ≡ (ltb v last || list_any p (drop (v - k) (edit ∷ edits)))
    late h =
        let none : v - (k + 1) ≡ 0 = omega arith in
        let none_yet : 0 ≡ v - k = omega arith in
        ap (λ (j : ℕ). ltb v (cond here (k + 1) last) || list_any p (drop j edits)) none
        ∙ (by_here here is h ∙ ap (λ (j : ℕ). ltb v last || list_any p (drop j (edit ∷ edits))) none_yet)

drop_nil : (m : ℕ) → [] ≡ drop {A = Edit} m []
drop_nil zero = refl
drop_nil (suc m) = refl

any_from : (r n : List ℕ) (v k last : ℕ) (edits : List Edit) → last ≤ k → ltb v (last_from r n k last edits) ≡ (ltb v last || list_any (is_of r n) (drop (v - k) edits))
any_from r n v k last [] low = or_false (ltb v last) ∙ ap (λ (es : List Edit). ltb v last || list_any (is_of r n) es) (drop_nil (v - k))
any_from r n v k last (edit ∷ edits) low =
    let here = is_of r n edit in
    any_from r n v (k + 1) (cond here (k + 1) last) edits (number_within here k last low)
    ∙ passed here v k last edit (is_of r n) edits refl low

-- whether a later edit is of the name
any_later_touch : (edits : List Edit) (v : ℕ) (r n : List ℕ) → list_any (is_of r n) (drop v edits) ≡ ltb v (last_touch edits r n)
unfolding last_touch
any_later_touch edits v r n =
    let start : v - 0 ≡ v = omega arith in
    let none : ltb v 0 ≡ false = le-ltb v 0 (omega arith) in
    sym (any_from r n v 0 0 edits (omega arith) ∙ (ap (λ (b : Bool). b || list_any (is_of r n) (drop (v - 0) edits)) none ∙ ap (λ (k : ℕ). list_any (is_of r n) (drop k edits)) start))

-- whether a later edit touches one of the places
pub touched_kept : (texts : Texts) (ts : List Table) (edits : List Edit) (v : ℕ) (deps : List (List ℕ × List ℕ)) → AreKept texts ts edits → list_any (λ (place : List ℕ × List ℕ). ltb v (last_of ts place.0 place.1)) deps ≡ touched_since edits v deps
unfolding touched_since
touched_kept texts ts edits v deps kept =
    any_same _ _ (λ (place : List ℕ × List ℕ). ap (ltb v) (kept.lasts place.0 place.1) ∙ sym (any_later_touch edits v place.0 place.1)) deps
    ∙ sym (any_swap (λ (e : Edit) (place : List ℕ × List ℕ). is_of place.0 place.1 e) (drop v edits) deps)
