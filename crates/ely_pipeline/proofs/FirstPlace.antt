-- What a first place says: the text stands there, at no smaller place, and where there is none it stands nowhere.
use Rattle.std.proofs.Common.{◌≡◌, ◌≢◌, ℕ, zero, suc, ◌+◌, ◌<◌, ◌≤◌, Bool, true, List, ◌++◌, Some, None, refl, sym, ap, subst, ◌∙◌, arith, ⊎_elim, length, take, drop, append_assoc, length-append}
use Rattle.std.specs.Prelude.{find}
use Rattle.std.specs.List.{range_with_len}
use Rattle.std.proofs.lemmas.Bool.{cases_Bool, cases_eq, cond-true, cond-false, false≢true}
use Rattle.std.proofs.lemmas.Bool.Decides.{Decides-eqb}
use Rattle.std.proofs.lemmas.List.{drop-drop, take-append-drop}
use Rattle.std.proofs.lemmas.Option.{same_Some, none-some}
use Rattle.std.proofs.lemmas.Slice.Eq.{starts_is}
use Rattle.std.proofs.Math.Seq.{drop-append_seam}
use Rattle.ely_pipeline.specs.Cuts.{stands_at, first_place}

module _ (p : ℕ → Bool) where
  -- the number that is found passes
  passes : (n a k : ℕ) → find p (range_with_len a n) ≡ Some k → p k ≡ true
  passes zero a k h = absurd (none-some k h)
  passes (suc n) a k h = ⊎_elim
      (λ yes. subst (λ q. p q ≡ true) (same_Some a k (sym (cond-true _ _ _ yes) ∙ h)) yes)
      (λ fails. passes n (a + 1) k (sym (cond-false _ _ _ fails) ∙ h))
      (cases_Bool (p a))

  -- no smaller number of the range passes
  least : (n a k q : ℕ) → find p (range_with_len a n) ≡ Some k → a ≤ q → q < a + n → p q ≡ true → k ≤ q
  least zero a k q h low high at = absurd (omega arith)
  least (suc n) a k q h low high at = ⊎_elim
      (λ yes. let same : a ≡ k = same_Some a k (sym (cond-true _ _ _ yes) ∙ h) in omega arith)
      (λ fails. ⊎_elim
      (λ same. absurd (false≢true (sym fails ∙ ap p same ∙ at)))
      (λ other. least n (a + 1) k q (sym (cond-false _ _ _ fails) ∙ h) (omega arith) (omega arith) at)
      (cases_eq a q))
      (cases_Bool (p a))

  -- where none is found, no number of the range passes
  none_passes : (n a q : ℕ) → find p (range_with_len a n) ≡ None → a ≤ q → q < a + n → p q ≢ true
  none_passes zero a q h low high at = absurd (omega arith)
  none_passes (suc n) a q h low high at = ⊎_elim
      (λ yes. none-some a (sym h ∙ cond-true _ _ _ yes))
      (λ fails. ⊎_elim
      (λ same. false≢true (sym fails ∙ ap p same ∙ at))
      (λ other. none_passes n (a + 1) q (sym (cond-false _ _ _ fails) ∙ h) (omega arith) (omega arith) at)
      (cases_eq a q))
      (cases_Bool (p a))

module _ (text name : List ℕ) where
  pub there : (place : ℕ) → first_place text name ≡ Some place → name ≡ take place name ++ text ++ drop (place + length text) name
  there place h =
      let stands : stands_at text name place ≡ true = passes (stands_at text name) (length name + 1) 0 place h in
      sym (take-append-drop place name)
      ∙ ap (λ rest. take place name ++ rest) ((starts_is Decides-eqb (drop place name) text (stands_at text name place) refl).0 stands)
      ∙ sym (append_assoc (take place name) text (drop (length text) (drop place name)))
      ∙ ap (λ rest. take place name ++ text ++ rest) (drop-drop (length text) place name)

  -- where the text stands between two parts, it stands at the length of the first
  stands_between : (front back : List ℕ) → name ≡ front ++ text ++ back → stands_at text name (length front) ≡ true
  stands_between front back e =
      (starts_is Decides-eqb (drop (length front) name) text (stands_at text name (length front)) refl).1 back
      (ap (drop (length front)) (e ∙ append_assoc front text back) ∙ drop-append_seam front (text ++ back))

  within : (front back : List ℕ) → name ≡ front ++ text ++ back → length front < 0 + (length name + 1)
  within front back e = omega (arith, ap length (e ∙ append_assoc front text back), length-append front (text ++ back))

  pub first : (front back : List ℕ) (place : ℕ) → first_place text name ≡ Some place → name ≡ front ++ text ++ back → place ≤ length front
  first front back place h e = least (stands_at text name) (length name + 1) 0 place (length front) h (omega arith) (within front back e) (stands_between front back e)

  pub nowhere : (front back : List ℕ) → first_place text name ≡ None → name ≢ front ++ text ++ back
  nowhere front back h e = none_passes (stands_at text name) (length name + 1) 0 (length front) h (omega arith) (within front back e) (stands_between front back e)
