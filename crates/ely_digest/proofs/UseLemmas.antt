-- The counts of a nonce that stays in a table only rise.
use Rattle.std.proofs.Common.{◌≡◌, ℕ, zero, suc, ◌-◌, ◌<◌, ◌≤◌, true, false, List, [], ◌∷◌, ◌++◌, length, drop, fold}
use Rattle.std.proofs.Common.{Option, Some, None, IsSome, refl, sym, ap, ◌∙◌, subst, ⊎_elim, arith}
use Rattle.std.specs.Prelude.{is_some, is_ok}
use Rattle.std.specs.List.{AllByRecursion}
use Rattle.std.specs.Str.{bytes_eq}
use Rattle.std.proofs.lemmas.Bool.{cases_Bool, cond-true, cond-false, cases_lt, le-leb}
use Rattle.ely_digest.specs.Nonces.{Issued, Nonces, count_in, last_count, recounted, with_nonce, with_count, spending}
use Rattle.ely_digest.specs.Uses.{Use, issue, spend, accepts, after_use, Stays, IsSpent}
use Rattle.ely_digest.proofs.NonceLemmas.{same_bytes, counted, counted_nonce}

-- an entry of this nonce has at least that count
abbrev IsAbove : List ℕ → ℕ → List ℕ × ℕ → Type 0
IsAbove n c e = bytes_eq n e.0 ≡ true → c ≤ e.1

-- the same of all entries of a list, and of a table
abbrev AreAbove : List ℕ → ℕ → Issued → Type 0
AreAbove n c es = AllByRecursion (IsAbove n c) es

abbrev Above : List ℕ → ℕ → Nonces → Type 0
Above n c t = AreAbove n c t.issued

-- the last count of the nonce is at least that
above_last : (n : List ℕ) (c last : ℕ) (es : Issued) → AreAbove n c es → count_in es n ≡ Some last → c ≤ last
above_last n c last [] a h = cc
above_last n c last (e ∷ es) a h = ⊎_elim
    (λ (t : bytes_eq n e.0 ≡ true).
    let found : Some e.1 ≡ Some last = sym (cond-true (bytes_eq n e.0) (Some e.1) (count_in es n) t) ∙ h in
    let same : e.1 ≡ last = cc in
    omega (arith, a.0 t, same))
    (λ (f : bytes_eq n e.0 ≡ false). above_last n c last es a.1 (sym (cond-false (bytes_eq n e.0) (Some e.1)
    (count_in es n) f) ∙ h))
    (cases_Bool (bytes_eq n e.0))

-- what holds of all holds with one more, and without the oldest
above_push : (n : List ℕ) (c : ℕ) (es : Issued) (e : List ℕ × ℕ) → AreAbove n c es → IsAbove n c e → AreAbove n c (es ++ e ∷ [])
above_push n c [] e a h = (h, tt)
above_push n c (f ∷ es) e a h = (a.0, above_push n c es e a.1 h)

above_drop : (n : List ℕ) (c k : ℕ) (es : Issued) → AreAbove n c es → AreAbove n c (drop k es)
above_drop n c zero es a = a
above_drop n c (suc k) [] a = a
above_drop n c (suc k) (e ∷ es) a = above_drop n c k es a.1

-- an entry with another count of m, which is at least that where m is the nonce
above_counted : (n m : List ℕ) (c v : ℕ) (e : List ℕ × ℕ) → IsAbove n c e → (n ≡ m → c ≤ v) → IsAbove n c (counted m v e)
above_counted n m c v e a h t =
    let mine : bytes_eq n e.0 ≡ true = sym (ap (bytes_eq n) (counted_nonce m v e)) ∙ t in
    ⊎_elim
    (λ (s : bytes_eq m e.0 ≡ true).
    let same : n ≡ m = same_bytes n e.0 mine ∙ sym (same_bytes m e.0 s) in
    subst (λ (f : List ℕ × ℕ). c ≤ f.1) (sym (cond-true (bytes_eq m e.0) (e.0, v) e s)) (h same))
    (λ (f : bytes_eq m e.0 ≡ false). subst (λ (f : List ℕ × ℕ). c ≤ f.1) (sym (cond-false (bytes_eq m e.0) (e.0, v) e f))
    (a mine))
    (cases_Bool (bytes_eq m e.0))

-- the same of all
above_recounted : (n m : List ℕ) (c v : ℕ) (es : Issued) → AreAbove n c es → (n ≡ m → c ≤ v) → AreAbove n c (recounted es m v)
above_recounted n m c v [] a h = tt
above_recounted n m c v (e ∷ es) a h = (above_counted n m c v e a.0 h, above_recounted n m c v es a.1 h)

-- each entry of the nonce has the count that was spent
above_spent : (n : List ℕ) (c : ℕ) (es : Issued) → AreAbove n c (recounted es n c)
above_spent n c [] = tt
above_spent n c (e ∷ es) = (here, above_spent n c es)
  where
    here : IsAbove n c (counted n c e)
    here t =
        let mine : bytes_eq n e.0 ≡ true = sym (ap (bytes_eq n) (counted_nonce n c e)) ∙ t in
        subst (λ (f : List ℕ × ℕ). c ≤ f.1) (sym (cond-true (bytes_eq n e.0) (e.0, c) e mine)) (omega arith)

-- an accepted count is above the last
above_accepted : (o : Option ℕ) (c v : ℕ) → is_ok (spending o v) ≡ true → ((last : ℕ) → o ≡ Some last → c ≤ last) → c < v
above_accepted None c v h low = cc
above_accepted (Some last) c v h low = ⊎_elim
    (λ (above : last < v). omega (arith, low last refl, above))
    (λ (replay : v ≤ last). let refused : is_ok (spending (Some last) v) ≡ false = rw (le-leb v last replay) refl in cc)
    (cases_lt last v)

-- a last count is there or it isn't
known : (o : Option ℕ) → IsSome o → is_some o ≡ false → ⊥
known o some none = cc

-- one use leaves them above, where the nonce is in the table
step : (t : Nonces) (n : List ℕ) (c : ℕ) (u : Use) → AreAbove n c t.issued → IsSome (last_count t n)
    → AreAbove n c (after_use t u).issued
step t n c (issue m) a here = ⊎_elim
    (λ (yes : is_some (last_count t m) ≡ true). subst (Above n c) (sym (cond-true (is_some (last_count t m)) t
    (with_nonce t m) yes)) a)
    (λ (none : is_some (last_count t m) ≡ false).
    let pushed = above_push n c t.issued (m, 0) a (λ s. absurd (known (last_count t n) here (ap (λ (q : List ℕ). is_some
    (last_count t q)) (same_bytes n m s) ∙ none))) in
    subst (Above n c) (sym (cond-false (is_some (last_count t m)) t (with_nonce t m) none))
    (above_drop n c (length (t.issued ++ (m, 0) ∷ []) - t.limit) (t.issued ++ (m, 0) ∷ []) pushed))
    (cases_Bool (is_some (last_count t m)))
step t n c (spend m v) a here = ⊎_elim
    (λ (ok : accepts t m v ≡ true).
    let low : n ≡ m → c < v = λ same. above_accepted (last_count t m) c v ok (λ last h. above_last n c last t.issued a (ap
    (last_count t) same ∙ h)) in
    subst (Above n c) (sym (cond-true (accepts t m v) (with_count t m v) t ok))
    (above_recounted n m c v t.issued a (λ same. omega (arith, low same))))
    (λ (refused : accepts t m v ≡ false). subst (Above n c) (sym (cond-false (accepts t m v) (with_count t m v) t refused)) a)
    (cases_Bool (accepts t m v))

-- and so do all of them
rises : (n : List ℕ) (c later : ℕ) (uses : List Use) (t : Nonces) → AreAbove n c t.issued → Stays n t uses
    → accepts (fold after_use t uses) n later ≡ true → c < later
rises n c later [] t a stays h = above_accepted (last_count t n) c later h (λ last is. above_last n c last t.issued a is)
rises n c later (u ∷ uses) t a stays h = rises n c later uses (after_use t u) (step t n c u a stays.0) stays.1 h

-- a count that was spent is never accepted again
pub spent : (t : Nonces) (n : List ℕ) (c : ℕ) → IsSpent (with_count t n c) n c
spent t n c uses later stays h = rises n c later uses (with_count t n c) (above_spent n c t.issued) stays h
