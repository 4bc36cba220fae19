-- Lists of issued nonces: what a look-up finds behind one more, without the oldest, and with another count.
use Rattle.std.proofs.Common.{◌≡◌, ℕ, zero, suc, true, false, cond, List, [], ◌∷◌, ◌++◌, drop, Some, None, refl, sym}
use Rattle.std.proofs.Common.{ap, ◌∙◌, subst, ⊎_elim}
use Rattle.std.specs.Str.{bytes_eq}
use Rattle.std.proofs.lemmas.Bool.{cases_Bool, cond-true, cond-false}
use Rattle.std.proofs.lemmas.Slice.Eq.{bytes_eq-Decides}
use Rattle.ely_digest.specs.Nonces.{Issued, count_in, AreDistinct, recounted}

-- bytes that pass the test are the same
pub same_bytes : (xs ys : List ℕ) → bytes_eq xs ys ≡ true → xs ≡ ys
same_bytes xs ys h = (bytes_eq-Decides xs ys).0 h

pub bytes_same : (xs : List ℕ) → bytes_eq xs xs ≡ true
bytes_same xs = (bytes_eq-Decides xs xs).1 refl

-- no answer is both
clash : {X : Type 0} → true ≡ false → X
clash h = cc

-- the test has no order
differ : (xs ys : List ℕ) → bytes_eq xs ys ≡ false → bytes_eq ys xs ≡ false
differ xs ys h = ⊎_elim
    (λ (t : bytes_eq ys xs ≡ true). clash (sym (bytes_same ys)
    ∙ subst (λ (zs : List ℕ). bytes_eq zs ys ≡ false) (sym (same_bytes ys xs t)) h))
    (λ (f : bytes_eq ys xs ≡ false). f) (cases_Bool (bytes_eq ys xs))

-- a nonce that isn't found is not the first, and not among the others
pub passed : (e : List ℕ × ℕ) (es : Issued) (q : List ℕ) → count_in (e ∷ es) q ≡ None
    → (bytes_eq q e.0 ≡ false) × (count_in es q ≡ None)
passed e es q h = ⊎_elim
    (λ (t : bytes_eq q e.0 ≡ true). let found : Some e.1 ≡ None = sym (cond-true (bytes_eq q e.0) (Some e.1)
    (count_in es q) t) ∙ h in cc)
    (λ (f : bytes_eq q e.0 ≡ false). (f, sym (cond-false (bytes_eq q e.0) (Some e.1) (count_in es q) f) ∙ h))
    (cases_Bool (bytes_eq q e.0))

-- behind nonces among which it is not found, a look-up meets the last
pub found_last : (es : Issued) (e : List ℕ × ℕ) (q : List ℕ) → count_in es q ≡ None
    → count_in (es ++ e ∷ []) q ≡ cond (bytes_eq q e.0) (Some e.1) None
found_last [] e q h = refl
found_last (f ∷ es) e q h =
    let p = passed f es q h in
    cond-false (bytes_eq q f.0) (Some f.1) (count_in (es ++ e ∷ []) q) p.0 ∙ found_last es e q p.1

-- one that is not the last is found as before
pub found_before : (es : Issued) (e : List ℕ × ℕ) (q : List ℕ) → bytes_eq q e.0 ≡ false
    → count_in (es ++ e ∷ []) q ≡ count_in es q
found_before [] e q h = cond-false (bytes_eq q e.0) (Some e.1) None h
found_before (f ∷ es) e q h = ap (cond (bytes_eq q f.0) (Some f.1)) (found_before es e q h)

-- a nonce that is found nowhere is none of the nonces before the last, and not the last
pub none_prefix : (es : Issued) (e : List ℕ × ℕ) (q : List ℕ) → count_in (es ++ e ∷ []) q ≡ None
    → (count_in es q ≡ None) × (bytes_eq q e.0 ≡ false)
none_prefix [] e q h = (refl, (passed e [] q h).0)
none_prefix (f ∷ es) e q h =
    let p = passed f (es ++ e ∷ []) q h in
    let r = none_prefix es e q p.1 in
    (cond-false (bytes_eq q f.0) (Some f.1) (count_in es q) p.0 ∙ r.0, r.1)

-- the last of nonces that differ is not among those before it
pub distinct_prefix : (es : Issued) (e : List ℕ × ℕ) → AreDistinct (es ++ e ∷ []) → AreDistinct es × (count_in es e.0 ≡ None)
distinct_prefix [] e h = (tt, refl)
distinct_prefix (f ∷ es) e h =
    let p = none_prefix es e f.0 h.0 in
    let r = distinct_prefix es e h.1 in
    ((p.0, r.0), cond-false (bytes_eq e.0 f.0) (Some f.1) (count_in es e.0) (differ f.0 e.0 p.1) ∙ r.1)

-- one that is not among them may stand behind them
pub distinct_push : (es : Issued) (e : List ℕ × ℕ) → AreDistinct es → count_in es e.0 ≡ None → AreDistinct (es ++ e ∷ [])
distinct_push [] e a h = (refl, tt)
distinct_push (f ∷ es) e a h =
    let p = passed f es e.0 h in
    (found_last es e f.0 a.0 ∙ cond-false (bytes_eq f.0 e.0) (Some e.1) None (differ e.0 f.0 p.0), distinct_push es e a.1 p.1)

-- without the oldest they still differ, and another nonce still is none of them
pub distinct_drop : (k : ℕ) (es : Issued) → AreDistinct es → AreDistinct (drop k es)
distinct_drop zero es a = a
distinct_drop (suc k) [] a = a
distinct_drop (suc k) (e ∷ es) a = distinct_drop k es a.1

pub none_drop : (k : ℕ) (es : Issued) (q : List ℕ) → count_in es q ≡ None → count_in (drop k es) q ≡ None
none_drop zero es q h = h
none_drop (suc k) [] q h = h
none_drop (suc k) (e ∷ es) q h = none_drop k es q (passed e es q h).1

-- ---- another count

-- what becomes of one entry
abbrev pub counted : List ℕ → ℕ → List ℕ × ℕ → List ℕ × ℕ
counted n v e = cond (bytes_eq n e.0) (e.0, v) e

-- the nonce stays
pub counted_nonce : (n : List ℕ) (v : ℕ) (e : List ℕ × ℕ) → (counted n v e).0 ≡ e.0
counted_nonce n v e = ⊎_elim
    (λ (t : bytes_eq n e.0 ≡ true). ap (λ (p : List ℕ × ℕ). p.0) (cond-true (bytes_eq n e.0) (e.0, v) e t))
    (λ (f : bytes_eq n e.0 ≡ false). ap (λ (p : List ℕ × ℕ). p.0) (cond-false (bytes_eq n e.0) (e.0, v) e f))
    (cases_Bool (bytes_eq n e.0))

-- another count makes no nonce appear, and none come twice
none_recounted : (es : Issued) (n : List ℕ) (v : ℕ) (q : List ℕ) → count_in es q ≡ None → count_in (recounted es n v) q ≡ None
none_recounted [] n v q h = refl
none_recounted (e ∷ es) n v q h =
    let p = passed e es q h in
    let other : bytes_eq q (counted n v e).0 ≡ false = ap (bytes_eq q) (counted_nonce n v e) ∙ p.0 in
    cond-false (bytes_eq q (counted n v e).0) (Some (counted n v e).1) (count_in (recounted es n v) q) other
    ∙ none_recounted es n v q p.1

pub distinct_recounted : (es : Issued) (n : List ℕ) (v : ℕ) → AreDistinct es → AreDistinct (recounted es n v)
distinct_recounted [] n v a = tt
distinct_recounted (e ∷ es) n v a = (
  subst (λ (q : List ℕ). count_in (recounted es n v) q ≡ None) (sym (counted_nonce n v e))
      (none_recounted es n v e.0 a.0),
  distinct_recounted es n v a.1,
)

-- a nonce that is none of them changes nothing
pub unknown_recounted : (es : Issued) (n : List ℕ) (v : ℕ) → count_in es n ≡ None → recounted es n v ≡ es
unknown_recounted [] n v h = refl
unknown_recounted (e ∷ es) n v h =
    let p = passed e es n h in
    ap (λ (f : List ℕ × ℕ). f ∷ recounted es n v) (cond-false (bytes_eq n e.0) (e.0, v) e p.0)
    ∙ ap (λ (fs : Issued). e ∷ fs) (unknown_recounted es n v p.1)

-- the last is changed as the others
pub recounted_push : (es : Issued) (e : List ℕ × ℕ) (n : List ℕ) (v : ℕ)
    → recounted (es ++ e ∷ []) n v ≡ recounted es n v ++ counted n v e ∷ []
recounted_push [] e n v = refl
recounted_push (f ∷ es) e n v = ap (λ (fs : Issued). counted n v f ∷ fs) (recounted_push es e n v)
