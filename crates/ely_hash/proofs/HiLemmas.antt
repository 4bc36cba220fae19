-- A running value of Hi.
use Rattle.std.proofs.Common.{◌≡◌, ℕ, zero, suc, ◌+◌, ◌≤◌, List, [], ◌∷◌, ◌++◌, length, refl, arith, sym, ap, ◌∙◌, add-one, length-append}
use Rattle.ely_hash.specs.Hashes.{Hash}
use Rattle.ely_hash.specs.Formulas.{xor_lists, xor_all, u_at, us_to, hmac_of, hi_of}
use Rattle.ely_hash.proofs.XorLemmas.{xor_all-push, length-xor_lists}

pub length-us_to : (mac : List ℕ → List ℕ) (first : List ℕ) (n : ℕ) → length (us_to mac first n) ≡ n
unfolding us_to
length-us_to mac first zero = refl
length-us_to mac first (suc n) = omega (arith, length-append (us_to mac first n) (u_at mac first n ∷ []), length-us_to mac first n)

xor_all-more : (xs : List (List ℕ)) (y : List ℕ) → 1 ≤ length xs → xor_all (xs ++ y ∷ []) ≡ xor_lists (xor_all xs) y
xor_all-more [] y h = absurd (omega (arith, h))
xor_all-more (x ∷ xs) y h = xor_all-push x xs y

us_to-more : (mac : List ℕ → List ℕ) (first : List ℕ) (n : ℕ) → us_to mac first (n + 1) ≡ us_to mac first n ++ u_at mac first n ∷ []
unfolding us_to
us_to-more mac first n = rw add-one refl

u_at-more : (mac : List ℕ → List ℕ) (first : List ℕ) (n : ℕ) → u_at mac first (n + 1) ≡ mac (u_at mac first n)
unfolding u_at
u_at-more mac first n = rw add-one refl

-- after k turns: the next one is U (k + 1), and the running value is the xor of U1 to Uk
pub record IsHiAt (mac : List ℕ → List ℕ) (first : List ℕ) (len : ℕ) (last total : List ℕ) (k : ℕ) : Type 0 where
  pub next : mac last ≡ u_at mac first k
  pub so_far : total ≡ xor_all (us_to mac first k)
  pub last_len : length last ≡ len
  pub total_len : length total ≡ len

pub IsHiAt-one : (mac : List ℕ → List ℕ) (first : List ℕ) (len : ℕ) (last : List ℕ) → last ≡ mac first → length last ≡ len → IsHiAt mac first len last last 1
unfolding u_at us_to xor_all
IsHiAt-one mac first len last h n = record {
  next = ap mac h;
  so_far = h;
  last_len = n;
  total_len = n;
}

pub IsHiAt-more : (mac : List ℕ → List ℕ) (first : List ℕ) (len : ℕ) (last total u : List ℕ) (k : ℕ) → 1 ≤ k → u ≡ mac last → length u ≡ len → IsHiAt mac first len last total k → IsHiAt mac first len u (xor_lists total u) (k + 1)
IsHiAt-more mac first len last total u k some is n h =
    let here : u ≡ u_at mac first k = is ∙ h.next in
    let many : 1 ≤ length (us_to mac first k) = omega (arith, length-us_to mac first k) in
    record {
      next = ap mac here ∙ sym (u_at-more mac first k);
      so_far =
          rw (us_to-more mac first k)
          (ap (λ (t : List ℕ). xor_lists t u) h.so_far
          ∙ ap (xor_lists (xor_all (us_to mac first k))) here
          ∙ sym (xor_all-more (us_to mac first k) (u_at mac first k) many));
      last_len = n;
      total_len = length-xor_lists total u (h.total_len ∙ sym n) ∙ h.total_len;
    }

-- the value of Hi as the exclusive or of all U
pub hi_is : (hash : Hash) (password salt : List ℕ) (turns : ℕ) → hi_of hash password salt turns ≡ xor_all (us_to (hmac_of hash password) (salt ++ 0 ∷ 0 ∷ 0 ∷ 1 ∷ []) turns)
unfolding hi_of
hi_is hash password salt turns = refl

-- after all turns, the running value is Hi's
pub IsHiAt-hi_of : (hash : Hash) (password salt : List ℕ) (len : ℕ) (last total : List ℕ) (k turns : ℕ) → k ≡ turns → IsHiAt (hmac_of hash password) (salt ++ 0 ∷ 0 ∷ 0 ∷ 1 ∷ []) len last total k → total ≡ hi_of hash password salt turns
IsHiAt-hi_of hash password salt len last total k turns all h = rw (hi_is hash password salt turns, sym all) h.so_far
