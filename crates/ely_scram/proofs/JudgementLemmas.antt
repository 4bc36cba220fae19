-- What a judgement is and what it costs, test by test.
use Rattle.std.proofs.Common.{◌≡◌, ℕ, ◌+◌, ◌≤◌, Bool, true, false, ◌&&◌, nat_eq, ◌↔◌, List, length, refl, sym, ap, ◌∙◌, arith}
use Rattle.std.specs.Prelude.{IsTrue, if◌then◌else◌}
use Rattle.std.specs.Str.{bytes_eq}
use Rattle.std.proofs.lemmas.Bool.Decides.{same_from_decides}
use Rattle.std.proofs.lemmas.Slice.Eq.{bytes_eq-Decides}
use Rattle.ely_hash.specs.Hashes.{Hash}
use Rattle.ely_hash.specs.Formulas.{xor_lists}
use Rattle.ely_hash.specs.declared.derive.ScramKeys.{ScramKeys}
use Rattle.ely_scram_msg.specs.declared.first.ClientFirst.{ClientFirst}
use Rattle.ely_scram_msg.specs.declared.last.ClientLast.{ClientLast}
use Rattle.ely_scram.specs.Judgement.{signature_of, has_binding, has_nonce, has_proof, judgement_of, is_proved}
use Rattle.ely_scram.specs.JudgementCosts.{judge_cost}
use Rattle.ely_scram.specs.declared.judgement.Judged.TheVariants.{Proved, BadBinding, BadNonce, BadProof}

-- `bytes_eq` says what any other test of equality says
pub bytes_eq-test : (xs ys : List ℕ) (r t : Bool) → IsTrue r ↔ (xs ≡ ys) → r ≡ t → bytes_eq xs ys ≡ t
bytes_eq-test xs ys r t h said = same_from_decides (bytes_eq xs ys) r (bytes_eq-Decides xs ys) h ∙ said

-- steps that are a cost's
pub steps_of-cost : (old new n cost : ℕ) → new ≡ old + n → cost ≡ n → new ≡ old + cost
steps_of-cost old new n cost taken is = taken ∙ ap (λ (k : ℕ). old + k) (sym is)

-- no step for a cost of none
pub steps_of-no_cost : (steps cost : ℕ) → cost ≡ 0 → steps ≡ steps + cost
steps_of-no_cost steps cost is = steps_of-cost steps steps 0 cost (omega arith) is

module _ (hash : Hash) (keys : ScramKeys) (first : ClientFirst) (server_first : List ℕ) (last : ClientLast) where
  -- a proof of another length than a digest's is none
  pub has_proof-other_len : nat_eq (length last.proof) hash.len ≡ false → has_proof hash keys first server_first last ≡ false
  unfolding has_proof
  has_proof-other_len other = rw other refl

  -- of a proof that has the length, the digest decides
  pub has_proof-sized : (r t : Bool) (signature proof : List ℕ) → signature ≡ signature_of hash keys.stored first server_first last → proof ≡ last.proof → nat_eq (length last.proof) hash.len ≡ true → IsTrue r ↔ (hash.digest (xor_lists proof signature) ≡ keys.stored) → r ≡ t → has_proof hash keys first server_first last ≡ t
  unfolding has_proof
  has_proof-sized r t signature proof signed is sized h said = rw sized (bytes_eq-test _ _ r t (rw (is, signed) at h) said)

module _ (hash : Hash) (keys : ScramKeys) (first : ClientFirst) (nonce server_first : List ℕ) (last : ClientLast) where
  -- each judgement, by the tests before it
  pub judgement_of-binding : has_binding first last ≡ false → judgement_of hash keys first nonce server_first last ≡ BadBinding
  unfolding judgement_of
  judgement_of-binding b = rw b refl

  pub judgement_of-nonce : has_binding first last ≡ true → has_nonce first nonce last ≡ false → judgement_of hash keys first nonce server_first last ≡ BadNonce
  unfolding judgement_of
  judgement_of-nonce b n = rw (b, n) refl

  pub judgement_of-proof : has_binding first last ≡ true → has_nonce first nonce last ≡ true → has_proof hash keys first server_first last ≡ false → judgement_of hash keys first nonce server_first last ≡ BadProof
  unfolding judgement_of
  judgement_of-proof b n p = rw (b, n, p) refl

  pub judgement_of-proved : has_binding first last ≡ true → has_nonce first nonce last ≡ true → has_proof hash keys first server_first last ≡ true → judgement_of hash keys first nonce server_first last ≡ Proved (signature_of hash keys.server first server_first last)
  unfolding judgement_of
  judgement_of-proved b n p = rw (b, n, p) refl

  -- each cost, likewise
  pub judge_cost-binding : has_binding first last ≡ false → judge_cost hash keys first nonce server_first last ≡ 0
  unfolding judge_cost
  judge_cost-binding b = rw b refl

  pub judge_cost-nonce : has_binding first last ≡ true → has_nonce first nonce last ≡ false → judge_cost hash keys first nonce server_first last ≡ 0
  unfolding judge_cost
  judge_cost-nonce b n = rw (b, n) refl

  pub judge_cost-other_len : has_binding first last ≡ true → has_nonce first nonce last ≡ true → nat_eq (length last.proof) hash.len ≡ false → judge_cost hash keys first nonce server_first last ≡ 0
  unfolding judge_cost
  judge_cost-other_len b n s = rw (b, n, s) refl

  pub judge_cost-proof : has_binding first last ≡ true → has_nonce first nonce last ≡ true → nat_eq (length last.proof) hash.len ≡ true → has_proof hash keys first server_first last ≡ false → judge_cost hash keys first nonce server_first last ≡ 1
  unfolding judge_cost
  judge_cost-proof b n s p = rw (b, n, p, s) refl

  pub judge_cost-proved : has_binding first last ≡ true → has_nonce first nonce last ≡ true → nat_eq (length last.proof) hash.len ≡ true → has_proof hash keys first server_first last ≡ true → judge_cost hash keys first nonce server_first last ≡ 2
  unfolding judge_cost
  judge_cost-proved b n s p = rw (b, n, p, s) refl

-- the three tests, one after the other
is_proved-tests : (b n p : Bool) (tag : List ℕ) → is_proved (if b then if n then if p then Proved tag else BadProof else BadNonce else BadBinding) ≡ (b && n && p)
is_proved-tests true true true tag = refl
is_proved-tests true true false tag = refl
is_proved-tests true false p tag = refl
is_proved-tests false n p tag = refl

-- a login is proved exactly where all three tests hold
pub is_proved-judgement_of : (hash : Hash) (keys : ScramKeys) (first : ClientFirst) (nonce server_first : List ℕ) (last : ClientLast) → is_proved (judgement_of hash keys first nonce server_first last) ≡ (has_binding first last && has_nonce first nonce last && has_proof hash keys first server_first last)
unfolding judgement_of
is_proved-judgement_of hash keys first nonce server_first last =
    is_proved-tests (has_binding first last) (has_nonce first nonce last) (has_proof hash keys first server_first last) (signature_of hash keys.server first server_first last)

-- both tests of a cost
judge_cost-tests : (t p : Bool) → (if t then if p then 2 else 1 else 0) ≤ 2
judge_cost-tests true true = omega arith
judge_cost-tests true false = omega arith
judge_cost-tests false p = omega arith

-- a judgement takes at most two HMAC computations
pub judge_cost-most : (hash : Hash) (keys : ScramKeys) (first : ClientFirst) (nonce server_first : List ℕ) (last : ClientLast) → judge_cost hash keys first nonce server_first last ≤ 2
unfolding judge_cost
judge_cost-most hash keys first nonce server_first last =
    judge_cost-tests (has_binding first last && has_nonce first nonce last && nat_eq (length last.proof) hash.len) (has_proof hash keys first server_first last)
