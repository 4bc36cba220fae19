-- A login is proved exactly where the client key is shown, said without the tests of the definition.
use Rattle.std.proofs.Common.{IsTrue, ◌≡◌, ℕ, Bool, true, false, ◌↔◌, List, ◌++◌, length, sym, ap, ◌∙◌, rules}
use Rattle.std.proofs.lemmas.Bool.Decides.{Decides-and, Decides-eqb, Decides-like, Decides-at}
use Rattle.std.proofs.lemmas.Slice.Eq.{bytes_eq-Decides}
use Rattle.std.specs.Bool.{Decides}
use Rattle.std.specs.Prelude.{if◌then◌else◌}
use Rattle.ely_hash.specs.Hashes.{Hash}
use Rattle.ely_hash.specs.Formulas.{xor_lists}
use Rattle.ely_hash.specs.Laws.{HashLaws}
use Rattle.ely_hash.specs.declared.derive.ScramKeys.{ScramKeys}
use Rattle.ely_hash.proofs.MacLemmas.{hmac_is}
use Rattle.ely_hash.proofs.XorLemmas.{length-xor_lists, xor_lists-twice}
use Rattle.ely_scram_msg.specs.declared.first.ClientFirst.{ClientFirst}
use Rattle.ely_scram_msg.specs.declared.last.ClientLast.{ClientLast}
use Rattle.ely_scram.specs.Judgement.{signature_of, has_binding, has_nonce, is_proof, has_proof, judgement_of, IsProved, ClientKeyShown}
use Rattle.ely_scram.specs.declared.judgement.Judged.{Judged}
use Rattle.ely_scram.specs.declared.judgement.Judged.TheVariants.{Proved, BadBinding, BadNonce, BadProof}
use Rattle.ely_scram.proofs.JudgementLemmas.{is_proved-judgement_of}

-- a signature has the length of a digest
pub length-signature_of : (hash : Hash) → HashLaws hash → (key : List ℕ) (first : ClientFirst) (server_first : List ℕ) (last : ClientLast) → length (signature_of hash key first server_first last) ≡ hash.len
length-signature_of hash laws key first server_first last = ap length (hmac_is hash key _) ∙ laws.sized _

-- a proof shows a client key under a signature
abbrev KeyShown : Hash → List ℕ → List ℕ → List ℕ → Type 0
KeyShown hash stored signature proof =
    (client_key : List ℕ) × (length client_key ≡ hash.len) × (hash.digest client_key ≡ stored) × (proof ≡ xor_lists client_key signature)

-- the exclusive or with the signature takes a proof into the key, and back
is_proof-KeyShown : (hash : Hash) (stored signature proof : List ℕ) → length signature ≡ hash.len → Decides (is_proof hash stored signature proof) (KeyShown hash stored signature proof)
is_proof-KeyShown hash stored signature proof long =
    Decides-like _ shown right (Decides-and _ _ (Decides-eqb (length proof) hash.len) (bytes_eq-Decides (hash.digest (xor_lists proof signature)) stored))
  where
    shown : (length proof ≡ hash.len) × (hash.digest (xor_lists proof signature) ≡ stored) → KeyShown hash stored signature proof
    shown h =
        let alike : length proof ≡ length signature = h.0 ∙ sym long in
        (xor_lists proof signature, length-xor_lists proof signature alike ∙ h.0, h.1, sym (xor_lists-twice proof signature alike))

    right : KeyShown hash stored signature proof → (length proof ≡ hash.len) × (hash.digest (xor_lists proof signature) ≡ stored)
    right k =
        let alike : length k.0 ≡ length signature = k.1 ∙ sym long in (
          ap length k.3 ∙ length-xor_lists k.0 signature alike ∙ k.1,
          ap (λ (p : List ℕ). hash.digest (xor_lists p signature)) k.3 ∙ ap hash.digest (xor_lists-twice k.0 signature alike) ∙ k.2,
        )

module _ (hash : Hash) (laws : HashLaws hash) (keys : ScramKeys) (first : ClientFirst) (nonce server_first : List ℕ) (last : ClientLast) where
  -- a message's proof is right exactly where it shows ClientKey
  pub has_proof-ClientKeyShown : IsTrue (has_proof hash keys first server_first last) ↔ ClientKeyShown hash keys first server_first last
  unfolding has_proof
  has_proof-ClientKeyShown =
      is_proof-KeyShown hash keys.stored (signature_of hash keys.stored first server_first last) last.proof (length-signature_of hash laws keys.stored first server_first last)

  -- who gets in
  pub judgement_of-IsProved : IsProved (judgement_of hash keys first nonce server_first last) ↔ ((last.binding ≡ first.gs2) × (last.nonce ≡ first.nonce ++ nonce) × ClientKeyShown hash keys first server_first last)
  judgement_of-IsProved =
      Decides-at _ _ (is_proved-judgement_of hash keys first nonce server_first last)
      (Decides-like _ (λ h. (h.0.0, h.0.1, h.1)) (λ h. ((h.0, h.1), h.2))
      (Decides-and _ _
      (Decides-and _ _ (bytes_eq-Decides last.binding first.gs2) (bytes_eq-Decides last.nonce (first.nonce ++ nonce)))
      has_proof-ClientKeyShown))

  -- the same of a value that is the judgement
  pub IsProved-exactly : (judged : Judged) → judged ≡ judgement_of hash keys first nonce server_first last → IsProved judged ↔ ((last.binding ≡ first.gs2) × (last.nonce ≡ first.nonce ++ nonce) × ClientKeyShown hash keys first server_first last)
  IsProved-exactly judged is = rw is judgement_of-IsProved

-- the tag of three tests one after the other
Proved-tests : (b n p : Bool) (signature tag : List ℕ) → (if b then if n then if p then Proved signature else BadProof else BadNonce else BadBinding) ≡ Proved tag → tag ≡ signature
Proved-tests true true true signature tag is = search rules
Proved-tests true true false signature tag is = search rules
Proved-tests true false p signature tag is = search rules
Proved-tests false n p signature tag is = search rules

-- the verifier is ServerSignature
pub judgement_of-verifier : (hash : Hash) (keys : ScramKeys) (first : ClientFirst) (nonce server_first : List ℕ) (last : ClientLast) (tag : List ℕ) → judgement_of hash keys first nonce server_first last ≡ Proved tag → tag ≡ signature_of hash keys.server first server_first last
unfolding judgement_of
judgement_of-verifier hash keys first nonce server_first last tag is =
    Proved-tests (has_binding first last) (has_nonce first nonce last) (has_proof hash keys first server_first last) _ tag is
