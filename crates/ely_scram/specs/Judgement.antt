-- A server's judgement of a client's last message (RFC 5802, sections 3 and 5.1), on lists of bytes.
use Rattle.std.specs.Prelude.{◌≡◌, ℕ, ◌&&◌, nat_eq, if◌then◌else◌, Bool, true, false, IsTrue, List, ◌++◌, length, codes}
use Rattle.std.specs.Str.{bytes_eq}
use Rattle.ely_hash.specs.Hashes.{Hash}
use Rattle.ely_hash.specs.Formulas.{hmac_of, xor_lists}
use Rattle.ely_hash.specs.declared.derive.ScramKeys.{ScramKeys}
use Rattle.ely_scram_msg.specs.declared.first.ClientFirst.{ClientFirst}
use Rattle.ely_scram_msg.specs.declared.last.ClientLast.{ClientLast}
use Rattle.ely_scram.specs.declared.judgement.Judged.{Judged}
use Rattle.ely_scram.specs.declared.judgement.Judged.TheVariants.{Proved, BadBinding, BadNonce, BadProof}

-- AuthMessage: client-first-message-bare "," server-first-message "," client-final-message-without-proof (section 3)
abbrev pub auth_message : ClientFirst → List ℕ → ClientLast → List ℕ
auth_message first server_first last =
    first.bare ++ codes "," ++ server_first ++ codes "," ++ last.without_proof

-- HMAC (key, AuthMessage): ClientSignature under StoredKey, and ServerSignature under ServerKey (section 3)
abbrev pub signature_of : Hash → List ℕ → ClientFirst → List ℕ → ClientLast → List ℕ
signature_of hash key first server_first last =
    hmac_of hash key (auth_message first server_first last)

-- whether `c=` is the gs2-header of the client's first message (section 5.1)
abbrev pub has_binding : ClientFirst → ClientLast → Bool
has_binding first last = bytes_eq last.binding first.gs2

-- whether `r=` is the client's nonce of its first message with the server's behind it (section 5.1)
abbrev pub has_nonce : ClientFirst → List ℕ → ClientLast → Bool
has_nonce first nonce last = bytes_eq last.nonce (first.nonce ++ nonce)

-- whether a proof is right under a client signature: it has a digest's length, and its exclusive or with the
-- signature is the key whose digest is StoredKey (section 3)
abbrev pub is_proof : Hash → List ℕ → List ℕ → List ℕ → Bool
is_proof hash stored signature proof =
    nat_eq (length proof) hash.len && bytes_eq (hash.digest (xor_lists proof signature)) stored

-- whether the message's proof is right under ClientSignature
unfoldable pub has_proof : Hash → ScramKeys → ClientFirst → List ℕ → ClientLast → Bool
has_proof hash keys first server_first last =
    is_proof hash keys.stored (signature_of hash keys.stored first server_first last) last.proof

-- the first fault of the binding, the nonce and the proof, or else ServerSignature
unfoldable pub judgement_of : Hash → ScramKeys → ClientFirst → List ℕ → List ℕ → ClientLast → Judged
judgement_of hash keys first nonce server_first last =
    if has_binding first last then
    if has_nonce first nonce last then
    if has_proof hash keys first server_first last then
    Proved (signature_of hash keys.server first server_first last)
    else BadProof
    else BadNonce
    else BadBinding

-- whether it is no fault
abbrev pub is_proved : Judged → Bool
is_proved (Proved signature) = true
is_proved BadBinding = false
is_proved BadNonce = false
is_proved BadProof = false

-- the login is proved
abbrev pub IsProved : Judged → Type 0
IsProved judged = IsTrue (is_proved judged)

-- ClientKey is shown: there is a key of a digest's length, whose digest is StoredKey, and the proof is its exclusive or
-- with ClientSignature (section 3)
abbrev pub ClientKeyShown : Hash → ScramKeys → ClientFirst → List ℕ → ClientLast → Type 0
ClientKeyShown hash keys first server_first last =
    (client_key : List ℕ) × (length client_key ≡ hash.len) × (hash.digest client_key ≡ keys.stored)
    × (last.proof ≡ xor_lists client_key (signature_of hash keys.stored first server_first last))
