-- What a check answers: whether what was shown proves the key.
use Rattle.std.specs.Prelude.{ℕ, ◌&&◌, Bool, false, List, ◌++◌, Option, Some, None}
use Rattle.ely_hash.specs.Hashes.{Hash}
use Rattle.ely_hash.specs.declared.derive.ScramKeys.{ScramKeys}
use Rattle.ely_scram_msg.specs.declared.last.ClientLast.{ClientLast}
use Rattle.ely_digest_msg.specs.declared.reply.DigestReply.{DigestReply}
use Rattle.ely_scram_msg.specs.ServerTexts.{server_first_text}
use Rattle.ely_scram.specs.Judgement.{has_binding, has_nonce, has_proof, judgement_of}
use Rattle.ely_login.specs.declared.claim.Claim.{Claim}
use Rattle.ely_login.specs.declared.claim.Claim.TheVariants as claims
use Rattle.ely_login.specs.declared.claim.Evidence.{Evidence}
use Rattle.ely_login.specs.declared.claim.Evidence.TheVariants as evidences
use Rattle.ely_login.specs.declared.outcome.Outcome.{Outcome}
use Rattle.ely_login.specs.declared.outcome.Outcome.TheVariants as outcomes
use Rattle.ely_cred.specs.declared.key.ReadyKey.{ReadyKey}
use Rattle.ely_cred.specs.declared.key.ReadyKey.TheVariants as keys
use Rattle.ely_cred.specs.Keys.{Ready}
use Rattle.ely_cred.specs.Guesses.{proves}
use Rattle.ely_job.specs.declared.verdict.Verdict.{Verdict}
use Rattle.ely_job.specs.declared.verdict.Verdict.TheVariants as verdicts
use Rattle.ely_job.specs.Jobs.{judged_by, password_verdict, scram_verdict}
use Rattle.ely_job.specs.Digests.{digest_hash, digest_verdict, proves_digest}
use Rattle.ely_domain.specs.Given.{Given}

-- what a login and its client said before the check: the realm that Digest announces, the nonce of its open, and the claim of
-- its naming
pub record Exchange : Type 0 where
  pub digest_realm : List ℕ
  pub nonce : List ℕ
  pub claim : Claim

-- the same of these
abbrev pub said_by : List ℕ → List ℕ → Claim → Exchange
said_by digest_realm nonce claim = record { digest_realm = digest_realm; nonce = nonce; claim = claim }

-- the same of a domain that is given this
abbrev pub exchange : Given → List ℕ → Claim → Exchange
exchange given nonce claim = said_by given.config.digest_realm nonce claim

-- the server's first message for a key: that of SCRAM has the whole nonce, the salt and the turns (RFC 5802 section 5.1)
abbrev pub server_first_by : Claim → List ℕ → ReadyKey → Option (List ℕ)
server_first_by (claims.Scram first) nonce (keys.Scram both salt turns) =
    Some (server_first_text (first.nonce ++ nonce) salt turns)
server_first_by claim nonce key = None

-- the same of an exchange, where its mechanism has such a message
abbrev pub server_first : Exchange → Ready → Option (List ℕ)
server_first said key = server_first_by said.claim said.nonce key.key

-- SCRAM's last message is bound to the first one, has the whole nonce, and proves the key (RFC 5802 section 3)
abbrev pub proves_message : Option (Hash × ScramKeys) → Claim → List ℕ → Option (List ℕ) → ClientLast → Bool
proves_message (Some by) (claims.Scram first) nonce (Some text) last =
    has_binding first last && has_nonce first nonce last && has_proof by.0 by.1 first text last
proves_message _ _ nonce _ last = false

-- Digest's header names the realm and the URI that are due, and shows the response of the formula (RFC 7616 section 3.4.1)
abbrev pub proves_header : Option Hash → ReadyKey → DigestReply → List ℕ → List ℕ → List ℕ → Bool
proves_header None key reply method target digest_realm = false
proves_header (Some hash) key reply method target digest_realm = proves_digest hash key reply method target digest_realm

-- the evidence proves the key: by PLAIN the password is the identity's (RFC 4616 section 2), by SCRAM the message proves it, and
-- by Digest the header does
abbrev pub is_proof : Exchange → Ready → Evidence → Bool
is_proof said key (evidences.Plain password) = proves key.name key.cred password
is_proof said key (evidences.Scram last) =
    proves_message (judged_by key.mech key.key) said.claim said.nonce (server_first said key) last
is_proof said key (evidences.Digest reply method target) =
    proves_header (digest_hash key.mech) key.key reply method target said.digest_realm

-- the same where there is a key at all
abbrev pub is_proof_of : Exchange → Option Ready → Evidence → Bool
is_proof_of said None evidence = false
is_proof_of said (Some key) evidence = is_proof said key evidence

-- the answer that a verdict is: the verifier, where the mechanism has one, or which test failed first
abbrev pub verdict_told : Verdict → Outcome
verdict_told (verdicts.Proved verifier) = outcomes.Proved verifier
verdict_told verdicts.Binding = outcomes.Binding
verdict_told verdicts.Nonce = outcomes.Nonce
verdict_told verdicts.Proof = outcomes.Proof
verdict_told verdicts.Password = outcomes.Password
verdict_told verdicts.Realm = outcomes.Realm
verdict_told verdicts.Uri = outcomes.Uri
verdict_told verdicts.Response = outcomes.Response

-- the answer to SCRAM's last message
abbrev pub message_told : Option (Hash × ScramKeys) → Claim → List ℕ → Option (List ℕ) → ClientLast → Outcome
message_told (Some by) (claims.Scram first) nonce (Some text) last =
    verdict_told (scram_verdict (judgement_of by.0 by.1 first nonce text last))
message_told _ _ nonce _ last = outcomes.Proof

-- the answer to SCRAM's last message by a key
abbrev pub message_verdict : Exchange → Option Ready → ClientLast → Outcome
message_verdict said None last = outcomes.Proof
message_verdict said (Some key) last =
    message_told (judged_by key.mech key.key) said.claim said.nonce (server_first said key) last

-- the answer to Digest's header
abbrev pub header_told : Option Hash → ReadyKey → DigestReply → List ℕ → List ℕ → List ℕ → Outcome
header_told None key reply method target digest_realm = outcomes.Response
header_told (Some hash) key reply method target digest_realm =
    verdict_told (digest_verdict hash key reply method target digest_realm)

-- the answer to Digest's header by a key
abbrev pub header_verdict : Exchange → Option Ready → DigestReply → List ℕ → List ℕ → Outcome
header_verdict said None reply method target = outcomes.Response
header_verdict said (Some key) reply method target =
    header_told (digest_hash key.mech) key.key reply method target said.digest_realm

-- the answer to what was shown, by its mechanism: PLAIN and Digest have no verifier, and PLAIN one refusal
abbrev pub verdict : Exchange → Option Ready → Evidence → Outcome
verdict said key (evidences.Plain password) =
    verdict_told (password_verdict (is_proof_of said key (evidences.Plain password)))
verdict said key (evidences.Scram last) = message_verdict said key last
verdict said key (evidences.Digest reply method target) = header_verdict said key reply method target
