-- What each mechanism answers, as far as the laws of histories look into it: a verdict is accepted exactly where the evidence
-- proves the key, and a login is told of its key by an accepted answer. A later mechanism adds its cases here.
use Rattle.std.proofs.Common.{◌≡◌, ℕ, ◌&&◌, Bool, true, false, cond, bytes_eq, List, Option, Some, None, refl, ◌∙◌}
use Rattle.std.specs.Option.{option_and_then}
use Rattle.ely_hash.specs.Hashes.{Hash}
use Rattle.ely_hash.specs.declared.derive.ScramKeys.{ScramKeys}
use Rattle.ely_scram_msg.specs.declared.last.ClientLast.{ClientLast}
use Rattle.ely_scram.specs.declared.judgement.Judged.{Judged}
use Rattle.ely_scram.specs.declared.judgement.Judged.TheVariants as judged
use Rattle.ely_scram.specs.Judgement.{judgement_of, is_proved}
use Rattle.ely_scram.proofs.JudgementLemmas.{is_proved-judgement_of}
use Rattle.ely_job.specs.Jobs.{judged_by, password_verdict, scram_verdict}
use Rattle.ely_cred.specs.Keys.{Ready}
use Rattle.ely_login.specs.declared.claim.Claim.{Claim}
use Rattle.ely_login.specs.declared.claim.Claim.TheVariants as claims
use Rattle.ely_login.specs.declared.claim.Evidence.{Evidence}
use Rattle.ely_login.specs.declared.claim.Evidence.TheVariants as evidences
use Rattle.ely_login.specs.Outcomes.{is_accepted}
use Rattle.ely_digest_msg.specs.declared.reply.DigestReply.{DigestReply}
use Rattle.ely_cred.specs.declared.key.ReadyKey.{ReadyKey}
use Rattle.ely_job.specs.Digests.{digest_hash, realm_due, has_response, digest_verdict}
use Rattle.ely_job.specs.declared.verdict.Verdict.TheVariants as verdicts
use Rattle.ely_domain.specs.Identities.{Known, key_at}
use Rattle.ely_domain.specs.Logins.{Pinned, KnownLogin}
use Rattle.ely_domain.specs.Steps.{announced, told_of_key}
use Rattle.ely_domain.specs.Verdicts.{Exchange, exchange, server_first, proves_message, proves_header, is_proof_of, verdict_told, message_told, header_told, verdict}

-- the answer to a judgement is accepted where it is no fault
told_accepts : (judgement : Judged) → is_accepted (verdict_told (scram_verdict judgement)) ≡ is_proved judgement
told_accepts (judged.Proved verifier) = refl
told_accepts judged.BadBinding = refl
told_accepts judged.BadNonce = refl
told_accepts judged.BadProof = refl

message_accepts : (by : Option (Hash × ScramKeys)) (claim : Claim) (nonce : List ℕ) (text : Option (List ℕ)) (last : ClientLast)
    → is_accepted (message_told by claim nonce text last) ≡ proves_message by claim nonce text last
message_accepts (Some by) (claims.Scram first) nonce (Some text) last =
    told_accepts (judgement_of by.0 by.1 first nonce text last) ∙ is_proved-judgement_of by.0 by.1 first nonce text last
message_accepts (Some by) (claims.Scram first) nonce None last = refl
message_accepts (Some by) (claims.Plain authzid name) nonce text last = refl
message_accepts (Some by) (claims.Digest alg name) nonce text last = refl
message_accepts None claim nonce text last = refl

-- the answer to a header is accepted where its realm, its URI and its response are all right
header_accepts : (by : Option Hash) (key : ReadyKey) (reply : DigestReply) (method target digest_realm : List ℕ)
    → is_accepted (header_told by key reply method target digest_realm) ≡ proves_header by key reply method target digest_realm
unfolding digest_verdict
header_accepts None key reply method target digest_realm = refl
header_accepts (Some hash) key reply method target digest_realm =
    by (bytes_eq reply.realm (realm_due key digest_realm)) (bytes_eq reply.uri target) (has_response hash key reply method)
  where
    by : (realm uri response : Bool)
        → is_accepted (verdict_told (cond realm (cond uri (cond response (verdicts.Proved None) verdicts.Response) verdicts.Uri) verdicts.Realm))
        ≡ (realm && uri && response)
    by true true true = refl
    by true true false = refl
    by true false response = refl
    by false uri response = refl

pub verdict_accepts : (said : Exchange) (key : Option Ready) (evidence : Evidence)
    → is_accepted (verdict said key evidence) ≡ is_proof_of said key evidence
verdict_accepts said key (evidences.Plain password) = by (is_proof_of said key (evidences.Plain password))
  where
    by : (b : Bool) → is_accepted (verdict_told (password_verdict b)) ≡ b
    by true = refl
    by false = refl
verdict_accepts said None (evidences.Digest reply method target) = refl
verdict_accepts said (Some key) (evidences.Digest reply method target) =
    header_accepts (digest_hash key.mech) key.key reply method target said.digest_realm
verdict_accepts said None (evidences.Scram last) = refl
verdict_accepts said (Some key) (evidences.Scram last) =
    message_accepts (judged_by key.mech key.key) said.claim said.nonce (server_first said key) last

-- a message is announced by an accepted answer
announced_accepts : (text : Option (List ℕ)) → is_accepted (announced text) ≡ true
announced_accepts None = refl
announced_accepts (Some text) = refl

pub key_accepts : (known : Known) (login : KnownLogin) (pin : Pinned) → is_accepted (told_of_key known login pin) ≡ true
key_accepts known login pin =
    announced_accepts (option_and_then (server_first (exchange known.given login.nonce pin.claim)) (key_at known login.mech pin.version pin.place))
