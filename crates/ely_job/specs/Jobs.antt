-- The work of a login: which can be done, what comes of it, and what it costs.
use Rattle.std.specs.Prelude.{◌≡◌, ℕ, Bool, true, false, List, Option, Some, None, IsSome, IsTrue}
use Rattle.std.specs.Option.{option_map}
use Rattle.ely_hash.specs.Hashes.{Hash, sha1_hash, sha256_hash}
use Rattle.ely_hash.specs.declared.derive.ScramKeys.{ScramKeys}
use Rattle.ely_row.specs.declared.mech.Mech.{Mech}
use Rattle.ely_row.specs.declared.mech.Mech.TheVariants.{Plain, ScramSha1, ScramSha256}
use Rattle.ely_cred.specs.declared.key.ReadyKey.{ReadyKey}
use Rattle.ely_cred.specs.declared.key.ReadyKey.TheVariants as keys
use Rattle.ely_cred.specs.Keys.{chosen, ready_of, ready_cost}
use Rattle.ely_cred.specs.Guesses.{proves, guess_cost}
use Rattle.ely_scram_msg.specs.declared.first.ClientFirst.{ClientFirst}
use Rattle.ely_scram_msg.specs.declared.last.ClientLast.{ClientLast}
use Rattle.ely_scram.specs.declared.judgement.Judged.{Judged}
use Rattle.ely_scram.specs.declared.judgement.Judged.TheVariants as judged
use Rattle.ely_scram.specs.Judgement.{judgement_of}
use Rattle.ely_scram.specs.JudgementCosts.{judge_cost}
use Rattle.ely_job.specs.declared.job.Work.{Work}
use Rattle.ely_job.specs.declared.job.Work.TheVariants.{Held, Derive, Scram, Digest, Guess}
use Rattle.ely_job.specs.declared.verdict.Verdict.{Verdict}
use Rattle.ely_job.specs.declared.verdict.Verdict.TheVariants.{Proved, Binding, Nonce, Proof, Password}
use Rattle.ely_job.specs.declared.verdict.Finished.{Finished}
use Rattle.ely_job.specs.declared.verdict.Finished.TheVariants as finished
use Rattle.ely_job.specs.Digests.{is_digest, digest_hash, digest_verdict}

-- the keys of a key for SCRAM
abbrev pub scram_keys : ReadyKey → Option ScramKeys
scram_keys (keys.Scram both salt turns) = Some both
scram_keys _ = None

-- the hash function and the keys by which a message of SCRAM is judged (RFC 5802 and RFC 7677)
abbrev pub judged_by : Mech → ReadyKey → Option (Hash × ScramKeys)
judged_by ScramSha1 key = option_map (λ both. (sha1_hash, both)) (scram_keys key)
judged_by ScramSha256 key = option_map (λ both. (sha256_hash, both)) (scram_keys key)
judged_by _ key = None

-- the mechanism is one of SCRAM's
abbrev pub is_scram : Mech → Bool
is_scram ScramSha1 = true
is_scram ScramSha256 = true
is_scram _ = false

-- the job can be run: to derive a key, a credential of the row serves the mechanism; a message of SCRAM is judged by a key
-- for SCRAM, a header of Digest by one for Digest, and a password by one for PLAIN
abbrev pub IsRunnable : Work → Type 0
IsRunnable (Held ready) = Unit {0}
IsRunnable (Derive place row mech params) = IsSome (chosen mech row)
IsRunnable (Scram ready first nonce server_first last) = IsTrue (is_scram ready.mech)
IsRunnable (Digest ready reply method target digest_realm) = IsTrue (is_digest ready.mech)
IsRunnable (Guess ready password) = ready.mech ≡ Plain

-- the job holds its result already
abbrev pub is_held : Work → Bool
is_held (Held ready) = true
is_held _ = false

-- the job takes memory
abbrev pub takes_memory : Work → Bool
takes_memory (Derive place row mech params) = true
takes_memory _ = false

-- the verdict says that the evidence proves the identity
abbrev pub is_proved : Verdict → Bool
is_proved (Proved verifier) = true
is_proved _ = false

-- the verdict on a password
abbrev pub password_verdict : Bool → Verdict
password_verdict true = Proved None
password_verdict false = Password

-- the verdict that a judgement of SCRAM comes to
abbrev pub scram_verdict : Judged → Verdict
scram_verdict (judged.Proved verifier) = Proved (Some verifier)
scram_verdict judged.BadBinding = Binding
scram_verdict judged.BadNonce = Nonce
scram_verdict judged.BadProof = Proof

-- what comes of a job: a key that is held is the result; a key is derived of the row; and a message of SCRAM, a header of
-- Digest or a password is judged by the key
abbrev pub finished_of : Work → Option Finished
finished_of (Held ready) = Some (finished.Ready ready)
finished_of (Derive place row mech params) = option_map finished.Ready (ready_of params place.realm place.name mech row)
finished_of (Scram ready first nonce server_first last) =
    option_map (λ by. finished.Verdict (scram_verdict (judgement_of by.0 by.1 first nonce server_first last)))
    (judged_by ready.mech ready.key)
finished_of (Digest ready reply method target digest_realm) =
    option_map (λ hash. finished.Verdict (digest_verdict hash ready.key reply method target digest_realm))
    (digest_hash ready.mech)
finished_of (Guess ready password) = Some (finished.Verdict (password_verdict (proves ready.name ready.cred password)))

-- how many HMAC computations a judgement takes, where there is something to judge by
abbrev pub scram_cost : Option (Hash × ScramKeys) → ClientFirst → List ℕ → List ℕ → ClientLast → ℕ
scram_cost None first nonce server_first last = 0
scram_cost (Some by) first nonce server_first last = judge_cost by.0 by.1 first nonce server_first last

-- how many HMAC computations a job takes
abbrev pub job_cost : Work → ℕ
job_cost (Held ready) = 0
job_cost (Derive place row mech params) = ready_cost params mech row
job_cost (Scram ready first nonce server_first last) =
    scram_cost (judged_by ready.mech ready.key) first nonce server_first last
job_cost (Digest ready reply method target digest_realm) = 0
job_cost (Guess ready password) = guess_cost ready.cred
