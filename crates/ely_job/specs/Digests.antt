-- Judging a header of Digest by a key: its realm, its target and its response, in this order (RFC 7616 section 3.4).
use Rattle.std.specs.Prelude.{ℕ, ◌&&◌, if◌then◌else◌, Bool, true, false, List, Option, Some, None}
use Rattle.std.specs.Str.{bytes_eq}
use Rattle.ely_base.specs.Texts.{hex_text}
use Rattle.ely_hash.specs.Hashes.{Hash, md5_hash, sha256_hash}
use Rattle.ely_hash.specs.Formulas.{ha1_of}
use Rattle.ely_row.specs.declared.mech.Mech.{Mech}
use Rattle.ely_row.specs.declared.mech.Mech.TheVariants as mechs
use Rattle.ely_cred.specs.declared.key.ReadyKey.{ReadyKey}
use Rattle.ely_cred.specs.declared.key.ReadyKey.TheVariants as keys
use Rattle.ely_digest_msg.specs.declared.reply.DigestReply.{DigestReply}
use Rattle.ely_digest.specs.Responses.{response_of}
use Rattle.ely_job.specs.declared.verdict.Verdict.{Verdict}
use Rattle.ely_job.specs.declared.verdict.Verdict.TheVariants.{Proved, Realm, Uri, Response}

-- the mechanism is one of Digest's
abbrev pub is_digest : Mech → Bool
is_digest mechs.Digest = true
is_digest mechs.DigestSha256 = true
is_digest _ = false

-- the hash function of a mechanism of Digest (RFC 7616 section 3.4, algorithm)
abbrev pub digest_hash : Mech → Option Hash
digest_hash mechs.Digest = Some md5_hash
digest_hash mechs.DigestSha256 = Some sha256_hash
digest_hash _ = None

-- the realm that a header has to name: that of the kept hash, or the configured one for a clear password (section 3.4.2)
abbrev pub realm_due : ReadyKey → List ℕ → List ℕ
realm_due (keys.Ha1 h) configured = h.realm
realm_due _ configured = configured

-- H(A1) of a key; of a clear password it takes the header's own name and realm (section 3.4.2)
abbrev pub ha1_due : Hash → ReadyKey → DigestReply → Option (List ℕ)
ha1_due hash (keys.Ha1 h) reply = Some h.hash
ha1_due hash (keys.Password password) reply = Some (ha1_of hash reply.name reply.realm password)
ha1_due hash _ reply = None

-- the header shows the response of the formula for this H(A1), in lower-case hexadecimal digits (section 3.4.1)
abbrev pub is_response : Hash → Option (List ℕ) → DigestReply → List ℕ → Bool
is_response hash None reply method = false
is_response hash (Some h1) reply method = bytes_eq reply.response (hex_text (response_of hash h1 reply method))

-- the same for the H(A1) of a key
unfoldable pub has_response : Hash → ReadyKey → DigestReply → List ℕ → Bool
has_response hash key reply method = is_response hash (ha1_due hash key reply) reply method

-- the verdict on a header for a request with this method and this target: the first of realm, uri and response that is wrong
unfoldable pub digest_verdict : Hash → ReadyKey → DigestReply → List ℕ → List ℕ → List ℕ → Verdict
digest_verdict hash key reply method target configured =
    if bytes_eq reply.realm (realm_due key configured) then
    if bytes_eq reply.uri target then
    if has_response hash key reply method then Proved None
    else Response
    else Uri
    else Realm

-- the header is a proof: realm, uri and response are all right
abbrev pub proves_digest : Hash → ReadyKey → DigestReply → List ℕ → List ℕ → List ℕ → Bool
proves_digest hash key reply method target configured =
    bytes_eq reply.realm (realm_due key configured) && bytes_eq reply.uri target && has_response hash key reply method
