-- The verdict on a header says that it proves exactly where realm, uri and response are all right.
use Rattle.std.proofs.Common.{◌≡◌, ◌↔◌, ℕ, ◌&&◌, Bool, true, false, List, None, IsTrue, refl}
use Rattle.std.specs.Prelude.{if◌then◌else◌}
use Rattle.std.specs.Str.{bytes_eq}
use Rattle.ely_hash.specs.Hashes.{Hash}
use Rattle.ely_cred.specs.declared.key.ReadyKey.{ReadyKey}
use Rattle.ely_digest_msg.specs.declared.reply.DigestReply.{DigestReply}
use Rattle.ely_job.specs.declared.verdict.Verdict.{Verdict}
use Rattle.ely_job.specs.declared.verdict.Verdict.TheVariants.{Proved, Realm, Uri, Response}
use Rattle.ely_job.specs.Digests.{realm_due, has_response, digest_verdict, proves_digest}
use Rattle.ely_job.specs.Jobs.{is_proved}

-- the three tests, one after the other
abbrev tests : Bool → Bool → Bool → Verdict
tests r u s = if r then if u then if s then Proved None else Response else Uri else Realm

proved-tests : (r u s : Bool) → (tests r u s ≡ Proved None) ↔ IsTrue (r && u && s)
proved-tests true true true = (λ h. refl, λ h. refl)
proved-tests true true false = (λ h. cc, λ h. cc)
proved-tests true false s = (λ h. cc, λ h. cc)
proved-tests false u s = (λ h. cc, λ h. cc)

is_proved-tests : (r u s : Bool) → is_proved (tests r u s) ≡ (r && u && s)
is_proved-tests true true true = refl
is_proved-tests true true false = refl
is_proved-tests true false s = refl
is_proved-tests false u s = refl

module _ (hash : Hash) (key : ReadyKey) (reply : DigestReply) (method target configured : List ℕ) where
  pub proved-digest_verdict : (digest_verdict hash key reply method target configured ≡ Proved None)
      ↔ IsTrue (proves_digest hash key reply method target configured)
  unfolding digest_verdict
  proved-digest_verdict =
      proved-tests (bytes_eq reply.realm (realm_due key configured)) (bytes_eq reply.uri target) (has_response hash key reply method)

  pub is_proved-digest_verdict : is_proved (digest_verdict hash key reply method target configured)
      ≡ proves_digest hash key reply method target configured
  unfolding digest_verdict
  is_proved-digest_verdict =
      is_proved-tests (bytes_eq reply.realm (realm_due key configured)) (bytes_eq reply.uri target) (has_response hash key reply method)
