-- Steps of a login that are no naming: they show no word, leave the lists, and no login is loading that wasn't.
use Rattle.std.proofs.Common.{◌≡◌, ℕ, Bool, true, false, cond, List, Option, Some, None, Result, Ok, Err, refl, sym, ap, ◌∙◌}
use Rattle.std.specs.Prelude.{IfOk, IsOk, OnErr}
use Rattle.ely_row.specs.declared.mech.Mech.{Mech}
use Rattle.ely_digest.specs.Nonces.{Nonces}
use Rattle.ely_login.specs.declared.claim.Claim.{Claim}
use Rattle.ely_login.specs.declared.claim.Evidence.{Evidence}
use Rattle.ely_login.specs.declared.outcome.Outcome.{Outcome}
use Rattle.ely_login.specs.declared.outcome.Outcome.TheVariants as outcomes
use Rattle.ely_login.specs.declared.word.CacheWord.{CacheWord}
use Rattle.ely_login.specs.declared.word.CacheWord.TheVariants as words
use Rattle.ely_login.specs.declared.word.StateWord.{StateWord}
use Rattle.ely_login.specs.Outcomes.{is_accepted}
use Rattle.ely_cache.specs.declared.caches.RealmCache.{RealmCache}
use Rattle.ely_job.specs.Dones.{Done}
use Rattle.ely_context.specs.declared.stage.Stage.TheVariants.{Fresh, Loading, Named, Checking, Proved, Authorized, Complete, Failed}
use Rattle.ely_context.specs.Contexts.{ContextStage, ContextLogin}
use Rattle.ely_context.specs.Stages.{at_stage, state_of}
use Rattle.ely_domain.specs.declared.event.Event.{Event}
use Rattle.ely_domain.specs.declared.event.Event.TheVariants as events
use Rattle.ely_domain.specs.Caches.{Keeps, KeepsBy, found_after, found_by_stage, found_in, lists_of, without_word}
use Rattle.ely_domain.specs.Contexts.{IsReply, pinned, seen_login}
use Rattle.ely_domain.specs.Domains.{IsLoginStep, IsQuietStep}
use Rattle.ely_domain.specs.Identities.{Known, grants, key_at, to_log_in}
use Rattle.ely_domain.specs.Keeping.{Nothing}
use Rattle.ely_domain.specs.KeptKeys.{RealmKeys}
use Rattle.ely_domain.specs.Logins.{KnownStage, KnownLogin}
use Rattle.ely_domain.specs.Verdicts.{exchange, verdict}
use Rattle.ely_domain.specs.Steps.{Reply, NotDue, Stays, Moves, is_evidence_of, not_due, reply, shown_or, shown_refusal}

-- a stage of a login that is loading
abbrev is_loading : KnownStage → Bool
is_loading (Loading pin) = true
is_loading stage = false

-- a login that isn't loading found nothing
none_found : (old new : ContextLogin) (stage : KnownStage) → is_loading stage ≡ false → seen_login new ≡ at_stage (seen_login old) stage → found_in new ≡ words.None
none_found old new stage other is = by new.stage (ap (λ (login : KnownLogin). is_loading login.stage) is ∙ other)
  where
    by : (s : ContextStage) → is_loading (seen_login (record { serial = new.serial; mech = new.mech; nonce = new.nonce; stage = s })).stage ≡ false → found_by_stage s ≡ words.None
    by Fresh h = refl
    by (Loading p) h = absurd cc
    by (Named p key) h = refl
    by (Checking p key evidence) h = refl
    by (Proved p) h = refl
    by (Authorized p) h = refl
    by (Complete p) h = refl
    by Failed h = refl

-- a reply leaves what the naming found, or moves the login to a stage at which nothing is found
abbrev pub IsQuiet : Event → CacheWord → Reply → Type 0
IsQuiet event found NotDue = Unit {0}
IsQuiet event found (Stays said) = found_after event words.None found ≡ found
IsQuiet event found (Moves said stage) =
    (is_loading stage ≡ false) × (found_after event words.None found ≡ words.None) × (is_accepted said ≡ false → found ≡ words.None)

-- such a step shows no word and leaves the lists
quiet_keeps : (known : Known) (event : Event) (lists : List RealmKeys) (old new : ContextLogin) (outcome : Outcome) (r : Reply) (late : StateWord → Outcome)
    → ((state : StateWord) → is_accepted (late state) ≡ false) → IsReply r late old outcome new → IsQuiet event (found_in old) r
    → KeepsBy (is_accepted outcome) known Nothing event words.None lists lists (found_in old) (found_in new)
quiet_keeps known event lists old new outcome NotDue late refuses is quiet = rw (is.0, refuses (state_of old.stage)) (refl, refl, ap found_in is.1)
quiet_keeps known event lists old new outcome (Stays said) late refuses is quiet = by (is_accepted outcome)
  where
    by : (b : Bool) → KeepsBy b known Nothing event words.None lists lists (found_in old) (found_in new)
    by true = (refl, refl, ap found_in is.1 ∙ sym quiet)
    by false = (refl, refl, ap found_in is.1)
quiet_keeps known event lists old new outcome (Moves said stage) late refuses is quiet = rw is.0 (by (is_accepted said) refl)
  where
    gone : found_in new ≡ words.None
    gone = none_found old new stage quiet.0 is.1

    by : (b : Bool) → is_accepted said ≡ b → KeepsBy b known Nothing event words.None lists lists (found_in old) (found_in new)
    by true e = (refl, refl, gone ∙ sym quiet.1)
    by false e = (refl, refl, gone ∙ sym (quiet.2 e))

module _ (known : Known) (nonces : Nonces) (serial : ℕ) (mech : Mech) (nonce : List ℕ) where
  abbrev login : ContextStage → ContextLogin
  login stage = record { serial = serial; mech = mech; nonce = nonce; stage = stage }

  abbrev Quiet : Event → ContextStage → Type 0
  Quiet event stage = IsQuiet event (found_by_stage stage) (reply known nonces (seen_login (login stage)) event)

  check1_quiet : (c : ℕ) (n : Option ℕ) (evidence : Evidence) (stage : ContextStage) → Quiet (events.Check1 c n evidence) stage
  check1_quiet c n evidence (Named p key) = by_form (is_evidence_of mech evidence)
    where
      by_refusal : (o : Option Outcome) → IsQuiet (events.Check1 c n evidence) words.None (shown_or evidence (seen_login (login (Named p key))).stage o)
      by_refusal None = (refl, refl, λ h. refl)
      by_refusal (Some refusal) = refl

      by_form : (b : Bool) → IsQuiet (events.Check1 c n evidence) words.None
          (cond {A = Reply} b (shown_or evidence (seen_login (login (Named p key))).stage (shown_refusal nonces evidence)) (Stays (outcomes.Mechanism mech)))
      by_form true = by_refusal (shown_refusal nonces evidence)
      by_form false = refl
  check1_quiet c n evidence Fresh = tt
  check1_quiet c n evidence (Loading p) = tt
  check1_quiet c n evidence (Checking p key shown) = tt
  check1_quiet c n evidence (Proved p) = tt
  check1_quiet c n evidence (Authorized p) = tt
  check1_quiet c n evidence (Complete p) = tt
  check1_quiet c n evidence Failed = tt

  over_either : (b : Bool) (one other : KnownStage) → is_loading one ≡ false → is_loading other ≡ false → is_loading (cond b one other) ≡ false
  over_either true one other h k = h
  over_either false one other h k = k

  check2_quiet : (c n : ℕ) (brought : Option Done) (stage : ContextStage) → Quiet (events.Check2 c n brought) stage
  check2_quiet c n brought (Checking p key shown) =
      (over_either (is_accepted (verdict (exchange known.given nonce p.claim) (key_at known mech p.version p.place) shown)) (Proved (pinned p)) Failed refl refl, refl, λ h. refl)
  check2_quiet c n brought Fresh = tt
  check2_quiet c n brought (Loading p) = tt
  check2_quiet c n brought (Named p key) = tt
  check2_quiet c n brought (Proved p) = tt
  check2_quiet c n brought (Authorized p) = tt
  check2_quiet c n brought (Complete p) = tt
  check2_quiet c n brought Failed = tt

  authorize_quiet : (c : ℕ) (stage : ContextStage) → Quiet (events.Authorize c) stage
  authorize_quiet c (Proved p) = (over_either (grants known p.version p.place to_log_in) (Authorized (pinned p)) (Proved (pinned p)) refl refl, refl, λ h. refl)
  authorize_quiet c Fresh = tt
  authorize_quiet c (Loading p) = tt
  authorize_quiet c (Named p key) = tt
  authorize_quiet c (Checking p key shown) = tt
  authorize_quiet c (Authorized p) = tt
  authorize_quiet c (Complete p) = tt
  authorize_quiet c Failed = tt

  allows_quiet : (c : ℕ) (wanted : List ℕ) (stage : ContextStage) → Quiet (events.Allows c wanted) stage
  allows_quiet c wanted (Complete p) = refl
  allows_quiet c wanted Fresh = tt
  allows_quiet c wanted (Loading p) = tt
  allows_quiet c wanted (Named p key) = tt
  allows_quiet c wanted (Checking p key shown) = tt
  allows_quiet c wanted (Proved p) = tt
  allows_quiet c wanted (Authorized p) = tt
  allows_quiet c wanted Failed = tt

  succeed_quiet : (c : ℕ) (stage : ContextStage) → Quiet (events.Succeed c) stage
  succeed_quiet c (Authorized p) = (refl, refl, λ h. refl)
  succeed_quiet c Fresh = tt
  succeed_quiet c (Loading p) = tt
  succeed_quiet c (Named p key) = tt
  succeed_quiet c (Checking p key shown) = tt
  succeed_quiet c (Proved p) = tt
  succeed_quiet c (Complete p) = tt
  succeed_quiet c Failed = tt

  fail_quiet : (c : ℕ) (stage : ContextStage) → Quiet (events.Fail c) stage
  fail_quiet c (Complete p) = tt
  fail_quiet c Failed = tt
  fail_quiet c Fresh = (refl, refl, λ h. refl)
  fail_quiet c (Loading p) = (refl, refl, λ h. never h)
    where
      never : true ≡ false → p.found ≡ words.None
      never h = absurd cc
  fail_quiet c (Named p key) = (refl, refl, λ h. refl)
  fail_quiet c (Checking p key shown) = (refl, refl, λ h. refl)
  fail_quiet c (Proved p) = (refl, refl, λ h. refl)
  fail_quiet c (Authorized p) = (refl, refl, λ h. refl)

-- each step that is no naming is kept so
module _ (known : Known) (nonces : Nonces) (old new : ContextLogin) (outcome : Outcome) (caches : List RealmCache) where
  abbrev Replied : Event → Type 0
  Replied event = IsReply (reply known nonces (seen_login old) event) (not_due event) old outcome new

  pub check1_keeps : (c : ℕ) (n : Option ℕ) (evidence : Evidence) → Replied (events.Check1 c n evidence)
      → Keeps known (events.Check1 c n evidence) outcome words.None caches caches old new
  check1_keeps c n evidence is =
      quiet_keeps known (events.Check1 c n evidence) (lists_of caches) old new outcome _ _ (λ state. refl) is
      (check1_quiet known nonces old.serial old.mech old.nonce c n evidence old.stage)

  pub check2_keeps : (c n : ℕ) (brought : Option Done) → Replied (events.Check2 c n brought)
      → Keeps known (events.Check2 c n brought) outcome words.None caches caches old new
  check2_keeps c n brought is =
      quiet_keeps known (events.Check2 c n brought) (lists_of caches) old new outcome _ _ (λ state. refl) is
      (check2_quiet known nonces old.serial old.mech old.nonce c n brought old.stage)

  pub authorize_keeps : (c : ℕ) → Replied (events.Authorize c) → Keeps known (events.Authorize c) outcome words.None caches caches old new
  authorize_keeps c is =
      quiet_keeps known (events.Authorize c) (lists_of caches) old new outcome _ _ (λ state. refl) is
      (authorize_quiet known nonces old.serial old.mech old.nonce c old.stage)

  pub allows_keeps : (c : ℕ) (wanted : List ℕ) → Replied (events.Allows c wanted) → Keeps known (events.Allows c wanted) outcome words.None caches caches old new
  allows_keeps c wanted is =
      quiet_keeps known (events.Allows c wanted) (lists_of caches) old new outcome _ _ (λ state. refl) is
      (allows_quiet known nonces old.serial old.mech old.nonce c wanted old.stage)

  pub succeed_keeps : (c : ℕ) → Replied (events.Succeed c) → Keeps known (events.Succeed c) outcome words.None caches caches old new
  succeed_keeps c is =
      quiet_keeps known (events.Succeed c) (lists_of caches) old new outcome _ _ (λ state. refl) is
      (succeed_quiet known nonces old.serial old.mech old.nonce c old.stage)

  pub fail_keeps : (c : ℕ) → Replied (events.Fail c) → Keeps known (events.Fail c) outcome words.None caches caches old new
  fail_keeps c is =
      quiet_keeps known (events.Fail c) (lists_of caches) old new outcome _ _ (λ state. refl) is
      (fail_quiet known nonces old.serial old.mech old.nonce c old.stage)

-- the same of each of these events
module _ (known : Known) (nonces : Nonces) (old new : ContextLogin) (caches : List RealmCache) where
  event_keeps : (event : Event) (outcome : Outcome) → IsQuietStep event → IsReply (reply known nonces (seen_login old) event) (not_due event) old outcome new
      → Keeps known event outcome words.None caches caches old new
  event_keeps (events.Check1 c n evidence) outcome due is = check1_keeps known nonces old new outcome caches c n evidence is
  event_keeps (events.Check2 c n brought) outcome due is = check2_keeps known nonces old new outcome caches c n brought is
  event_keeps (events.Authorize c) outcome due is = authorize_keeps known nonces old new outcome caches c is
  event_keeps (events.Allows c wanted) outcome due is = allows_keeps known nonces old new outcome caches c wanted is
  event_keeps (events.Succeed c) outcome due is = succeed_keeps known nonces old new outcome caches c is
  event_keeps (events.Fail c) outcome due is = fail_keeps known nonces old new outcome caches c is
  event_keeps (events.Name1 c claim) outcome due is = absurd due
  event_keeps (events.Name2 c n brought) outcome due is = absurd due
  event_keeps (events.Bad bad) outcome due is = absurd due
  event_keeps (events.Change edit) outcome due is = absurd due
  event_keeps (events.Begin c mech brought) outcome due is = absurd due
  event_keeps (events.Close c) outcome due is = absurd due

  pub quiet_all : {E : Type 0} (event : Event) (answer : Result Outcome E) → IsQuietStep event
      → IfOk answer (λ outcome. IsReply (reply known nonces (seen_login old) event) (not_due event) old outcome new)
      → IfOk (without_word answer) (λ said. Keeps known event said.0 said.1 caches caches old new)
  quiet_all event (Ok outcome) due is = event_keeps event outcome due is
  quiet_all event (Err e) due is = is

-- a step of a login that is neither half of a naming is such a step
pub quiet_due : (event : Event) → IsLoginStep event → ((c : ℕ) (claim : Claim) → event ≡ events.Name1 c claim → ⊥)
    → ((c n : ℕ) (brought : Option Done) → event ≡ events.Name2 c n brought → ⊥) → IsQuietStep event
quiet_due (events.Name1 c claim) due first second = absurd (first c claim refl)
quiet_due (events.Name2 c n brought) due first second = absurd (second c n brought refl)
quiet_due (events.Check1 c n evidence) due first second = due
quiet_due (events.Check2 c n brought) due first second = due
quiet_due (events.Authorize c) due first second = due
quiet_due (events.Allows c wanted) due first second = due
quiet_due (events.Succeed c) due first second = due
quiet_due (events.Fail c) due first second = due
quiet_due (events.Bad bad) due first second = due
quiet_due (events.Change edit) due first second = due
quiet_due (events.Begin c mech brought) due first second = due
quiet_due (events.Close c) due first second = due

-- ---- an answer with no word behind it says what the answer says

pub word_ok : {E : Type 0} (answer : Result Outcome E) (P : Outcome → Type 0) → IfOk answer P → IfOk (without_word answer) (λ said. P said.0)
word_ok (Ok outcome) P holds = holds
word_ok (Err e) P holds = holds

pub word_err : {E : Type 0} (A B C D : Type 0) (answer : Result Outcome E) → D → OnErr answer (A × B × C) → OnErr (without_word answer) (A × B × C × D)
word_err A B C D (Ok outcome) d same = same
word_err A B C D (Err e) d same = (same.0, same.1, same.2, d)

pub word_is_ok : {E : Type 0} (answer : Result Outcome E) → IsOk answer → IsOk (without_word answer)
word_is_ok (Ok outcome) is = is
word_is_ok (Err e) is = is
