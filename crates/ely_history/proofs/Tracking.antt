-- What a login's own steps say of it follows it through the machine: how far it has come, what it pinned, and what it showed.
use Rattle.std.proofs.Common.{◌≡◌, ℕ, ◌≤◌, Bool, true, false, not, cond, List, [], ◌∷◌, ◌++◌, length, Option, Some, None, Result, Ok, Err, refl, sym, ap, subst, ◌∙◌, arith, inl, inr}
use Rattle.std.specs.Prelude.{IsSome}
use Rattle.std.specs.List.{list_any}
use Rattle.std.specs.Option.{option_or, ok_or}
use Rattle.std.proofs.lemmas.List.Folds.{list_any-append}
use Rattle.ely_base.specs.Refused.{◌>>=◌, refused_as}
use Rattle.ely_row.specs.declared.cred.Credential.{Credential}
use Rattle.ely_row.specs.declared.mech.Mech.{Mech}
use Rattle.ely_pipeline.specs.declared.place.PipeFault.{PipeFault}
use Rattle.ely_pipeline.specs.declared.place.Place.{Place}
use Rattle.ely_row.specs.Rows.{Row}
use Rattle.ely_cred.specs.Keys.{chosen}
use Rattle.ely_login.specs.declared.claim.Claim.{Claim}
use Rattle.ely_login.specs.declared.claim.Evidence.{Evidence}
use Rattle.ely_login.specs.declared.outcome.Outcome.{Outcome}
use Rattle.ely_login.specs.declared.outcome.Outcome.TheVariants as outcomes
use Rattle.ely_login.specs.declared.word.StepWord.{StepWord}
use Rattle.ely_login.specs.declared.word.StepWord.TheVariants as words
use Rattle.ely_login.specs.Outcomes.{is_accepted}
use Rattle.ely_context.specs.declared.stage.Stage.TheVariants.{Fresh, Loading, Named, Checking, Proved, Authorized, Complete, Failed}
use Rattle.ely_context.specs.Stages.{at_stage}
use Rattle.ely_job.specs.Dones.{Done}
use Rattle.ely_digest.specs.Nonces.{Nonces}
use Rattle.ely_domain.specs.declared.event.Event.{Event}
use Rattle.ely_domain.specs.declared.event.Event.TheVariants as events
use Rattle.ely_domain.specs.Events.{word_of}
use Rattle.ely_domain.specs.Given.{Given, place_of}
use Rattle.ely_history.specs.Histories.{is_end, is_ready_since}
use Rattle.ely_domain.specs.Identities.{Known, ident, key_at, grants, to_log_in}
use Rattle.ely_domain.specs.Logins.{Pinned, KnownStage, KnownLogin}
use Rattle.ely_domain.specs.Steps.{Reply, NotDue, Stays, Moves, claimed_name, is_other, is_claim_of, is_evidence_of, shown_refusal, shown_or, serving, naming, require, pinned_or, told_of_key, name1, name2, check1, check2, yes_or_no, authorize, allows, succeed, fail, reply}
use Rattle.ely_domain.specs.Verdicts.{exchange, verdict}
use Rattle.ely_history.specs.WhoGetsIn.{Said, Opening, opened_by, pinned_by, evidence_shown, has_shown, is_granted}
use Rattle.ely_domain.proofs.NamingLemmas.{naming_pins, naming_refuses}
use Rattle.ely_history.proofs.Judging.{verdict_accepts, key_accepts}
use Rattle.ely_domain.proofs.Using.{IsUseRefusal, refused_by}
use Rattle.ely_history.proofs.WordLists.{next, IsAt, moved_on, ended}

-- the words since the open fit the stage
abbrev pub FitsStage : KnownStage → List StepWord → Type 0
FitsStage Fresh rest = IsAt rest (words.Name1 ∷ words.Name2 ∷ words.Check1 ∷ words.Check2 ∷ words.Authorize ∷ [])
FitsStage (Loading p) rest = IsAt rest (words.Name2 ∷ words.Check1 ∷ words.Check2 ∷ words.Authorize ∷ [])
FitsStage (Named p k) rest = IsAt rest (words.Check1 ∷ words.Check2 ∷ words.Authorize ∷ [])
FitsStage (Checking p k e) rest = IsAt rest (words.Check2 ∷ words.Authorize ∷ [])
FitsStage (Proved p) rest = IsAt rest (words.Authorize ∷ [])
FitsStage (Authorized p) rest = IsAt rest []
FitsStage (Complete p) rest = list_any is_end rest ≡ true
FitsStage Failed rest = is_ready_since (Some rest) ≡ false

-- a live login was opened, and its stage fits; one that isn't live was never opened, or was ended
abbrev pub Fits : Option KnownLogin → Option (List StepWord) → Type 0
Fits None None = Unit {0}
Fits None (Some rest) = list_any is_end rest ≡ true
Fits (Some login) None = ⊥
Fits (Some login) (Some rest) = FitsStage login.stage rest

-- what was said last of a pin is that pin, and it is of a version that was
pub record IsPinSaid (known : Known) (p : Pinned) (said : Said) : Type 0 where
  pub pin : said.pin ≡ Some p
  pub past : p.version ≤ length known.edits

-- what a stage holds is what was said last; whoever is proved has shown it, and whoever is authorized may log in
abbrev pub HoldsSaid : Known → Said → KnownStage → Type 0
HoldsSaid known said Fresh = Unit {0}
HoldsSaid known said (Loading p) = IsPinSaid known p said
HoldsSaid known said (Named p k) = IsPinSaid known p said
HoldsSaid known said (Checking p k e) = IsPinSaid known p said × (said.evidence ≡ Some e)
HoldsSaid known said (Proved p) = IsPinSaid known p said × (has_shown known said ≡ true)
HoldsSaid known said (Authorized p) =
    IsPinSaid known p said × (has_shown known said ≡ true) × (is_granted known said.pin to_log_in ≡ true)
HoldsSaid known said (Complete p) =
    IsPinSaid known p said × (has_shown known said ≡ true) × (is_granted known said.pin to_log_in ≡ true)
HoldsSaid known said Failed = Unit {0}

-- what was said when a login was opened
abbrev pub opening_of : KnownLogin → Opening
opening_of login = record { mech = login.mech; nonce = login.nonce }

-- the same of a login that may not be there
abbrev pub IsSaid : Known → Said → Option KnownLogin → Type 0
IsSaid known said None = Unit {0}
IsSaid known said (Some login) = (said.opening ≡ Some (opening_of login)) × HoldsSaid known said login.stage

-- both
pub record IsTracked (known : Known) (found : Option KnownLogin) (rest : Option (List StepWord)) (said : Said) : Type 0 where
  pub fits : Fits found rest
  pub is_said : IsSaid known said found

-- what is said after a step of the login
abbrev pub said_next : Given → Said → Event → Outcome → Said
said_next given said event outcome = record {
  opening = option_or (opened_by given event outcome) said.opening;
  pin = option_or (pinned_by given event outcome) said.pin;
  evidence = option_or (evidence_shown event outcome) said.evidence;
}

-- the word of a step, where it is accepted
abbrev pub word_if : Event → Outcome → Option StepWord
word_if event outcome = cond (is_accepted outcome) (Some (word_of event)) None

-- nothing pins where it is refused
pub refused_pins_nothing : (given : Given) (event : Event) (outcome : Outcome) → is_accepted outcome ≡ false → pinned_by given event outcome ≡ None
refused_pins_nothing given event outcome h = by event outcome h
  where
    by_name1 : (c : ℕ) (claim : Claim) (outcome : Outcome) → is_accepted outcome ≡ false → pinned_by given (events.Name1 c claim) outcome ≡ None
    by_name1 c claim = elim [ outcomes.Pinned version ↦ (λ h. cc) | _ ↦ (λ h. refl) ]

    by : (event : Event) (outcome : Outcome) → is_accepted outcome ≡ false → pinned_by given event outcome ≡ None
    by (events.Name1 c claim) outcome h = by_name1 c claim outcome h
    by _ outcome h = refl

-- where something is still needed, the login isn't ready
pub not_ready : {rest : List StepWord} {w : StepWord} {ws : List StepWord} → IsAt rest (w ∷ ws) → is_ready_since (Some rest) ≡ false
not_ready at = rw (at.going, at.need) refl

-- what ended stays ended
still_ended : (rest : List StepWord) (w : StepWord) → list_any is_end rest ≡ true → list_any is_end (rest ++ w ∷ []) ≡ true
still_ended rest w h = list_any-append is_end rest (w ∷ []) ∙ rw h refl

-- ---- one step of a login, by what it is

-- what a step whose reply is this makes of a tracked login
abbrev pub Tracks : Known → KnownLogin → Option (List StepWord) → Said → Event → Reply → Type 0
Tracks known login rest said event NotDue = Unit {0}
Tracks known login rest said event (Stays outcome) =
    IsTracked known (Some login) (next rest (word_if event outcome)) (said_next known.given said event outcome)
Tracks known login rest said event (Moves outcome stage) =
    IsTracked known (Some (at_stage login stage)) (next rest (word_if event outcome)) (said_next known.given said event outcome)

module _ (known : Known) (serial : ℕ) (mech : Mech) (nonce : List ℕ) (rest : List StepWord) (said : Said) (opening_is : said.opening ≡ Some (record { mech = mech; nonce = nonce })) where
  abbrev login : KnownStage → KnownLogin
  login stage = record { serial = serial; mech = mech; nonce = nonce; stage = stage }

  -- a tracked login at a stage
  abbrev TrackedAt : KnownStage → Type 0
  TrackedAt stage = FitsStage stage rest × HoldsSaid known said stage

  track_name1 : (c : ℕ) (claim : Claim) (stage : KnownStage) → TrackedAt stage
      → Tracks known (login stage) (Some rest) said (events.Name1 c claim) (name1 known (login stage) claim stage)
  track_name1 c claim Fresh at = by (naming known mech claim) refl
    where
      by : (o : Result Pinned Outcome) → naming known mech claim ≡ o
          → Tracks known (login Fresh) (Some rest) said (events.Name1 c claim) (pinned_or o)
      by (Ok pin) is =
          let pins = naming_pins known mech claim pin is in
          let version : pin.version ≡ length known.edits = ap (λ (p : Pinned). p.version) pins.0 in
          let again : record { version = pin.version; place = pin.place; claim = claim } ≡ pin =
          ap (λ v. (let p : Pinned = record { version = v; place = pin.place; claim = claim } in p)) version ∙ sym pins.0 in
          record {
            fits = moved_on rest _ _ words.Name1 at.0 refl refl;
            is_said = (opening_is, record { pin = rw pins.1 (ap Some again); past = omega (arith, version) });
          }
      by (Err refusal) is =
          let refused = naming_refuses known mech claim refusal is in
          record {
            fits = rw refused at.0;
            is_said = (opening_is, tt);
          }
  track_name1 c claim (Loading p) at = tt
  track_name1 c claim (Named p k) at = tt
  track_name1 c claim (Checking p k e) at = tt
  track_name1 c claim (Proved p) at = tt
  track_name1 c claim (Authorized p) at = tt
  track_name1 c claim (Complete p) at = tt
  track_name1 c claim Failed at = tt

  -- a step that is accepted and says nothing moves the login on
  says_nothing : (event : Event) (o : Outcome) → is_accepted o ≡ true → (said_next known.given said event o ≡ said)
      → (stage : KnownStage) → Fits (Some (login stage)) (next (Some rest) (Some (word_of event))) → HoldsSaid known said stage
      → Tracks known (login stage) (Some rest) said event (Moves o stage)
  says_nothing event o accepted nothing stage fits holds = rw (accepted, nothing) (record { fits = fits; is_said = (opening_is, holds) })

  track_name2 : (c n : ℕ) (brought : Option Done) (stage : KnownStage) → TrackedAt stage
      → Tracks known (login stage) (Some rest) said (events.Name2 c n brought) (name2 known (login stage) stage)
  track_name2 c n brought (Loading p) at =
      says_nothing (events.Name2 c n brought) (told_of_key known (login (Loading p)) p) (key_accepts known (login (Loading p)) p) refl (Named p tt)
      (moved_on rest _ _ words.Name2 at.0 refl refl) (record { pin = at.1.pin; past = at.1.past })
  track_name2 c n brought Fresh at = tt
  track_name2 c n brought (Named p k) at = tt
  track_name2 c n brought (Checking p k e) at = tt
  track_name2 c n brought (Proved p) at = tt
  track_name2 c n brought (Authorized p) at = tt
  track_name2 c n brought (Complete p) at = tt
  track_name2 c n brought Failed at = tt

  track_check1 : (nonces : Nonces) (c : ℕ) (n : Option ℕ) (evidence : Evidence) (stage : KnownStage) → TrackedAt stage
      → Tracks known (login stage) (Some rest) said (events.Check1 c n evidence) (check1 nonces (login stage) evidence stage)
  track_check1 nonces c n evidence (Named p k) at = by (is_evidence_of mech evidence)
    where
      by_use : (o : Option Outcome) → shown_refusal nonces evidence ≡ o
          → Tracks known (login (Named p k)) (Some rest) said (events.Check1 c n evidence) (shown_or evidence (Named p k) o)
      by_use None is = record {
        fits = moved_on rest _ _ words.Check1 at.0 refl refl;
        is_said = (opening_is, (record { pin = at.1.pin; past = at.1.past }, refl));
      }
      by_use (Some refusal) is = by_cause (refused_by nonces evidence refusal is)
        where
          by_cause : IsUseRefusal refusal → Tracks known (login (Named p k)) (Some rest) said (events.Check1 c n evidence) (Stays refusal)
          by_cause (inl stale) = rw stale (record { fits = at.0; is_said = (opening_is, record { pin = at.1.pin; past = at.1.past }) })
          by_cause (inr replayed) =
              rw replayed.1 (record { fits = at.0; is_said = (opening_is, record { pin = at.1.pin; past = at.1.past }) })

      by : (b : Bool) → Tracks known (login (Named p k)) (Some rest) said (events.Check1 c n evidence)
          (cond b (shown_or evidence (Named p k) (shown_refusal nonces evidence)) (Stays (outcomes.Mechanism mech)))
      by true = by_use (shown_refusal nonces evidence) refl
      by false = record { fits = at.0; is_said = (opening_is, record { pin = at.1.pin; past = at.1.past }) }
  track_check1 nonces c n evidence Fresh at = tt
  track_check1 nonces c n evidence (Loading p) at = tt
  track_check1 nonces c n evidence (Checking p k e) at = tt
  track_check1 nonces c n evidence (Proved p) at = tt
  track_check1 nonces c n evidence (Authorized p) at = tt
  track_check1 nonces c n evidence (Complete p) at = tt
  track_check1 nonces c n evidence Failed at = tt

  -- what was said last of a login that is checked is what is judged
  pub shown_is : (p : Pinned) (e : Evidence) → IsPinSaid known p said → said.evidence ≡ Some e
      → has_shown known said ≡ is_accepted (verdict (exchange known.given nonce p.claim) (key_at known mech p.version p.place) e)
  shown_is p e pin evidence =
      rw (opening_is, pin.pin, evidence) (sym (verdict_accepts (exchange known.given nonce p.claim) (key_at known mech p.version p.place) e))

  track_check2 : (c n : ℕ) (brought : Option Done) (stage : KnownStage) → TrackedAt stage
      → Tracks known (login stage) (Some rest) said (events.Check2 c n brought) (check2 known (login stage) stage)
  track_check2 c n brought (Checking p k e) at =
      by (verdict (exchange known.given nonce p.claim) (key_at known mech p.version p.place) e) refl (is_accepted _) refl
    where
      by : (judged : Outcome) → verdict (exchange known.given nonce p.claim) (key_at known mech p.version p.place) e ≡ judged
          → (b : Bool) → is_accepted judged ≡ b
          → Tracks known (login (Checking p k e)) (Some rest) said (events.Check2 c n brought) (Moves judged (cond b (Proved p) Failed))
      by judged is true accepted =
          says_nothing (events.Check2 c n brought) judged accepted refl (Proved p) (moved_on rest _ _ words.Check2 at.0 refl refl)
          (record { pin = at.1.0.pin; past = at.1.0.past }, shown_is p e at.1.0 at.1.1 ∙ ap is_accepted is ∙ accepted)
      by judged is false refused = rw refused (record { fits = not_ready at.0; is_said = (opening_is, tt) })
  track_check2 c n brought Fresh at = tt
  track_check2 c n brought (Loading p) at = tt
  track_check2 c n brought (Named p k) at = tt
  track_check2 c n brought (Proved p) at = tt
  track_check2 c n brought (Authorized p) at = tt
  track_check2 c n brought (Complete p) at = tt
  track_check2 c n brought Failed at = tt

  track_authorize : (c : ℕ) (stage : KnownStage) → TrackedAt stage
      → Tracks known (login stage) (Some rest) said (events.Authorize c) (authorize known stage)
  track_authorize c (Proved p) at = by (grants known p.version p.place to_log_in) refl
    where
      by : (b : Bool) → grants known p.version p.place to_log_in ≡ b
          → Tracks known (login (Proved p)) (Some rest) said (events.Authorize c)
          (Moves (cond b outcomes.Authorized (outcomes.Denied p.version)) (cond b (Authorized p) (Proved p)))
      by true granted = record {
        fits = moved_on rest _ _ words.Authorize at.0 refl refl;
        is_said = (opening_is, (record { pin = at.1.0.pin; past = at.1.0.past }, at.1.1, rw at.1.0.pin granted));
      }
      by false granted = record { fits = at.0; is_said = (opening_is, (record { pin = at.1.0.pin; past = at.1.0.past }, at.1.1)) }
  track_authorize c Fresh at = tt
  track_authorize c (Loading p) at = tt
  track_authorize c (Named p k) at = tt
  track_authorize c (Checking p k e) at = tt
  track_authorize c (Authorized p) at = tt
  track_authorize c (Complete p) at = tt
  track_authorize c Failed at = tt

  track_allows : (c : ℕ) (wanted : List ℕ) (stage : KnownStage) → TrackedAt stage
      → Tracks known (login stage) (Some rest) said (events.Allows c wanted) (allows known wanted stage)
  track_allows c wanted (Complete p) at = by (grants known p.version p.place wanted)
    where
      by : (b : Bool) → Tracks known (login (Complete p)) (Some rest) said (events.Allows c wanted) (Stays (yes_or_no b))
      by true = record { fits = still_ended rest words.Allows at.0; is_said = (opening_is, (record { pin = at.1.0.pin; past = at.1.0.past }, at.1.1, at.1.2)) }
      by false = record { fits = still_ended rest words.Allows at.0; is_said = (opening_is, (record { pin = at.1.0.pin; past = at.1.0.past }, at.1.1, at.1.2)) }
  track_allows c wanted Fresh at = tt
  track_allows c wanted (Loading p) at = tt
  track_allows c wanted (Named p k) at = tt
  track_allows c wanted (Checking p k e) at = tt
  track_allows c wanted (Proved p) at = tt
  track_allows c wanted (Authorized p) at = tt
  track_allows c wanted Failed at = tt

  track_succeed : (c : ℕ) (stage : KnownStage) → TrackedAt stage
      → Tracks known (login stage) (Some rest) said (events.Succeed c) (succeed known stage)
  track_succeed c (Authorized p) at =
      record { fits = ended rest words.Succeed refl; is_said = (opening_is, (record { pin = at.1.0.pin; past = at.1.0.past }, at.1.1, at.1.2)) }
  track_succeed c Fresh at = tt
  track_succeed c (Loading p) at = tt
  track_succeed c (Named p k) at = tt
  track_succeed c (Checking p k e) at = tt
  track_succeed c (Proved p) at = tt
  track_succeed c (Complete p) at = tt
  track_succeed c Failed at = tt

  failed : IsTracked known (Some (login Failed)) (Some (rest ++ words.Fail ∷ [])) said
  failed = record { fits = rw (ended rest words.Fail refl) refl; is_said = (opening_is, tt) }

  track_fail : (c : ℕ) (stage : KnownStage) → TrackedAt stage
      → Tracks known (login stage) (Some rest) said (events.Fail c) (fail stage)
  track_fail c Fresh at = failed
  track_fail c (Loading p) at = failed
  track_fail c (Named p k) at = failed
  track_fail c (Checking p k e) at = failed
  track_fail c (Proved p) at = failed
  track_fail c (Authorized p) at = failed
  track_fail c (Complete p) at = tt
  track_fail c Failed at = tt

-- every step tracks its login
pub tracks : (known : Known) (nonces : Nonces) (login : KnownLogin) (rest : Option (List StepWord)) (said : Said) (event : Event)
    → IsTracked known (Some login) rest said → Tracks known login rest said event (reply known nonces login event)
tracks known nonces login None said event tracked = absurd tracked.fits
tracks known nonces login (Some rest) said event tracked = by event
  where
    by : (event : Event) → Tracks known login (Some rest) said event (reply known nonces login event)
    by (events.Name1 c claim) = track_name1 known login.serial login.mech login.nonce rest said tracked.is_said.0 c claim login.stage (tracked.fits, tracked.is_said.1)
    by (events.Name2 c n brought) = track_name2 known login.serial login.mech login.nonce rest said tracked.is_said.0 c n brought login.stage (tracked.fits, tracked.is_said.1)
    by (events.Check1 c n evidence) = track_check1 known login.serial login.mech login.nonce rest said tracked.is_said.0 nonces c n evidence login.stage (tracked.fits, tracked.is_said.1)
    by (events.Check2 c n brought) = track_check2 known login.serial login.mech login.nonce rest said tracked.is_said.0 c n brought login.stage (tracked.fits, tracked.is_said.1)
    by (events.Authorize c) = track_authorize known login.serial login.mech login.nonce rest said tracked.is_said.0 c login.stage (tracked.fits, tracked.is_said.1)
    by (events.Allows c wanted) = track_allows known login.serial login.mech login.nonce rest said tracked.is_said.0 c wanted login.stage (tracked.fits, tracked.is_said.1)
    by (events.Succeed c) = track_succeed known login.serial login.mech login.nonce rest said tracked.is_said.0 c login.stage (tracked.fits, tracked.is_said.1)
    by (events.Fail c) = track_fail known login.serial login.mech login.nonce rest said tracked.is_said.0 c login.stage (tracked.fits, tracked.is_said.1)
    by (events.Bad bad) = tt
    by (events.Change edit) = tt
    by (events.Begin c m brought) = tt
    by (events.Close c) = tt
