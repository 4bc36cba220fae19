-- Who gets in, over every run of the machine.
use Rattle.std.proofs.Common.{◌≡◌, ℕ, Bool, true, false, cond, eqb, List, [], Option, Some, None, Result, Ok, Err, refl, sym, ap, ◌∙◌, eqb-true}
use Rattle.ely_row.specs.declared.edit.Edit.{Edit}
use Rattle.ely_row.specs.declared.edit.Edit.TheVariants as edits
use Rattle.ely_login.specs.declared.claim.Claim.{Claim}
use Rattle.ely_login.specs.declared.outcome.Outcome.{Outcome}
use Rattle.ely_login.specs.declared.outcome.Outcome.TheVariants as outcomes
use Rattle.ely_login.specs.declared.word.StepWord.{StepWord}
use Rattle.ely_login.specs.declared.word.StepWord.TheVariants as words
use Rattle.ely_login.specs.Outcomes.{is_accepted}
use Rattle.ely_context.specs.declared.stage.Stage.TheVariants.{Fresh, Loading, Named, Checking, Proved, Authorized, Complete, Failed}
use Rattle.ely_context.specs.Logins.{login_of}
use Rattle.ely_context.specs.Stages.{state_of}
use Rattle.ely_job.specs.Dones.{Done}
use Rattle.ely_domain.specs.declared.event.Event.{Event}
use Rattle.ely_domain.specs.declared.event.Event.TheVariants as events
use Rattle.ely_domain.specs.Events.{edit_word, word_of, is_on}
use Rattle.ely_domain.specs.Given.{Given}
use Rattle.ely_history.specs.Histories.{IsRun, machine_after, words_on, since_open, is_ready, is_ready_since, is_established, IsEstablishedWhereReady}
use Rattle.ely_domain.specs.Identities.{Known, grants, roles, to_log_in}
use Rattle.ely_history.specs.Lines.{Taken}
use Rattle.ely_domain.specs.Logins.{Pinned, KnownStage, KnownLogin, Live}
use Rattle.ely_domain.specs.Machine.{Machine, Answered, known, answered, answered_for, carried_out, first_machine, step}
use Rattle.ely_domain.specs.Steps.{Reply, NotDue, Stays, Moves, reply, carried, is_carried, not_due, not_there, naming, pinned_or, name1, check2, authorize, yes_or_no, allows, succeed}
use Rattle.ely_history.specs.WhoGetsIn.{Said, said_of, has_shown, is_granted, is_gone, is_state, HasRight, IsNamedNow, IsPinnedAsOfNow, IsProvedWhereShown, IsAuthorizedWhereGranted, IsEstablishedByRight, IsAllowedWhereGranted}
use Rattle.ely_history.proofs.Runs.{IsTrackedIn, run_tracked, run_split, known_is}
use Rattle.ely_history.proofs.Tracking.{Fits, FitsStage, HoldsSaid, IsTracked, opening_of, shown_is, not_ready}
use Rattle.ely_domain.proofs.NamingLemmas.{naming_pins, naming_finds, naming_refuses}

-- what a step of the login c answers, by what is found and what its reply is
module _ (P : Outcome → Type 0) (k : Known) (live : Live) (event : Event) (c : ℕ) where
  by_answer : ((login : KnownLogin) → login_of live.logins c ≡ Some login → P (not_due event (state_of login.stage)))
      → P (not_there event) → ((n : ℕ) → carried event ≡ Some n → P outcomes.Gone)
      → ((login : KnownLogin) → login_of live.logins c ≡ Some login → (outcome : Outcome) → reply k live.nonces login event ≡ Stays outcome → P outcome)
      → ((login : KnownLogin) → login_of live.logins c ≡ Some login → (outcome : Outcome) (stage : KnownStage) → reply k live.nonces login event ≡ Moves outcome stage → P outcome)
      → P (answered k live event c).outcome
  unfolding answered
  by_answer late absent gone stays moves = by_found (login_of live.logins c) refl
    where
      by_reply : (login : KnownLogin) → login_of live.logins c ≡ Some login → (r : Reply) → reply k live.nonces login event ≡ r
          → P (carried_out live event c login r).outcome
      by_reply login is NotDue e = late login is
      by_reply login is (Stays outcome) e = stays login is outcome e
      by_reply login is (Moves outcome stage) e = moves login is outcome stage e

      by_found : (o : Option KnownLogin) → login_of live.logins c ≡ o → P (answered_for k live event c o).outcome
      by_found None is = absent
      by_found (Some login) is = by (carried event) refl
        where
          by_test : (n : ℕ) → carried event ≡ Some n → (b : Bool)
              → P (cond {A = Answered} b (carried_out live event c login (reply k live.nonces login event)) (record { outcome = outcomes.Gone; live = live })).outcome
          by_test n e true = by_reply login is (reply k live.nonces login event) refl
          by_test n e false = gone n e

          by : (o : Option ℕ) → carried event ≡ o
              → P (cond {A = Answered} (is_carried o login.serial) (carried_out live event c login (reply k live.nonces login event)) (record { outcome = outcomes.Gone; live = live })).outcome
          by None e = by_reply login is (reply k live.nonces login event) refl
          by (Some n) e = by_test n e (eqb login.serial n)

module _ (k : Known) (live : Live) (c : ℕ) (rest : Option (List StepWord)) (said : Said) (tracked : IsTracked k (login_of live.logins c) rest said) where
  -- what is tracked of a login that was found
  at_login : (login : KnownLogin) → login_of live.logins c ≡ Some login → IsTracked k (Some login) rest said
  at_login login is = rw is at tracked

  -- a check that isn't gone
  pub proved_where_shown : (n : ℕ) (brought : Option Done) → (let o = (answered k live (events.Check2 c n brought) c).outcome in is_gone o ≡ false → is_accepted o ≡ has_shown k said)
  proved_where_shown n brought = by_answer (λ o. is_gone o ≡ false → is_accepted o ≡ has_shown k said) k live (events.Check2 c n brought) c
      (λ login is h. cc) (λ h. cc) (λ n e h. cc) (λ login is outcome e. stays login outcome login.stage e)
      (λ login is outcome stage e _. moves login outcome stage login.stage (at_login login is).is_said e)
    where
      stays : (login : KnownLogin) (outcome : Outcome) (stage : KnownStage) → check2 k login stage ≡ Stays outcome
          → is_gone outcome ≡ false → is_accepted outcome ≡ has_shown k said
      stays login outcome (Checking p key e) is h = cc
      stays login outcome Fresh is h = cc
      stays login outcome (Loading p) is h = cc
      stays login outcome (Named p key) is h = cc
      stays login outcome (Proved p) is h = cc
      stays login outcome (Authorized p) is h = cc
      stays login outcome (Complete p) is h = cc
      stays login outcome Failed is h = cc

      same : (x y : Outcome) (s t : KnownStage) → Moves x s ≡ Moves y t → x ≡ y
      same x y s t h = cc

      moves : (login : KnownLogin) (outcome : Outcome) (next stage : KnownStage) → (said.opening ≡ Some (opening_of login)) × HoldsSaid k said stage
          → check2 k login stage ≡ Moves outcome next → is_accepted outcome ≡ has_shown k said
      moves login outcome next (Checking p key e) holds is =
          ap is_accepted (sym (same _ outcome _ next is))
          ∙ sym (shown_is k login.serial login.mech login.nonce [] said holds.0 p e holds.1.0 holds.1.1)
      moves login outcome next Fresh holds is = cc
      moves login outcome next (Loading p) holds is = cc
      moves login outcome next (Named p key) holds is = cc
      moves login outcome next (Proved p) holds is = cc
      moves login outcome next (Authorized p) holds is = cc
      moves login outcome next (Complete p) holds is = cc
      moves login outcome next Failed holds is = cc

  -- an authorization that isn't refused with a state
  pub authorized_where_granted : (let o = (answered k live (events.Authorize c) c).outcome in is_state o ≡ false → is_accepted o ≡ is_granted k said.pin to_log_in)
  authorized_where_granted = by_answer (λ o. is_state o ≡ false → is_accepted o ≡ is_granted k said.pin to_log_in) k live (events.Authorize c) c
      (λ login is h. cc) (λ h. cc) (λ n e h. cc) (λ login is outcome e h. stays outcome login.stage e)
      (λ login is outcome stage e h. moves outcome stage login.stage (at_login login is).is_said.1 e)
    where
      stays : (outcome : Outcome) (stage : KnownStage) → authorize k stage ≡ Stays outcome → is_accepted outcome ≡ is_granted k said.pin to_log_in
      stays outcome (Proved p) is = cc
      stays outcome Fresh is = cc
      stays outcome (Loading p) is = cc
      stays outcome (Named p key) is = cc
      stays outcome (Checking p key e) is = cc
      stays outcome (Authorized p) is = cc
      stays outcome (Complete p) is = cc
      stays outcome Failed is = cc

      same : (x y : Outcome) (s t : KnownStage) → Moves x s ≡ Moves y t → x ≡ y
      same x y s t h = cc

      moves : (outcome : Outcome) (next stage : KnownStage) → HoldsSaid k said stage
          → authorize k stage ≡ Moves outcome next → is_accepted outcome ≡ is_granted k said.pin to_log_in
      moves outcome next (Proved p) holds is = by (grants k p.version p.place to_log_in) refl is
        where
          by : (b : Bool) → grants k p.version p.place to_log_in ≡ b
              → Moves (cond b outcomes.Authorized (outcomes.Denied p.version)) (cond b (Authorized p) (Proved p)) ≡ Moves outcome next
              → is_accepted outcome ≡ is_granted k said.pin to_log_in
          by true e h = rw (← same _ outcome _ next h, holds.0.pin) (sym e)
          by false e h = rw (← same _ outcome _ next h, holds.0.pin) (sym e)
      moves outcome next Fresh holds is = cc
      moves outcome next (Loading p) holds is = cc
      moves outcome next (Named p key) holds is = cc
      moves outcome next (Checking p key e) holds is = cc
      moves outcome next (Authorized p) holds is = cc
      moves outcome next (Complete p) holds is = cc
      moves outcome next Failed holds is = cc

  -- a succeed: it establishes exactly where the login is ready
  pub established_where_ready : (let o = (answered k live (events.Succeed c) c).outcome in is_established o ≡ is_ready_since rest)
  unfolding answered
  established_where_ready = by_found (login_of live.logins c) tracked.fits
    where
      at : (login : KnownLogin) (ws : List StepWord) (stage : KnownStage) → FitsStage stage ws
          → is_established (carried_out live (events.Succeed c) c login (succeed k stage)).outcome ≡ is_ready_since (Some ws)
      at login ws (Authorized p) fits = rw (fits.going, fits.need) refl
      at login ws Fresh fits = sym (not_ready fits)
      at login ws (Loading p) fits = sym (not_ready fits)
      at login ws (Named p key) fits = sym (not_ready fits)
      at login ws (Checking p key e) fits = sym (not_ready fits)
      at login ws (Proved p) fits = sym (not_ready fits)
      at login ws (Complete p) fits = rw fits refl
      at login ws Failed fits = sym fits

      by_rest : (login : KnownLogin) (o : Option (List StepWord)) → Fits (Some login) o
          → is_established (carried_out live (events.Succeed c) c login (succeed k login.stage)).outcome ≡ is_ready_since o
      by_rest login None fits = absurd fits
      by_rest login (Some ws) fits = at login ws login.stage fits

      absent : (o : Option (List StepWord)) → Fits None o → false ≡ is_ready_since o
      absent None fits = refl
      absent (Some ws) fits = rw fits refl

      by_found : (o : Option KnownLogin) → Fits o rest
          → is_established (answered_for k live (events.Succeed c) c o).outcome ≡ is_ready_since rest
      by_found None fits = absent rest fits
      by_found (Some login) fits = by_rest login rest fits

  -- and then whoever it is has the right to be
  pub has_right : (let o = (answered k live (events.Succeed c) c).outcome in is_established o ≡ true → HasRight k said o)
  has_right = by_answer (λ o. is_established o ≡ true → HasRight k said o) k live (events.Succeed c) c
      (λ login is h. cc) (λ h. cc) (λ n e h. cc) (λ login is outcome e h. stays outcome login.stage e)
      (λ login is outcome stage e h. moves outcome stage login.stage (at_login login is).is_said.1 e)
    where
      stays : (outcome : Outcome) (stage : KnownStage) → succeed k stage ≡ Stays outcome → HasRight k said outcome
      stays outcome (Authorized p) is = cc
      stays outcome Fresh is = cc
      stays outcome (Loading p) is = cc
      stays outcome (Named p key) is = cc
      stays outcome (Checking p key e) is = cc
      stays outcome (Proved p) is = cc
      stays outcome (Complete p) is = cc
      stays outcome Failed is = cc

      same : (x y : Outcome) (s t : KnownStage) → Moves x s ≡ Moves y t → x ≡ y
      same x y s t h = cc

      moves : (outcome : Outcome) (next stage : KnownStage) → HoldsSaid k said stage → succeed k stage ≡ Moves outcome next → HasRight k said outcome
      moves outcome next (Authorized p) holds is =
          let made : outcomes.Established p.version p.place (roles k p.version p.place) ≡ outcome = same _ outcome _ next is in
          record { shown = holds.1; granted = holds.2; pinned = rw (← made, holds.0.pin) (refl, refl, refl) }
      moves outcome next Fresh holds is = cc
      moves outcome next (Loading p) holds is = cc
      moves outcome next (Named p key) holds is = cc
      moves outcome next (Checking p key e) holds is = cc
      moves outcome next (Proved p) holds is = cc
      moves outcome next (Complete p) holds is = cc
      moves outcome next Failed holds is = cc

  -- an allows that isn't refused with a state
  pub allowed_where_granted : (wanted : List ℕ)
      → (let o = (answered k live (events.Allows c wanted) c).outcome in is_state o ≡ false → o ≡ yes_or_no (is_granted k said.pin wanted))
  allowed_where_granted wanted = by_answer (λ o. is_state o ≡ false → o ≡ yes_or_no (is_granted k said.pin wanted)) k live (events.Allows c wanted) c
      (λ login is h. cc) (λ h. cc) (λ n e h. cc)
      (λ login is outcome e h. stays outcome login.stage (at_login login is).is_said.1 e) (λ login is outcome stage e h. moves outcome stage login.stage e)
    where
      same : (x y : Outcome) → Stays x ≡ Stays y → x ≡ y
      same x y h = cc

      stays : (outcome : Outcome) (stage : KnownStage) → HoldsSaid k said stage
          → allows k wanted stage ≡ Stays outcome → outcome ≡ yes_or_no (is_granted k said.pin wanted)
      stays outcome (Complete p) holds is = sym (same _ outcome is) ∙ rw holds.0.pin refl
      stays outcome Fresh holds is = cc
      stays outcome (Loading p) holds is = cc
      stays outcome (Named p key) holds is = cc
      stays outcome (Checking p key e) holds is = cc
      stays outcome (Proved p) holds is = cc
      stays outcome (Authorized p) holds is = cc
      stays outcome Failed holds is = cc

      moves : (outcome : Outcome) (next stage : KnownStage) → allows k wanted stage ≡ Moves outcome next → outcome ≡ yes_or_no (is_granted k said.pin wanted)
      moves outcome next (Complete p) is = cc
      moves outcome next Fresh is = cc
      moves outcome next (Loading p) is = cc
      moves outcome next (Named p key) is = cc
      moves outcome next (Checking p key e) is = cc
      moves outcome next (Proved p) is = cc
      moves outcome next (Authorized p) is = cc
      moves outcome next Failed is = cc

-- an accepted naming pins what is named now, whatever was said before
module _ (k : Known) (live : Live) (c : ℕ) (claim : Claim) where
  pub named_now : (let o = (answered k live (events.Name1 c claim) c).outcome in is_accepted o ≡ true → IsNamedNow k claim o)
  named_now = by_answer (λ o. is_accepted o ≡ true → IsNamedNow k claim o) k live (events.Name1 c claim) c
      (λ login is h. cc) (λ h. cc) (λ n e h. cc)
      (λ login is outcome e. stays login outcome login.stage e) (λ login is outcome stage e h. moves login outcome stage login.stage e)
    where
      none : false ≡ true → ⊥
      none h = cc

      stays_fresh : (login : KnownLogin) (outcome : Outcome) (r : Result Pinned Outcome) → naming k login.mech claim ≡ r
          → pinned_or r ≡ Stays outcome → is_accepted outcome ≡ true → IsNamedNow k claim outcome
      stays_fresh login outcome (Ok pin) e is h = cc
      stays_fresh login outcome (Err refusal) e is h = absurd (none (sym (naming_refuses k login.mech claim outcome (e ∙ ap Err (same refusal outcome is))) ∙ h))
        where
          same : (x y : Outcome) → Stays x ≡ Stays y → x ≡ y
          same x y h = cc

      stays : (login : KnownLogin) (outcome : Outcome) (stage : KnownStage) → name1 k login claim stage ≡ Stays outcome
          → is_accepted outcome ≡ true → IsNamedNow k claim outcome
      stays login outcome Fresh is h = stays_fresh login outcome (naming k login.mech claim) refl is h
      stays login outcome (Loading p) is h = cc
      stays login outcome (Named p key) is h = cc
      stays login outcome (Checking p key e) is h = cc
      stays login outcome (Proved p) is h = cc
      stays login outcome (Authorized p) is h = cc
      stays login outcome (Complete p) is h = cc
      stays login outcome Failed is h = cc

      moves_fresh : (login : KnownLogin) (outcome : Outcome) (next : KnownStage) (r : Result Pinned Outcome) → naming k login.mech claim ≡ r
          → pinned_or r ≡ Moves outcome next → IsNamedNow k claim outcome
      moves_fresh login outcome next (Err refusal) e is = cc
      moves_fresh login outcome next (Ok pin) e is =
          let pins = naming_pins k login.mech claim pin e in
          let finds = naming_finds k login.mech claim pin e in
          record {
            place = pin.place;
            version = sym (same _ outcome (Loading pin) next is) ∙ ap (λ (p : Pinned). outcomes.Pinned p.version) pins.0;
            own = finds.0;
            place_is = pins.1;
            exists = finds.1;
          }
        where
          same : (x y : Outcome) (s t : KnownStage) → Moves x s ≡ Moves y t → x ≡ y
          same x y s t h = cc

      moves : (login : KnownLogin) (outcome : Outcome) (next stage : KnownStage) → name1 k login claim stage ≡ Moves outcome next → IsNamedNow k claim outcome
      moves login outcome next Fresh is = moves_fresh login outcome next (naming k login.mech claim) refl is
      moves login outcome next (Loading p) is = cc
      moves login outcome next (Named p key) is = cc
      moves login outcome next (Checking p key e) is = cc
      moves login outcome next (Proved p) is = cc
      moves login outcome next (Authorized p) is = cc
      moves login outcome next (Complete p) is = cc
      moves login outcome next Failed is = cc

-- ---- the same of a step of the machine, whose word and login are those

-- the word of an edit is none of a login's
edit_is_none : {A : Type 0} (edit : Edit) (w : StepWord) → edit_word edit ≡ w
    → (words.Add ≡ w → A) → (words.Remove ≡ w → A) → (words.SetCred ≡ w → A) → (words.DropCred ≡ w → A) → (words.SetAttr ≡ w → A) → (words.DropAttr ≡ w → A)
    → (words.Reload ≡ w → A) → A
edit_is_none (edits.Add realm name) w h a b c d e f g = a h
edit_is_none (edits.Remove realm name) w h a b c d e f g = b h
edit_is_none (edits.SetCred realm name slot cred) w h a b c d e f g = c h
edit_is_none (edits.DropCred realm name slot) w h a b c d e f g = d h
edit_is_none (edits.SetAttr realm name attr values) w h a b c d e f g = e h
edit_is_none (edits.DropAttr realm name attr) w h a b c d e f g = f h
edit_is_none (edits.Reload realm users groups) w h a b c d e f g = g h

module _ (given : Given) (m : Machine) (c : ℕ) (rest : Option (List StepWord)) (said : Said) (tracked : IsTrackedIn given m c rest said) where
  check2_at : (event : Event) → word_of event ≡ words.Check2 → is_on c event ≡ true
      → (let o = (step given m event).0 in is_gone o ≡ false → is_accepted o ≡ has_shown (known given m) said)
  unfolding step
  check2_at (events.Check2 d n brought) word on = rw (eqb-true d c on) (proved_where_shown (known given m) m.live c rest said tracked n brought)
  check2_at (events.Change edit) word on = edit_is_none edit words.Check2 word (λ h. cc) (λ h. cc) (λ h. cc) (λ h. cc) (λ h. cc) (λ h. cc) (λ h. cc)
  check2_at (events.Bad bad) word on = cc
  check2_at (events.Begin d mech brought) word on = cc
  check2_at (events.Name1 d claim) word on = cc
  check2_at (events.Name2 d n brought) word on = cc
  check2_at (events.Check1 d n evidence) word on = cc
  check2_at (events.Authorize d) word on = cc
  check2_at (events.Allows d wanted) word on = cc
  check2_at (events.Succeed d) word on = cc
  check2_at (events.Fail d) word on = cc
  check2_at (events.Close d) word on = cc

  authorize_at : (event : Event) → word_of event ≡ words.Authorize → is_on c event ≡ true
      → (let o = (step given m event).0 in is_state o ≡ false → is_accepted o ≡ is_granted (known given m) said.pin to_log_in)
  unfolding step
  authorize_at (events.Authorize d) word on = rw (eqb-true d c on) (authorized_where_granted (known given m) m.live c rest said tracked)
  authorize_at (events.Change edit) word on = edit_is_none edit words.Authorize word (λ h. cc) (λ h. cc) (λ h. cc) (λ h. cc) (λ h. cc) (λ h. cc) (λ h. cc)
  authorize_at (events.Bad bad) word on = cc
  authorize_at (events.Begin d mech brought) word on = cc
  authorize_at (events.Name1 d claim) word on = cc
  authorize_at (events.Name2 d n brought) word on = cc
  authorize_at (events.Check1 d n evidence) word on = cc
  authorize_at (events.Check2 d n brought) word on = cc
  authorize_at (events.Allows d wanted) word on = cc
  authorize_at (events.Succeed d) word on = cc
  authorize_at (events.Fail d) word on = cc
  authorize_at (events.Close d) word on = cc

  succeed_at : (event : Event) → word_of event ≡ words.Succeed → is_on c event ≡ true
      → (let o = (step given m event).0 in (is_established o ≡ is_ready_since rest) × (is_established o ≡ true → HasRight (known given m) said o))
  unfolding step
  succeed_at (events.Succeed d) word on =
      rw (eqb-true d c on) (established_where_ready (known given m) m.live c rest said tracked, has_right (known given m) m.live c rest said tracked)
  succeed_at (events.Change edit) word on = edit_is_none edit words.Succeed word (λ h. cc) (λ h. cc) (λ h. cc) (λ h. cc) (λ h. cc) (λ h. cc) (λ h. cc)
  succeed_at (events.Bad bad) word on = cc
  succeed_at (events.Begin d mech brought) word on = cc
  succeed_at (events.Name1 d claim) word on = cc
  succeed_at (events.Name2 d n brought) word on = cc
  succeed_at (events.Check1 d n evidence) word on = cc
  succeed_at (events.Check2 d n brought) word on = cc
  succeed_at (events.Authorize d) word on = cc
  succeed_at (events.Allows d wanted) word on = cc
  succeed_at (events.Fail d) word on = cc
  succeed_at (events.Close d) word on = cc

-- the same of a naming and of an allows, which are given
allows_at : (given : Given) (m : Machine) (c : ℕ) (rest : Option (List StepWord)) (said : Said) → IsTrackedIn given m c rest said → (wanted : List ℕ)
    → (let o = (step given m (events.Allows c wanted)).0 in is_state o ≡ false → o ≡ yes_or_no (is_granted (known given m) said.pin wanted))
unfolding step
allows_at given m c rest said tracked wanted = allowed_where_granted (known given m) m.live c rest said tracked wanted

name1_at : (given : Given) (m : Machine) (c : ℕ) (claim : Claim)
    → (let o = (step given m (events.Name1 c claim)).0 in is_accepted o ≡ true → IsNamedNow (known given m) claim o)
unfolding step
name1_at given m c claim = named_now (known given m) m.live c claim

-- ---- over runs

-- what is tracked behind the prefix of a run
prefix_tracked : (given : Given) (prefix : List Taken) (c : ℕ) → IsRun given (first_machine given) prefix
    → IsTrackedIn given (machine_after given (first_machine given) prefix) c (since_open (words_on c prefix)) (said_of given c prefix)
prefix_tracked given prefix c run =
    run_tracked given (first_machine given) prefix c [] (record { opening = None; pin = None; evidence = None }) run (record { fits = tt; is_said = tt })

pub proved_in_runs : (given : Given) (h : List Taken) → IsRun given (first_machine given) h → IsProvedWhereShown given h
proved_in_runs given h run prefix t back c split word on gone =
    let parts = run_split given (first_machine given) prefix t back (rw split at run) in
    let at = check2_at given (machine_after given (first_machine given) prefix) c (since_open (words_on c prefix)) (said_of given c prefix) (prefix_tracked given prefix c parts.0) t.event word on in
    rw (sym parts.1) at (rw (known_is given prefix parts.0) at at) gone

pub authorized_in_runs : (given : Given) (h : List Taken) → IsRun given (first_machine given) h → IsAuthorizedWhereGranted given h
authorized_in_runs given h run prefix t back c split word on told =
    let parts = run_split given (first_machine given) prefix t back (rw split at run) in
    let at = authorize_at given (machine_after given (first_machine given) prefix) c (since_open (words_on c prefix)) (said_of given c prefix) (prefix_tracked given prefix c parts.0) t.event word on in
    rw (sym parts.1) at (rw (known_is given prefix parts.0) at at) told

pub established_in_runs : (given : Given) (h : List Taken) → IsRun given (first_machine given) h → IsEstablishedWhereReady h
unfolding is_ready
established_in_runs given h run prefix t back c split word on =
    let parts = run_split given (first_machine given) prefix t back (rw split at run) in
    ap is_established parts.1 ∙ (succeed_at given (machine_after given (first_machine given) prefix) c (since_open (words_on c prefix)) (said_of given c prefix) (prefix_tracked given prefix c parts.0) t.event word on).0

pub by_right_in_runs : (given : Given) (h : List Taken) → IsRun given (first_machine given) h → IsEstablishedByRight given h
by_right_in_runs given h run prefix t back c split word on told =
    let parts = run_split given (first_machine given) prefix t back (rw split at run) in
    let at = (succeed_at given (machine_after given (first_machine given) prefix) c (since_open (words_on c prefix)) (said_of given c prefix) (prefix_tracked given prefix c parts.0) t.event word on).1 in
    rw (sym parts.1) at (rw (known_is given prefix parts.0) at at) told

pub pinned_in_runs : (given : Given) (h : List Taken) → IsRun given (first_machine given) h → IsPinnedAsOfNow given h
pinned_in_runs given h run prefix t back c claim split event_is accepted =
    let parts = run_split given (first_machine given) prefix t back (rw split at run) in
    let outcome : t.outcome ≡ (step given (machine_after given (first_machine given) prefix) (events.Name1 c claim)).0 = rw event_is at parts.1 in
    let at = name1_at given (machine_after given (first_machine given) prefix) c claim in
    rw (sym outcome) at (rw (known_is given prefix parts.0) at at) accepted

pub allowed_in_runs : (given : Given) (h : List Taken) → IsRun given (first_machine given) h → IsAllowedWhereGranted given h
allowed_in_runs given h run prefix t back c wanted split event_is told =
    let parts = run_split given (first_machine given) prefix t back (rw split at run) in
    let outcome : t.outcome ≡ (step given (machine_after given (first_machine given) prefix) (events.Allows c wanted)).0 = rw event_is at parts.1 in
    let at = allows_at given (machine_after given (first_machine given) prefix) c (since_open (words_on c prefix)) (said_of given c prefix) (prefix_tracked given prefix c parts.0) wanted in
    rw (sym outcome) at (rw (known_is given prefix parts.0) at at) told
