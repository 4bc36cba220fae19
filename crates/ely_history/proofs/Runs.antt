-- Runs of the machine: what is tracked through a step is tracked through all of them.
use Rattle.std.proofs.Common.{◌≡◌, ℕ, ◌+◌, ◌≤◌, Bool, true, false, cond, eqb, leb, List, [], ◌∷◌, ◌++◌, length, fold, Option, Some, None, refl, sym, ap, ◌∙◌, arith, append-nil, append_assoc, eqb-true, eq-eqb}
use Rattle.std.specs.Prelude.{is_some, ◌==◌}
use Rattle.std.specs.List.{cons_option, filter_map}
use Rattle.std.specs.Cmp.{nat_eq_equiv}
use Rattle.std.specs.Option.{option_or}
use Rattle.std.proofs.lemmas.List.{length-append}
use Rattle.ely_row.specs.declared.edit.Edit.{Edit}
use Rattle.ely_row.specs.declared.edit.EditFault.{EditFault}
use Rattle.ely_row.specs.declared.mech.Mech.{Mech}
use Rattle.ely_table.specs.Faults.{fault}
use Rattle.ely_login.specs.declared.claim.Evidence.{Evidence}
use Rattle.ely_login.specs.declared.outcome.Outcome.{Outcome}
use Rattle.ely_login.specs.declared.outcome.Outcome.TheVariants as outcomes
use Rattle.ely_login.specs.declared.word.StateWord.{StateWord}
use Rattle.ely_login.specs.declared.word.StateWord.TheVariants as states
use Rattle.ely_login.specs.declared.word.StepWord.{StepWord}
use Rattle.ely_login.specs.declared.word.StepWord.TheVariants as words
use Rattle.ely_login.specs.Outcomes.{is_accepted}
use Rattle.ely_context.specs.declared.stage.Stage.TheVariants.{Fresh, Loading, Named, Checking, Proved, Authorized, Complete, Failed}
use Rattle.ely_context.specs.Logins.{login_of, with_login, without_login}
use Rattle.ely_context.specs.Stages.{state_of, at_stage}
use Rattle.ely_context.proofs.LoginLemmas.{login_of-without_login}
use Rattle.ely_digest_msg.specs.declared.header.DigestAlg.{DigestAlg}
use Rattle.ely_domain.specs.declared.event.Event.{Event}
use Rattle.ely_domain.specs.declared.event.Event.TheVariants as events
use Rattle.ely_domain.specs.Events.{login_id, is_id, is_on}
use Rattle.ely_domain.specs.Given.{Given, realms}
use Rattle.ely_history.specs.Histories.{IsRun, machine_after, accepted_word, words_on, since_open}
use Rattle.ely_domain.specs.Identities.{Known, to_log_in}
use Rattle.ely_history.specs.Lines.{Taken}
use Rattle.ely_domain.specs.Logins.{Pinned, KnownStage, KnownLogin, Live}
use Rattle.ely_domain.specs.Machine.{Machine, Answered, known, answered, answered_for, carried_out, change, opening_fault, opened_or, opened_login, closed, first_machine, step, alg_of, is_used, challenge}
use Rattle.ely_domain.specs.Steps.{Reply, NotDue, Stays, Moves, reply, carried, is_carried, not_due, not_there}
use Rattle.ely_domain.specs.Verdicts.{exchange, is_proof_of}
use Rattle.ely_history.specs.WhoGetsIn.{Said, Opening, opened_by, pinned_by, evidence_shown, edit_made, known_by, has_shown, is_shown, is_granted}
use Rattle.ely_domain.proofs.Growing.{more, grants_stay, key_stays}
use Rattle.ely_domain.proofs.Seeing.{itself_with, others_with, others_without}
use Rattle.ely_history.proofs.Tracking.{HoldsSaid, opening_of, IsSaid, IsPinSaid, IsTracked, Tracks, said_next, word_if, tracks, refused_pins_nothing}
use Rattle.ely_history.proofs.WordLists.{next, ended, since_open_push}

-- what is said of c after a step, whose login it is or not
abbrev pub said_after : Given → ℕ → Said → Event → Outcome → Said
said_after given c said event outcome = record {
  opening = cond (is_on c event) (option_or (opened_by given event outcome) said.opening) said.opening;
  pin = cond (is_on c event) (option_or (pinned_by given event outcome) said.pin) said.pin;
  evidence = cond (is_on c event) (option_or (evidence_shown event outcome) said.evidence) said.evidence;
}

-- c is tracked in the machine
abbrev pub IsTrackedIn : Given → Machine → ℕ → Option (List StepWord) → Said → Type 0
IsTrackedIn given m c rest said = IsTracked (known given m) (login_of m.live.logins c) rest said

-- a refusal says nothing
said_refused : (given : Given) (said : Said) (event : Event) (outcome : Outcome) → is_accepted outcome ≡ false → said_next given said event outcome ≡ said
said_refused given said event outcome h =
    let pins : pinned_by given event outcome ≡ None = refused_pins_nothing given event outcome h in
    rw (pins, opens event outcome h, shows event outcome h) refl
  where
    by_begin : (c : ℕ) (mech : Mech) (brought : Option (List ℕ)) (outcome : Outcome) → is_accepted outcome ≡ false
        → opened_by given (events.Begin c mech brought) outcome ≡ None
    by_begin c mech brought = elim [ outcomes.Opened serial challenge ↦ (λ h. cc) | _ ↦ (λ h. refl) ]

    opens : (event : Event) (outcome : Outcome) → is_accepted outcome ≡ false → opened_by given event outcome ≡ None
    opens (events.Begin c mech brought) outcome h = by_begin c mech brought outcome h
    opens _ outcome h = refl

    by_check1 : (c : ℕ) (n : Option ℕ) (evidence : Evidence) (outcome : Outcome) → is_accepted outcome ≡ false
        → evidence_shown (events.Check1 c n evidence) outcome ≡ None
    by_check1 c n evidence = elim [ outcomes.Fine ↦ (λ h. cc) | _ ↦ (λ h. refl) ]

    shows : (event : Event) (outcome : Outcome) → is_accepted outcome ≡ false → evidence_shown event outcome ≡ None
    shows (events.Check1 c n evidence) outcome h = by_check1 c n evidence outcome h
    shows _ outcome h = refl

-- a step that is refused leaves what is tracked
untracked : (k : Known) (found : Option KnownLogin) (rest : Option (List StepWord)) (said : Said) (event : Event) (outcome : Outcome)
    → is_accepted outcome ≡ false → IsTracked k found rest said
    → IsTracked k found (next rest (word_if event outcome)) (said_next k.given said event outcome)
untracked k found rest said event outcome refused tracked =
    rw (refused, said_refused k.given said event outcome refused) tracked

not_due_refuses : (event : Event) (state : StateWord) → is_accepted (not_due event state) ≡ false
not_due_refuses (events.Name2 c n brought) state = refl
not_due_refuses (events.Check2 c n brought) state = refl
not_due_refuses (events.Bad bad) state = refl
not_due_refuses (events.Change edit) state = refl
not_due_refuses (events.Begin c mech brought) state = refl
not_due_refuses (events.Name1 c claim) state = refl
not_due_refuses (events.Check1 c n evidence) state = refl
not_due_refuses (events.Authorize c) state = refl
not_due_refuses (events.Allows c wanted) state = refl
not_due_refuses (events.Succeed c) state = refl
not_due_refuses (events.Fail c) state = refl
not_due_refuses (events.Close c) state = refl

not_there_refuses : (event : Event) → is_accepted (not_there event) ≡ false
not_there_refuses event = by (is_some (carried event))
  where
    by : (b : Bool) → is_accepted (cond b outcomes.Gone (outcomes.State states.Absent)) ≡ false
    by true = refl
    by false = refl

-- a step of the login d, and what it leaves of c
module _ (k : Known) (live : Live) (event : Event) (c : ℕ) (rest : Option (List StepWord)) (said : Said) (tracked : IsTracked k (login_of live.logins c) rest said) where
  -- the login itself: what its reply makes of it
  own_reply : (login : KnownLogin) → login_of live.logins c ≡ Some login → (r : Reply) → Tracks k login rest said event r
      → (let a = carried_out live event c login r in IsTracked k (login_of a.live.logins c) (next rest (word_if event a.outcome)) (said_next k.given said event a.outcome))
  own_reply login is NotDue t = untracked k _ rest said event _ (not_due_refuses event (state_of login.stage)) tracked
  own_reply login is (Stays outcome) t = rw is t
  own_reply login is (Moves outcome stage) t = rw (itself_with live.logins c (at_stage login stage)) t

  own_found : (o : Option KnownLogin) → login_of live.logins c ≡ o
      → (let a = answered_for k live event c o in IsTracked k (login_of a.live.logins c) (next rest (word_if event a.outcome)) (said_next k.given said event a.outcome))
  own_found None is = untracked k _ rest said event _ (not_there_refuses event) tracked
  own_found (Some login) is = by (is_carried (carried event) login.serial)
    where
      by : (b : Bool) → (let a = cond {A = Answered} b (carried_out live event c login (reply k live.nonces login event)) (record { outcome = outcomes.Gone; live = live }) in
          IsTracked k (login_of a.live.logins c) (next rest (word_if event a.outcome)) (said_next k.given said event a.outcome))
      by true = own_reply login is (reply k live.nonces login event) (tracks k live.nonces login rest said event (rw is at tracked))
      by false = untracked k _ rest said event outcomes.Gone refl tracked

  own_step : (let a = answered k live event c in IsTracked k (login_of a.live.logins c) (next rest (word_if event a.outcome)) (said_next k.given said event a.outcome))
  unfolding answered
  own_step = own_found (login_of live.logins c) refl

-- another login's step leaves c
other_found : (k : Known) (live : Live) (event : Event) (c d : ℕ) → (c == d) ≡ false → (o : Option KnownLogin)
    → login_of (answered_for k live event d o).live.logins c ≡ login_of live.logins c
other_found k live event c d apart None = refl
other_found k live event c d apart (Some login) = by (is_carried (carried event) login.serial)
  where
    by_reply : (r : Reply) → login_of (carried_out live event d login r).live.logins c ≡ login_of live.logins c
    by_reply NotDue = refl
    by_reply (Stays outcome) = refl
    by_reply (Moves outcome stage) = others_with live.logins d (at_stage login stage) c apart

    by : (b : Bool) → login_of (cond {A = Answered} b (carried_out live event d login (reply k live.nonces login event)) (record { outcome = outcomes.Gone; live = live })).live.logins c ≡ login_of live.logins c
    by true = by_reply (reply k live.nonces login event)
    by false = refl

pub other_step : (k : Known) (live : Live) (event : Event) (c d : ℕ) → (c == d) ≡ false
    → login_of (answered k live event d).live.logins c ≡ login_of live.logins c
unfolding answered
other_step k live event c d apart = other_found k live event c d apart (login_of live.logins d)

-- what was said stays true as edits come
grows_holds : (k : Known) (e : Edit) (opening : Opening) (said : Said) → said.opening ≡ Some opening → (stage : KnownStage)
    → HoldsSaid k said stage → HoldsSaid (more k e) said stage
grows_holds k e opening said opening_is stage holds = by stage holds
  where
    pin_grows : (p : Pinned) → IsPinSaid k p said → IsPinSaid (more k e) p said
    pin_grows p is = record { pin = is.pin; past = omega (arith, is.past, length-append k.edits (e ∷ [])) }

    by_evidence : (p : Pinned) (o : Option Evidence) → p.version ≤ length k.edits
        → is_shown (more k e) (Some opening) (Some p) o ≡ is_shown k (Some opening) (Some p) o
    by_evidence p None past = refl
    by_evidence p (Some evidence) past = ap (λ key. is_proof_of (exchange k.given opening.nonce p.claim) key evidence) (key_stays k e opening.mech p.version p.place past)

    shown_grows : (p : Pinned) → IsPinSaid k p said → has_shown k said ≡ true → has_shown (more k e) said ≡ true
    shown_grows p is shown =
        rw (opening_is, is.pin) (by_evidence p said.evidence is.past ∙ rw (opening_is, is.pin) at shown)

    granted_grows : (p : Pinned) → IsPinSaid k p said → is_granted k said.pin to_log_in ≡ true → is_granted (more k e) said.pin to_log_in ≡ true
    granted_grows p is granted =
        rw is.pin (grants_stay k e p.version p.place to_log_in is.past ∙ rw is.pin at granted)

    by : (stage : KnownStage) → HoldsSaid k said stage → HoldsSaid (more k e) said stage
    by Fresh holds = tt
    by (Loading p) holds = pin_grows p holds
    by (Named p key) holds = pin_grows p holds
    by (Checking p key evidence) holds = (pin_grows p holds.0, holds.1)
    by (Proved p) holds = (pin_grows p holds.0, shown_grows p holds.0 holds.1)
    by (Authorized p) holds = (pin_grows p holds.0, shown_grows p holds.0 holds.1, granted_grows p holds.0 holds.2)
    by (Complete p) holds = (pin_grows p holds.0, shown_grows p holds.0 holds.1, granted_grows p holds.0 holds.2)
    by Failed holds = tt

grows_said : (k : Known) (e : Edit) (said : Said) (found : Option KnownLogin) → IsSaid k said found → IsSaid (more k e) said found
grows_said k e said None is = tt
grows_said k e said (Some login) is = (is.0, grows_holds k e (opening_of login) said is.0 login.stage is.1)

-- what can't be opened is refused
opening_refuses : (live : Live) (d : ℕ) (nonce : List ℕ) (alg : Option DigestAlg) (refusal : Outcome)
    → opening_fault live d nonce alg ≡ Some refusal → is_accepted refusal ≡ false
opening_refuses live d nonce alg refusal =
    by (is_some (login_of live.logins d)) (leb 4096 (length live.logins)) (is_used live.nonces nonce alg)
  where
    same : (x y : Outcome) → ◌≡◌ {A = Option Outcome} (Some x) (Some y) → x ≡ y
    same x y h = cc

    by : (a b d : Bool) → cond a (Some outcomes.InUse) (cond b (Some outcomes.ContextsFull) (cond d (Some outcomes.NonceUsed) None)) ≡ Some refusal
        → is_accepted refusal ≡ false
    by true b d h = rw (← same outcomes.InUse refusal h) refl
    by false true d h = rw (← same outcomes.ContextsFull refusal h) refl
    by false false true h = rw (← same outcomes.NonceUsed refusal h) refl
    by false false false h = cc

-- a number is another where the other is another
turned : (c d : ℕ) → (d == c) ≡ false → (c == d) ≡ false
turned c d h = nat_eq_equiv.symm c d ∙ h

module _ (given : Given) (m : Machine) (c : ℕ) (rest : Option (List StepWord)) (said : Said) (tracked : IsTrackedIn given m c rest said) where
  -- the same machine with an event that isn't of c
  step_login : (event : Event) (d : ℕ) → login_id event ≡ Some d
      → (let a = answered (known given m) m.live event d in
      IsTracked (known given m) (login_of a.live.logins c) (next rest (accepted_word c event a.outcome)) (said_after given c said event a.outcome))
  step_login event d id_is = by (eqb d c) refl
    where
      by : (b : Bool) → eqb d c ≡ b
          → (let a = answered (known given m) m.live event d in
          IsTracked (known given m) (login_of a.live.logins c) (next rest (accepted_word c event a.outcome)) (said_after given c said event a.outcome))
      by true e =
          let on : is_on c event ≡ true = ap (is_id c) id_is ∙ e in
          rw (on, eqb-true d c e) (own_step (known given m) m.live event c rest said tracked)
      by false e =
          let off : is_on c event ≡ false = ap (is_id c) id_is ∙ e in
          rw (off, other_step (known given m) m.live event c d (turned c d e)) tracked

  step_begin : (d : ℕ) (mech : Mech) (brought : Option (List ℕ)) (o : Option Outcome)
      → opening_fault m.live d (opened_login given m mech brought).nonce (alg_of mech) ≡ o
      → (let s = opened_or given m d (opened_login given m mech brought) o in
      IsTrackedIn given s.1 c (next rest (accepted_word c (events.Begin d mech brought) s.0)) (said_after given c said (events.Begin d mech brought) s.0))
  step_begin d mech brought (Some refusal) is = by (eqb d c)
    where
      refused : is_accepted refusal ≡ false
      refused = opening_refuses m.live d (opened_login given m mech brought).nonce (alg_of mech) refusal is

      by : (b : Bool) → IsTrackedIn given m c (next rest (cond b (cond (is_accepted refusal) (Some words.Begin) None) None))
          (let next' = said_next given said (events.Begin d mech brought) refusal in
          record { opening = cond b next'.opening said.opening; pin = cond b next'.pin said.pin; evidence = cond b next'.evidence said.evidence })
      by true = untracked (known given m) (login_of m.live.logins c) rest said (events.Begin d mech brought) refusal refused tracked
      by false = tracked
  step_begin d mech brought None is = by (eqb d c) refl
    where
      by : (b : Bool) → eqb d c ≡ b → IsTracked (known given m) (login_of (with_login m.live.logins d (opened_login given m mech brought)) c) (next rest (cond b (Some words.Begin) None))
          (let next' = said_next given said (events.Begin d mech brought) (outcomes.Opened (m.opened + 1) (challenge given (opened_login given m mech brought).nonce (alg_of mech))) in
          record { opening = cond b next'.opening said.opening; pin = cond b next'.pin said.pin; evidence = cond b next'.evidence said.evidence })
      by true e =
          rw (eqb-true d c e, itself_with m.live.logins c (opened_login given m mech brought))
          (record { fits = record { going = refl; need = refl }; is_said = (refl, tt) })
      by false e = rw (others_with m.live.logins d (opened_login given m mech brought) c (turned c d e)) tracked

  step_close : (d : ℕ)
      → (let a = closed m.live d in
      IsTracked (known given m) (login_of a.live.logins c) (next rest (accepted_word c (events.Close d) a.outcome)) (said_after given c said (events.Close d) a.outcome))
  unfolding closed
  step_close d = by (eqb d c) refl
    where
      closed_own : (o : Option KnownLogin) (said' : Said) → IsTracked (known given m) o rest said
          → IsTracked (known given m) None (next rest (cond (is_accepted (cond {A = Outcome} (is_some o) outcomes.Fine (outcomes.State states.Absent))) (Some words.Close) None)) said'
      closed_own None said' at = record { fits = at.fits; is_said = tt }
      closed_own (Some login) said' at = by_rest rest at
        where
          by_rest : (rest : Option (List StepWord)) → IsTracked (known given m) (Some login) rest said
              → IsTracked (known given m) None (next rest (Some words.Close)) said'
          by_rest None at = absurd at.fits
          by_rest (Some ws) at = record { fits = ended ws words.Close refl; is_said = tt }

      by : (b : Bool) → eqb d c ≡ b
          → (let o : Outcome = cond (is_some (login_of m.live.logins d)) outcomes.Fine (outcomes.State states.Absent) in
          let next' = said_next given said (events.Close d) o in
          IsTracked (known given m) (login_of (without_login m.live.logins d) c) (next rest (cond b (cond (is_accepted o) (Some words.Close) None) None))
          (record { opening = cond b next'.opening said.opening; pin = cond b next'.pin said.pin; evidence = cond b next'.evidence said.evidence }))
      by true e =
          rw (eqb-true d c e, login_of-without_login m.live.logins c c, eq-eqb c c refl) (closed_own (login_of m.live.logins c) _ tracked)
      by false e = rw (others_without m.live.logins d c (turned c d e)) tracked

  step_change : (edit : Edit) (o : Option EditFault)
      → (let s = change m edit o in IsTrackedIn given s.1 c rest said)
  step_change edit (Some f) = tracked
  step_change edit None = record { fits = tracked.fits; is_said = grows_said (known given m) edit said (login_of m.live.logins c) tracked.is_said }

  -- one step
  pub step_tracked : (event : Event) → (let s = step given m event in
      IsTrackedIn given s.1 c (next rest (accepted_word c event s.0)) (said_after given c said event s.0))
  unfolding step
  step_tracked (events.Bad bad) = tracked
  step_tracked (events.Change edit) = step_change edit (fault (realms given) given.limit m.edits edit)
  step_tracked (events.Begin d mech brought) =
      step_begin d mech brought (opening_fault m.live d (opened_login given m mech brought).nonce (alg_of mech)) refl
  step_tracked (events.Name1 d claim) = step_login (events.Name1 d claim) d refl
  step_tracked (events.Name2 d n brought) = step_login (events.Name2 d n brought) d refl
  step_tracked (events.Check1 d n evidence) = step_login (events.Check1 d n evidence) d refl
  step_tracked (events.Check2 d n brought) = step_login (events.Check2 d n brought) d refl
  step_tracked (events.Authorize d) = step_login (events.Authorize d) d refl
  step_tracked (events.Allows d wanted) = step_login (events.Allows d wanted) d refl
  step_tracked (events.Succeed d) = step_login (events.Succeed d) d refl
  step_tracked (events.Fail d) = step_login (events.Fail d) d refl
  step_tracked (events.Close d) = step_close d

-- ---- runs

-- the words with one more, or with none
pushed : (ws : List StepWord) (w : Option StepWord) (more : List StepWord) → (ws ++ cons_option w []) ++ more ≡ ws ++ cons_option w more
pushed ws None more = ap (λ xs. xs ++ more) (append-nil ws)
pushed ws (Some w) more = append_assoc ws (w ∷ []) more

since_pushed : (ws : List StepWord) (w : Option StepWord) → next (since_open ws) w ≡ since_open (ws ++ cons_option w [])
since_pushed ws None = ap since_open (sym (append-nil ws))
since_pushed ws (Some w) = sym (since_open_push ws w)

-- what is said after a run, where this was said before it
abbrev pub said_past : Given → ℕ → Said → List Taken → Said
said_past given c said h = record {
  opening = fold (λ found t. cond (is_on c t.event) (option_or (opened_by given t.event t.outcome) found) found) said.opening h;
  pin = fold (λ found t. cond (is_on c t.event) (option_or (pinned_by given t.event t.outcome) found) found) said.pin h;
  evidence = fold (λ found t. cond (is_on c t.event) (option_or (evidence_shown t.event t.outcome) found) found) said.evidence h;
}

-- what is tracked before a run is tracked after it
pub run_tracked : (given : Given) (m : Machine) (h : List Taken) (c : ℕ) (ws : List StepWord) (said : Said) → IsRun given m h
    → IsTrackedIn given m c (since_open ws) said
    → IsTrackedIn given (machine_after given m h) c (since_open (ws ++ words_on c h)) (said_past given c said h)
run_tracked given m [] c ws said run at = rw append-nil at
run_tracked given m (t ∷ ts) c ws said run at =
    let w = accepted_word c t.event (step given m t.event).0 in
    let kept = rw (since_pushed ws w) at (step_tracked given m c (since_open ws) said at t.event) in
    let after = rw (pushed ws w (words_on c ts)) at (run_tracked given (step given m t.event).1 ts c (ws ++ cons_option w []) (said_after given c said t.event (step given m t.event).0) run.1 kept) in
    rw run.0 after

-- a run up to a step, and that step
pub run_split : (given : Given) (m : Machine) (prefix : List Taken) (t : Taken) (back : List Taken) → IsRun given m (prefix ++ t ∷ back)
    → IsRun given m prefix × (t.outcome ≡ (step given (machine_after given m prefix) t.event).0)
run_split given m [] t back run = (tt, run.0)
run_split given m (x ∷ xs) t back run =
    let rest = run_split given (step given m x.event).1 xs t back run.1 in
    ((run.0, rest.0), rest.1)

-- the edits of a machine are those that its history made
edits_step : (given : Given) (m : Machine) (event : Event) → (step given m event).1.edits ≡ m.edits ++ cons_option (edit_made event (step given m event).0) []
unfolding step
edits_step given m (events.Change edit) = by (fault (realms given) given.limit m.edits edit)
  where
    by : (o : Option EditFault) → (change m edit o).1.edits ≡ m.edits ++ cons_option (edit_made (events.Change edit) (change m edit o).0) []
    by None = refl
    by (Some f) = sym (append-nil m.edits)
edits_step given m (events.Begin d mech brought) = by (opening_fault m.live d (opened_login given m mech brought).nonce (alg_of mech))
  where
    by : (o : Option Outcome) → (opened_or given m d (opened_login given m mech brought) o).1.edits ≡ m.edits ++ []
    by None = sym (append-nil m.edits)
    by (Some f) = sym (append-nil m.edits)
edits_step given m (events.Bad bad) = sym (append-nil m.edits)
edits_step given m (events.Name1 d claim) = sym (append-nil m.edits)
edits_step given m (events.Name2 d n brought) = sym (append-nil m.edits)
edits_step given m (events.Check1 d n evidence) = sym (append-nil m.edits)
edits_step given m (events.Check2 d n brought) = sym (append-nil m.edits)
edits_step given m (events.Authorize d) = sym (append-nil m.edits)
edits_step given m (events.Allows d wanted) = sym (append-nil m.edits)
edits_step given m (events.Succeed d) = sym (append-nil m.edits)
edits_step given m (events.Fail d) = sym (append-nil m.edits)
edits_step given m (events.Close d) = sym (append-nil m.edits)

joined : (xs : List Edit) (o : Option Edit) (more : List Edit) → (xs ++ cons_option o []) ++ more ≡ xs ++ cons_option o more
joined xs None more = ap (λ ys. ys ++ more) (append-nil xs)
joined xs (Some e) more = append_assoc xs (e ∷ []) more

pub edits_run : (given : Given) (m : Machine) (h : List Taken) → IsRun given m h
    → (machine_after given m h).edits ≡ m.edits ++ filter_map (λ t. edit_made t.event t.outcome) h
edits_run given m [] run = sym (append-nil m.edits)
edits_run given m (t ∷ ts) run =
    edits_run given (step given m t.event).1 ts run.1
    ∙ ap (λ es. es ++ filter_map (λ t. edit_made t.event t.outcome) ts) (edits_step given m t.event ∙ ap (λ o. m.edits ++ cons_option (edit_made t.event o) []) (sym run.0))
    ∙ joined m.edits (edit_made t.event t.outcome) (filter_map (λ t. edit_made t.event t.outcome) ts)

-- what is known after a run is what its own edits say
pub known_is : (given : Given) (h : List Taken) → IsRun given (first_machine given) h
    → known given (machine_after given (first_machine given) h) ≡ known_by given h
known_is given h run = ap (λ es. (let k : Known = record { given = given; edits = es } in k)) (edits_run given (first_machine given) h run)
