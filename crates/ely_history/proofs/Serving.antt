-- Each part of a line has its event when it is due: what carries a serial stands behind the step that gives it.
use Rattle.std.proofs.Common.{◌≡◌, ℕ, Bool, true, false, cond, List, [], ◌∷◌, Option, Some, None, Result, Ok, Err, refl, sym, subst, ◌∙◌}
use Rattle.std.specs.Option.{option_or}
use Rattle.ely_login.specs.declared.claim.Claim.{Claim}
use Rattle.ely_login.specs.declared.claim.Claim.TheVariants as claims
use Rattle.ely_login.specs.declared.claim.Evidence.{Evidence}
use Rattle.ely_login.specs.declared.claim.Evidence.TheVariants as evidences
use Rattle.ely_script.specs.declared.command.LineError.TheVariants as errors
use Rattle.ely_script.specs.declared.command.Verb.{Verb}
use Rattle.ely_script.specs.declared.command.Verb.TheVariants as verbs
use Rattle.ely_login.specs.declared.outcome.Outcome.{Outcome}
use Rattle.ely_login.specs.declared.outcome.Outcome.TheVariants as outcomes
use Rattle.ely_script.specs.Lines.{ScriptLine}
use Rattle.ely_login.specs.Outcomes.{is_accepted}
use Rattle.ely_context.specs.declared.stage.Stage.TheVariants.{Fresh, Loading, Named, Checking, Proved, Authorized, Complete, Failed}
use Rattle.ely_context.specs.Logins.{login_of}
use Rattle.ely_domain.specs.declared.event.Event.{Event}
use Rattle.ely_domain.specs.declared.event.Event.TheVariants as events
use Rattle.ely_domain.specs.Given.{Given}
use Rattle.ely_domain.specs.Identities.{Known}
use Rattle.ely_domain.specs.Serials.{serial_given, carrier}
use Rattle.ely_history.specs.Lines.{carried_after}
use Rattle.ely_domain.specs.Logins.{Pinned, KnownStage, KnownLogin, Live}
use Rattle.ely_domain.specs.Machine.{Machine, Answered, known, answered, answered_for, carried_out, step}
use Rattle.ely_history.specs.Parts.{Part, Bad, Change, Begin, Name1, Name2, Check1, Check2, Authorize, Allows, Succeed, Fail, Close, parts_by, parts_of, event_of}
use Rattle.ely_domain.specs.Steps.{Reply, Stays, is_evidence_of, naming, name1, pinned_or, check1, shown_refusal, shown_or}
use Rattle.ely_domain.proofs.Seeing.{itself_with}
use Rattle.ely_domain.proofs.NamingLemmas.{naming_refuses}
use Rattle.ely_domain.proofs.Using.{shown_refuses}

-- each part has an event, and after an accepted step so has what is left
abbrev pub Serves : Given → Option ℕ → List Part → Type 0
Serves given carried [] = Unit {0}
Serves given carried (part ∷ rest) = (event : Event) × (event_of part carried ≡ Some event)
    × ((m : Machine) → is_accepted (step given m event).0 ≡ true → Serves given (carried_after carried event (step given m event)) rest)

-- every part has an event where a serial is carried
event_with : (part : Part) (n : ℕ) → (event : Event) × (event_of part (Some n) ≡ Some event)
event_with (Bad bad) n = (_, refl)
event_with (Change edit) n = (_, refl)
event_with (Begin c mech brought) n = (_, refl)
event_with (Name1 c claim) n = (_, refl)
event_with (Name2 c) n = (_, refl)
event_with (Check1 c evidence) n = (_, refl)
event_with (Check2 c) n = (_, refl)
event_with (Authorize c) n = (_, refl)
event_with (Allows c wanted) n = (_, refl)
event_with (Succeed c) n = (_, refl)
event_with (Fail c) n = (_, refl)
event_with (Close c) n = (_, refl)

-- what carries a serial goes on carrying one
still_carried : (o : Option ℕ) (n : ℕ) → (k : ℕ) × (option_or o (Some n) ≡ Some k)
still_carried None n = (n, refl)
still_carried (Some k) n = (k, refl)

serves_with : (given : Given) (n : ℕ) (parts : List Part) → Serves given (Some n) parts
serves_with given n [] = tt
serves_with given n (part ∷ rest) =
    let e = event_with part n in (
      e.0,
      e.1,
      λ m accepted.
          let s = step given m e.0 in
          let k = still_carried (serial_given (carrier e.0) s.0 s.1.live) n in
          subst (λ o. Serves given o rest) (sym k.1) (serves_with given k.0 rest),
    )

-- an accepted name1 gives its login's serial
name1_gives : (k : Known) (live : Live) (c : ℕ) (claim : Claim)
    → (let a = answered k live (events.Name1 c claim) c in is_accepted a.outcome ≡ true → (n : ℕ) × (serial_given (Some c) a.outcome a.live ≡ Some n))
unfolding answered
name1_gives k live c claim = by_found (login_of live.logins c)
  where
    Gives : Answered → Type 0
    Gives a = is_accepted a.outcome ≡ true → (n : ℕ) × (serial_given (Some c) a.outcome a.live ≡ Some n)

    by_naming : (login : KnownLogin) (o : Result Pinned Outcome) → naming k login.mech claim ≡ o
        → (let a = carried_out live (events.Name1 c claim) c login (pinned_or o) in is_accepted a.outcome ≡ true → (n : ℕ) × (serial_given (Some c) a.outcome a.live ≡ Some n))
    by_naming login (Ok pin) e accepted = (login.serial, rw (itself_with live.logins c _) refl)
    by_naming login (Err refusal) e accepted = absurd (none (sym (naming_refuses k login.mech claim refusal e) ∙ accepted))
      where
        none : false ≡ true → ⊥
        none h = cc

    by_stage : (login : KnownLogin) (stage : KnownStage)
        → (let a = carried_out live (events.Name1 c claim) c login (name1 k login claim stage) in is_accepted a.outcome ≡ true → (n : ℕ) × (serial_given (Some c) a.outcome a.live ≡ Some n))
    by_stage login Fresh accepted = by_naming login (naming k login.mech claim) refl accepted
    by_stage login (Loading p) accepted = cc
    by_stage login (Named p key) accepted = cc
    by_stage login (Checking p key e) accepted = cc
    by_stage login (Proved p) accepted = cc
    by_stage login (Authorized p) accepted = cc
    by_stage login (Complete p) accepted = cc
    by_stage login Failed accepted = cc

    by_found : (o : Option KnownLogin)
        → (let a = answered_for k live (events.Name1 c claim) c o in is_accepted a.outcome ≡ true → (n : ℕ) × (serial_given (Some c) a.outcome a.live ≡ Some n))
    by_found None accepted = cc
    by_found (Some login) accepted = by_stage login login.stage accepted

-- and so does an accepted check1 of a line without one
check1_gives : (k : Known) (live : Live) (c : ℕ) (evidence : Evidence)
    → (let a = answered k live (events.Check1 c None evidence) c in is_accepted a.outcome ≡ true → (n : ℕ) × (serial_given (Some c) a.outcome a.live ≡ Some n))
unfolding answered
check1_gives k live c evidence = by_found (login_of live.logins c)
  where
    by_refusal : (login : KnownLogin) (p : Pinned) (key : Unit {0}) (o : Option Outcome) → shown_refusal live.nonces evidence ≡ o
        → (let a = carried_out live (events.Check1 c None evidence) c login (shown_or evidence (Named p key) o) in
        is_accepted a.outcome ≡ true → (n : ℕ) × (serial_given (Some c) a.outcome a.live ≡ Some n))
    by_refusal login p key None is accepted = (login.serial, rw (itself_with live.logins c _) refl)
    by_refusal login p key (Some refusal) is accepted = absurd (none (sym (shown_refuses live.nonces evidence refusal is) ∙ accepted))
      where
        none : false ≡ true → ⊥
        none h = cc

    by_test : (login : KnownLogin) (p : Pinned) (key : Unit {0}) (b : Bool)
        → (let a = carried_out live (events.Check1 c None evidence) c login
        (cond {A = Reply} b (shown_or evidence (Named p key) (shown_refusal live.nonces evidence)) (Stays (outcomes.Mechanism login.mech))) in
        is_accepted a.outcome ≡ true → (n : ℕ) × (serial_given (Some c) a.outcome a.live ≡ Some n))
    by_test login p key true accepted = by_refusal login p key (shown_refusal live.nonces evidence) refl accepted
    by_test login p key false accepted = cc

    by_stage : (login : KnownLogin) (stage : KnownStage)
        → (let a = carried_out live (events.Check1 c None evidence) c login (check1 live.nonces login evidence stage) in is_accepted a.outcome ≡ true → (n : ℕ) × (serial_given (Some c) a.outcome a.live ≡ Some n))
    by_stage login (Named p key) accepted = by_test login p key (is_evidence_of login.mech evidence) accepted
    by_stage login Fresh accepted = cc
    by_stage login (Loading p) accepted = cc
    by_stage login (Checking p key e) accepted = cc
    by_stage login (Proved p) accepted = cc
    by_stage login (Authorized p) accepted = cc
    by_stage login (Complete p) accepted = cc
    by_stage login Failed accepted = cc

    by_found : (o : Option KnownLogin)
        → (let a = answered_for k live (events.Check1 c None evidence) c o in is_accepted a.outcome ≡ true → (n : ℕ) × (serial_given (Some c) a.outcome a.live ≡ Some n))
    by_found None accepted = cc
    by_found (Some login) accepted = by_stage login login.stage accepted

-- the first part of a line needs no serial, and gives one to those behind it
pub serves_line : (given : Given) (line : ScriptLine) → Serves given None (parts_of line)
unfolding step
serves_line given (Err (errors.Bad actor bad)) = (_, refl, λ m accepted. tt)
serves_line given (Ok command) = by_verb command.verb
  where
    by_verb : (verb : Verb) → Serves given None (parts_by verb)
    by_verb (verbs.Change edit) = (_, refl, λ m accepted. tt)
    by_verb (verbs.Begin c mech brought) = (_, refl, λ m accepted. tt)
    by_verb (verbs.Plain c message) = (
      _,
      refl,
      λ m accepted.
          let gives = name1_gives (known given m) m.live c (claims.Plain message.authzid message.name) accepted in
          subst (λ o. Serves given (option_or o None) (Name2 c ∷ Check1 c (evidences.Plain message.password) ∷ Check2 c ∷ [])) (sym gives.1)
          (serves_with given gives.0 (Name2 c ∷ Check1 c (evidences.Plain message.password) ∷ Check2 c ∷ [])),
    )
    by_verb (verbs.First c message) = (
      _,
      refl,
      λ m accepted.
          let gives = name1_gives (known given m) m.live c (claims.Scram message) accepted in
          subst (λ o. Serves given (option_or o None) (Name2 c ∷ [])) (sym gives.1) (serves_with given gives.0 (Name2 c ∷ [])),
    )
    by_verb (verbs.Last c message) = (
      _,
      refl,
      λ m accepted.
          let gives = check1_gives (known given m) m.live c (evidences.Scram message) accepted in
          subst (λ o. Serves given (option_or o None) (Check2 c ∷ [])) (sym gives.1) (serves_with given gives.0 (Check2 c ∷ [])),
    )
    by_verb (verbs.Digest c method target reply) = (
      _,
      refl,
      λ m accepted.
          let gives = name1_gives (known given m) m.live c (claims.Digest reply.alg reply.name) accepted in
          let rest = Name2 c ∷ Check1 c (evidences.Digest reply method target) ∷ Check2 c ∷ [] in
          subst (λ o. Serves given (option_or o None) rest) (sym gives.1) (serves_with given gives.0 rest),
    )
    by_verb (verbs.Authorize c) = (_, refl, λ m accepted. tt)
    by_verb (verbs.Succeed c) = (_, refl, λ m accepted. tt)
    by_verb (verbs.Fail c) = (_, refl, λ m accepted. tt)
    by_verb (verbs.Close c) = (_, refl, λ m accepted. tt)
    by_verb (verbs.Allows c wanted) = (_, refl, λ m accepted. tt)
