-- Who gets in, said of a history's own events: what a naming pins, which check is passed, which login is authorized, who is
-- established, and what he may do.
use Rattle.std.specs.Prelude.{ℕ, ◌≡◌, Bool, true, false, if◌then◌else◌, List, ◌∷◌, ◌++◌, length, fold, Option, Some, None, IsSome, Result, Ok, Err}
use Rattle.std.specs.List.{filter_map}
use Rattle.std.specs.Option.{option_or}
use Rattle.ely_row.specs.declared.edit.Edit.{Edit}
use Rattle.ely_row.specs.declared.mech.Mech.{Mech}
use Rattle.ely_pipeline.specs.declared.place.PipeFault.{PipeFault}
use Rattle.ely_pipeline.specs.declared.place.Place.{Place}
use Rattle.ely_login.specs.declared.claim.Claim.{Claim}
use Rattle.ely_login.specs.declared.claim.Evidence.{Evidence}
use Rattle.ely_login.specs.declared.outcome.Outcome.{Outcome}
use Rattle.ely_login.specs.declared.outcome.Outcome.TheVariants as outcomes
use Rattle.ely_login.specs.declared.word.StepWord.TheVariants as words
use Rattle.ely_login.specs.Outcomes.{is_accepted}
use Rattle.ely_domain.specs.declared.event.Event.{Event}
use Rattle.ely_domain.specs.declared.event.Event.TheVariants as events
use Rattle.ely_domain.specs.Events.{word_of, is_on}
use Rattle.ely_domain.specs.Given.{Given, start, place_of, nonce_of}
use Rattle.ely_history.specs.Histories.{is_established, IsEstablishedWhereReady}
use Rattle.ely_domain.specs.Identities.{Known, ident, key_at, roles, grants, to_log_in}
use Rattle.ely_history.specs.Lines.{Taken}
use Rattle.ely_domain.specs.Logins.{Pinned}
use Rattle.ely_domain.specs.Steps.{claimed_name, is_other, yes_or_no}
use Rattle.ely_domain.specs.Verdicts.{exchange, is_proof_of}

-- the edit that an accepted change made
abbrev pub edit_made : Event → Outcome → Option Edit
edit_made (events.Change edit) (outcomes.Changed version) = Some edit
edit_made _ _ = None

-- the accepted edits of a history behind those with which the journal begins
abbrev pub edits_of : Given → List Taken → List Edit
edits_of given h = start given ++ filter_map (λ t. edit_made t.event t.outcome) h

-- what the edits of a history say
abbrev pub known_by : Given → List Taken → Known
known_by given h = record { given = given; edits = edits_of given h }

-- what an accepted open says: the mechanism and the nonce of the login
pub record Opening : Type 0 where
  pub mech : Mech
  pub nonce : List ℕ

-- what an accepted open says of its login
abbrev pub opened_by : Given → Event → Outcome → Option Opening
opened_by given (events.Begin c mech brought) (outcomes.Opened serial challenge) =
    Some (record { mech = mech; nonce = nonce_of given mech serial brought })
opened_by given _ _ = None

-- the place that was found, if one was
abbrev pub place_or_none : Result Place PipeFault → Option Place
place_or_none (Ok place) = Some place
place_or_none (Err fault) = None

-- the pin of a place that was found, for a claim
abbrev pub pin_at : ℕ → Claim → Option Place → Option Pinned
pin_at version claim None = None
pin_at version claim (Some place) = Some (record { version = version; place = place; claim = claim })

-- what an accepted name1 pins: its outcome's version, the place of the name that it claims, and the claim
abbrev pub pinned_by : Given → Event → Outcome → Option Pinned
pinned_by given (events.Name1 c claim) (outcomes.Pinned version) =
    pin_at version claim (place_or_none (place_of given (claimed_name claim)))
pinned_by given _ _ = None

-- what an accepted check1 shows
abbrev pub evidence_shown : Event → Outcome → Option Evidence
evidence_shown (events.Check1 c serial evidence) outcomes.Fine = Some evidence
evidence_shown _ _ = None

-- the last of what the accepted steps on c say, read of each step in that way
abbrev pub last_on : {A : Type 0} → (Event → Outcome → Option A) → ℕ → List Taken → Option A
last_on read c h =
    fold (λ found t. if is_on c t.event then option_or (read t.event t.outcome) found else found) None h

-- what a login's own steps said of it: its open, the pin of its naming, and the evidence of its check
pub record Said : Type 0 where
  pub opening : Option Opening
  pub pin : Option Pinned
  pub evidence : Option Evidence

-- what the accepted steps on c said
abbrev pub said_of : Given → ℕ → List Taken → Said
said_of given c h = record {
  opening = last_on (opened_by given) c h;
  pin = last_on (pinned_by given) c h;
  evidence = last_on evidence_shown c h;
}

-- the evidence proves the key that the pinned version's identity has for the mechanism
abbrev pub is_shown : Known → Option Opening → Option Pinned → Option Evidence → Bool
is_shown known (Some opening) (Some pin) (Some evidence) =
    is_proof_of (exchange known.given opening.nonce pin.claim) (key_at known opening.mech pin.version pin.place) evidence
is_shown known _ _ _ = false

-- the same of what a login said
abbrev pub has_shown : Known → Said → Bool
has_shown known said = is_shown known said.opening said.pin said.evidence

-- the pinned version grants the permission
abbrev pub is_granted : Known → Option Pinned → List ℕ → Bool
is_granted known None wanted = false
is_granted known (Some pin) wanted = grants known pin.version pin.place wanted

-- the login went on: no verdict was asked for
abbrev pub is_gone : Outcome → Bool
is_gone outcomes.Gone = true
is_gone _ = false

-- the login's state is told: no verdict was asked for
abbrev pub is_state : Outcome → Bool
is_state (outcomes.State state) = true
is_state _ = false

-- What is named now: the version is how many edits were accepted before, the name is the client's own, and it stands for a
-- place that has an identity.
pub record IsNamedNow (known : Known) (claim : Claim) (outcome : Outcome) : Type 0 where
  pub place : Place
  pub version : outcome ≡ outcomes.Pinned (length known.edits)
  pub own : is_other claim ≡ false
  pub place_is : place_of known.given (claimed_name claim) ≡ Ok place
  pub exists : IsSome (ident known (length known.edits) place)

-- An accepted name1 pins what is named now: no naming is of an older or a later version.
abbrev pub IsPinnedAsOfNow : Given → List Taken → Type 0
IsPinnedAsOfNow given h = (prefix : List Taken) (t : Taken) (back : List Taken) (c : ℕ) (claim : Claim)
    → h ≡ prefix ++ t ∷ back → t.event ≡ events.Name1 c claim → is_accepted t.outcome ≡ true
    → IsNamedNow (known_by given prefix) claim t.outcome

-- A check of c that isn't gone is passed exactly where the evidence of the last accepted check1 of c proves the key that
-- the identity of the version pinned by its last accepted name1 has for its mechanism.
abbrev pub IsProvedWhereShown : Given → List Taken → Type 0
IsProvedWhereShown given h = (prefix : List Taken) (t : Taken) (back : List Taken) (c : ℕ)
    → h ≡ prefix ++ t ∷ back → word_of t.event ≡ words.Check2 → is_on c t.event ≡ true → is_gone t.outcome ≡ false
    → is_accepted t.outcome ≡ has_shown (known_by given prefix) (said_of given c prefix)

-- An authorize of c that isn't refused with a state is accepted exactly where the pinned version grants the permission.
abbrev pub IsAuthorizedWhereGranted : Given → List Taken → Type 0
IsAuthorizedWhereGranted given h = (prefix : List Taken) (t : Taken) (back : List Taken) (c : ℕ)
    → h ≡ prefix ++ t ∷ back → word_of t.event ≡ words.Authorize → is_on c t.event ≡ true → is_state t.outcome ≡ false
    → is_accepted t.outcome ≡ is_granted (known_by given prefix) (last_on (pinned_by given) c prefix) to_log_in

-- An allows of c that isn't refused with a state says yes exactly where the pinned version grants what is wanted.
abbrev pub IsAllowedWhereGranted : Given → List Taken → Type 0
IsAllowedWhereGranted given h = (prefix : List Taken) (t : Taken) (back : List Taken) (c : ℕ) (wanted : List ℕ)
    → h ≡ prefix ++ t ∷ back → t.event ≡ events.Allows c wanted → is_state t.outcome ≡ false
    → t.outcome ≡ yes_or_no (is_granted (known_by given prefix) (last_on (pinned_by given) c prefix) wanted)

-- what is established: the version and the place of the pin, and the roles of that version
abbrev pub is_pinned : Known → Option Pinned → Outcome → Type 0
is_pinned known (Some pin) (outcomes.Established version place found) =
    (version ≡ pin.version) × (place ≡ pin.place) × (found ≡ roles known pin.version pin.place)
is_pinned known _ _ = ⊥

-- The login showed the proof, has the permission, and is told who was pinned, all as of the pinned version.
pub record HasRight (known : Known) (said : Said) (outcome : Outcome) : Type 0 where
  pub shown : has_shown known said ≡ true
  pub granted : is_granted known said.pin to_log_in ≡ true
  pub pinned : is_pinned known said.pin outcome

-- Whoever a succeed of c establishes has the right to it.
abbrev pub IsEstablishedByRight : Given → List Taken → Type 0
IsEstablishedByRight given h = (prefix : List Taken) (t : Taken) (back : List Taken) (c : ℕ)
    → h ≡ prefix ++ t ∷ back → word_of t.event ≡ words.Succeed → is_on c t.event ≡ true → is_established t.outcome ≡ true
    → HasRight (known_by given prefix) (said_of given c prefix) t.outcome

-- Those get in who should, and no one else: a naming pins the version of its moment, a login is established exactly where it is
-- ready to succeed, and then it showed the proof and has the permission, both as of the version that it pinned; what it may do
-- is of that version too.
pub record IsByRight (given : Given) (h : List Taken) : Type 0 where
  pub established : IsEstablishedWhereReady h
  pub pinned : IsPinnedAsOfNow given h
  pub proved : IsProvedWhereShown given h
  pub authorized : IsAuthorizedWhereGranted given h
  pub by_right : IsEstablishedByRight given h
  pub allowed : IsAllowedWhereGranted given h
