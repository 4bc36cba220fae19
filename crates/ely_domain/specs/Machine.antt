-- The cacheless machine: what each event answers, computed anew from the list of accepted edits.
use Rattle.std.specs.Prelude.{ℕ, ◌+◌, Bool, false, if◌then◌else◌, nat_le, List, [], ◌∷◌, ◌++◌, length, Option, Some, None, is_some}
use Rattle.ely_row.specs.declared.edit.Edit.{Edit}
use Rattle.ely_row.specs.declared.edit.EditFault.{EditFault}
use Rattle.ely_row.specs.declared.mech.Mech.{Mech}
use Rattle.ely_row.specs.declared.mech.Mech.TheVariants as mechs
use Rattle.ely_digest_msg.specs.declared.header.DigestAlg.{DigestAlg}
use Rattle.ely_digest_msg.specs.declared.header.DigestAlg.TheVariants as algs
use Rattle.ely_digest_msg.specs.Challenges.{challenge_of}
use Rattle.ely_digest.specs.Nonces.{Nonces, last_count, with_nonce}
use Rattle.ely_table.specs.Faults.{fault}
use Rattle.ely_login.specs.declared.outcome.Outcome.{Outcome}
use Rattle.ely_login.specs.declared.outcome.Outcome.TheVariants as outcomes
use Rattle.ely_login.specs.declared.word.StateWord.TheVariants as states
use Rattle.ely_context.specs.Stages.{state_of, at_stage}
use Rattle.ely_context.specs.ContextTable as table
use Rattle.ely_context.specs.Logins.{login_of, with_login, without_login}
use Rattle.ely_domain.specs.declared.event.Event.{Event}
use Rattle.ely_domain.specs.declared.event.Event.TheVariants as events
use Rattle.ely_domain.specs.Given.{Given, realms, start, nonce_of}
use Rattle.ely_domain.specs.Identities.{Known}
use Rattle.ely_domain.specs.Logins.{KnownLogin, Live}
use Rattle.ely_domain.specs.Steps.{Reply, NotDue, Stays, Moves, reply, used_by, carried, is_carried, not_due, not_there}

-- the accepted edits, the live logins, and how many opens were accepted
pub record Machine : Type 0 where
  pub edits : List Edit
  pub live : Live
  pub opened : ℕ

-- no login is live, and no nonce was issued; 4,096 are known at once, and then the oldest is forgotten for a new one
abbrev pub no_live : Live
no_live = record { logins = []; nonces = record { limit = 4096; issued = [] } }

-- before the first event
abbrev pub first_machine : Given → Machine
first_machine given = record { edits = start given; live = no_live; opened = 0 }

-- what a step may read
abbrev pub known : Given → Machine → Known
known given m = record { given = given; edits = m.edits }

-- an answer to a step of a login, and the live logins after it
pub record Answered : Type 0 where
  pub outcome : Outcome
  pub live : Live

-- the live logins with that one under that id, and these nonces
abbrev pub put_login : Live → Nonces → ℕ → KnownLogin → Live
put_login live nonces c login = record { logins = with_login live.logins c login; nonces = nonces }

-- a reply, carried out on the login that it is of
abbrev pub carried_out : Live → Event → ℕ → KnownLogin → Reply → Answered
carried_out live event c login NotDue = record { outcome = not_due event (state_of login.stage); live = live }
carried_out live event c login (Stays outcome) = record { outcome = outcome; live = live }
carried_out live event c login (Moves outcome stage) =
    record { outcome = outcome; live = put_login live (used_by live.nonces event outcome) c (at_stage login stage) }

-- the answer to a step on the login with this id, where this is found under it
abbrev pub answered_for : Known → Live → Event → ℕ → Option KnownLogin → Answered
answered_for known live event c None = record { outcome = not_there event; live = live }
answered_for known live event c (Some login) =
    if is_carried (carried event) login.serial
    then carried_out live event c login (reply known live.nonces login event)
    else record { outcome = outcomes.Gone; live = live }

-- the answer to a step on the login with this id
unfoldable pub answered : Known → Live → Event → ℕ → Answered
answered known live event c = answered_for known live event c (login_of live.logins c)

-- an answer of the machine, with the machine after it
abbrev pub Stepped : Type 0
Stepped = Outcome × Machine

-- a step of a login leaves the edits and the count of opens
abbrev pub with_answered : Machine → Answered → Stepped
with_answered m a = (a.outcome, record { edits = m.edits; live = a.live; opened = m.opened })

-- Change: an edit, where nothing stands against it, becomes the last of the journal
abbrev pub change : Machine → Edit → Option EditFault → Stepped
change m edit None =
    (outcomes.Changed (length m.edits + 1), record { edits = m.edits ++ edit ∷ []; live = m.live; opened = m.opened })
change m edit (Some fault) = (outcomes.Refused fault, m)

-- a login that is opened now, under the next serial
abbrev pub opened_login : Given → Machine → Mech → Option (List ℕ) → KnownLogin
opened_login given m mech brought = table.begin (m.opened + 1) mech (nonce_of given mech (m.opened + 1) brought)

-- the hash function of Digest that a mechanism names
abbrev pub alg_of : Mech → Option DigestAlg
alg_of mechs.Digest = Some algs.Md5
alg_of mechs.DigestSha256 = Some algs.Sha256
alg_of mech = None

-- a nonce of that mechanism, where it issues one, is known already
abbrev pub is_used : Nonces → List ℕ → Option DigestAlg → Bool
is_used nonces nonce None = false
is_used nonces nonce (Some alg) = is_some (last_count nonces nonce)

-- why no login with that nonce can be opened under an id: it is live, or 4,096 are, or Digest knows the nonce
abbrev pub opening_fault : Live → ℕ → List ℕ → Option DigestAlg → Option Outcome
opening_fault live c nonce alg =
    if is_some (login_of live.logins c) then Some outcomes.InUse
    else (if nat_le 4096 (length live.logins) then Some outcomes.ContextsFull
    else (if is_used live.nonces nonce alg then Some outcomes.NonceUsed else None))

-- the nonces after that one was issued, where the mechanism issues one
abbrev pub issued : Nonces → List ℕ → Option DigestAlg → Nonces
issued nonces nonce None = nonces
issued nonces nonce (Some alg) = with_nonce nonces nonce

-- the challenge that an open answers: that of Digest (RFC 7616 section 3.3)
abbrev pub challenge : Given → List ℕ → Option DigestAlg → Option (List ℕ)
challenge given nonce None = None
challenge given nonce (Some alg) = Some (challenge_of given.config.digest_realm alg nonce)

-- a login is opened under an id, or this stands against it
abbrev pub opened_or : Given → Machine → ℕ → KnownLogin → Option Outcome → Stepped
opened_or given m c login None = (
  outcomes.Opened (m.opened + 1) (challenge given login.nonce (alg_of login.mech)),
  record {
    edits = m.edits;
    live = put_login m.live (issued m.live.nonces login.nonce (alg_of login.mech)) c login;
    opened = m.opened + 1;
  },
)
opened_or given m c login (Some fault) = (fault, m)

-- Begin: a fresh login, where nothing stands against it
abbrev pub begin : Given → Machine → ℕ → Mech → Option (List ℕ) → Stepped
begin given m c mech brought =
    let login = opened_login given m mech brought in
    opened_or given m c login (opening_fault m.live c login.nonce (alg_of login.mech))

-- Close: a login ends in whatever state it is; where there is none, there is nothing to take away
unfoldable pub closed : Live → ℕ → Answered
closed live c = record {
  outcome = (if is_some (login_of live.logins c) then outcomes.Fine else outcomes.State states.Absent);
  live = record { logins = without_login live.logins c; nonces = live.nonces };
}

-- one step of the machine
unfoldable pub step : Given → Machine → Event → Stepped
step given m (events.Bad bad) = (outcomes.Bad bad, m)
step given m (events.Change edit) = change m edit (fault (realms given) given.limit m.edits edit)
step given m (events.Begin c mech brought) = begin given m c mech brought
step given m (events.Name1 c claim) = with_answered m (answered (known given m) m.live (events.Name1 c claim) c)
step given m (events.Name2 c serial brought) = with_answered m (answered (known given m) m.live (events.Name2 c serial brought) c)
step given m (events.Check1 c serial evidence) =
    with_answered m (answered (known given m) m.live (events.Check1 c serial evidence) c)
step given m (events.Check2 c serial brought) = with_answered m (answered (known given m) m.live (events.Check2 c serial brought) c)
step given m (events.Authorize c) = with_answered m (answered (known given m) m.live (events.Authorize c) c)
step given m (events.Allows c wanted) = with_answered m (answered (known given m) m.live (events.Allows c wanted) c)
step given m (events.Succeed c) = with_answered m (answered (known given m) m.live (events.Succeed c) c)
step given m (events.Fail c) = with_answered m (answered (known given m) m.live (events.Fail c) c)
step given m (events.Close c) = with_answered m (closed m.live c)
