-- What the machine answers to each step of a login: one definition for each event, by the stages of the table of states.
use Rattle.std.specs.Prelude.{ℕ, List, ◌==◌, Bool, true, false, not, if◌then◌else◌, length, Option, Some, None, is_some, Result, Ok, Err}
use Rattle.std.specs.Option.{ok_or, option_and_then}
use Rattle.std.specs.Str.{bytes_eq}
use Rattle.ely_base.specs.Refused.{◌>>=◌, refused_as}
use Rattle.ely_row.specs.declared.mech.Mech.{Mech}
use Rattle.ely_row.specs.declared.mech.Mech.TheVariants as mechs
use Rattle.ely_pipeline.specs.declared.place.Place.{Place}
use Rattle.ely_row.specs.Rows.{Row}
use Rattle.ely_login.specs.declared.claim.Claim.{Claim}
use Rattle.ely_login.specs.declared.claim.Claim.TheVariants as claims
use Rattle.ely_login.specs.declared.claim.Evidence.{Evidence}
use Rattle.ely_login.specs.declared.claim.Evidence.TheVariants as evidences
use Rattle.ely_login.specs.declared.outcome.Outcome.{Outcome}
use Rattle.ely_login.specs.declared.outcome.Outcome.TheVariants as outcomes
use Rattle.ely_login.specs.declared.word.StateWord.{StateWord}
use Rattle.ely_login.specs.declared.word.StateWord.TheVariants as states
use Rattle.ely_login.specs.Outcomes.{is_accepted}
use Rattle.ely_cred.specs.Keys.{chosen}
use Rattle.ely_digest_msg.specs.declared.header.DigestAlg.{DigestAlg}
use Rattle.ely_digest_msg.specs.declared.header.DigestAlg.TheVariants as algs
use Rattle.ely_digest.specs.declared.nonce_table.SpendFault.{SpendFault}
use Rattle.ely_digest.specs.declared.nonce_table.SpendFault.TheVariants as faults
use Rattle.ely_digest.specs.Nonces.{Nonces, last_count, with_count, spending}
use Rattle.ely_context.specs.declared.stage.Stage.TheVariants.{Fresh, Loading, Named, Checking, Proved, Authorized, Complete}
use Rattle.ely_context.specs.ContextTable as table
use Rattle.ely_domain.specs.declared.event.Event.{Event}
use Rattle.ely_domain.specs.declared.event.Event.TheVariants as events
use Rattle.ely_domain.specs.Given.{place_of}
use Rattle.ely_domain.specs.Identities.{Known, ident, key_at, roles, grants, to_log_in}
use Rattle.ely_domain.specs.Logins.{Pinned, KnownStage, KnownLogin}
use Rattle.ely_domain.specs.Verdicts.{exchange, server_first, verdict}

-- what a step does to a login that is there: it isn't due at the login's stage, it leaves the login as it is, or it moves it
pub data Reply : Type 0 where
  NotDue : Reply
  Stays : (outcome : Outcome) → Reply
  Moves : (outcome : Outcome) (stage : KnownStage) → Reply

-- the login moves as the table says, where the table has a transition
abbrev pub moves : Outcome → Option KnownStage → Reply
moves outcome None = NotDue
moves outcome (Some stage) = Moves outcome stage

-- the name that a claim is about
abbrev pub claimed_name : Claim → List ℕ
claimed_name (claims.Plain authzid name) = name
claimed_name (claims.Scram first) = first.name
claimed_name (claims.Digest alg name) = name

-- an authorization name, where there is one, is another than the name
abbrev pub differs : Option (List ℕ) → List ℕ → Bool
differs None name = false
differs (Some authzid) name = not (bytes_eq authzid name)

-- the claim asks to act as another than it names
abbrev pub is_other : Claim → Bool
is_other (claims.Plain authzid name) = differs authzid name
is_other (claims.Scram first) = differs first.authzid first.name
is_other (claims.Digest alg name) = false

-- the hash function that a header names is that of the mechanism
abbrev pub is_alg_of : Mech → DigestAlg → Bool
is_alg_of mechs.Digest algs.Md5 = true
is_alg_of mechs.DigestSha256 algs.Sha256 = true
is_alg_of _ _ = false

-- the claim is of that mechanism
abbrev pub is_claim_of : Mech → Claim → Bool
is_claim_of mechs.Plain (claims.Plain authzid name) = true
is_claim_of mechs.ScramSha1 (claims.Scram first) = true
is_claim_of mechs.ScramSha256 (claims.Scram first) = true
is_claim_of mech (claims.Digest alg name) = is_alg_of mech alg
is_claim_of _ _ = false

-- the evidence is of that mechanism
abbrev pub is_evidence_of : Mech → Evidence → Bool
is_evidence_of mechs.Plain (evidences.Plain password) = true
is_evidence_of mechs.ScramSha1 (evidences.Scram last) = true
is_evidence_of mechs.ScramSha256 (evidences.Scram last) = true
is_evidence_of mech (evidences.Digest reply method target) = is_alg_of mech reply.alg
is_evidence_of _ _ = false

-- nothing, or the refusal where the test fails
abbrev pub require : Bool → Outcome → Result (Unit {0}) Outcome
require holds refusal = if holds then Ok tt else Err refusal

-- the identity of a place now, one of whose credentials serves the mechanism
unfoldable pub serving : Known → Mech → Place → Result Row Outcome
serving known mech place = do
  identity ← ok_or (ident known (length known.edits) place) outcomes.Unknown
  credential ← ok_or (chosen mech identity) outcomes.NoCredential
  Ok identity

-- what a claim pins now, or the first cause against it
unfoldable pub naming : Known → Mech → Claim → Result Pinned Outcome
naming known mech claim = do
  form ← require (is_claim_of mech claim) (outcomes.Mechanism mech)
  own ← require (not (is_other claim)) outcomes.Authzid
  place ← refused_as outcomes.Pipe (place_of known.given (claimed_name claim))
  identity ← serving known mech place
  Ok (record { version = length known.edits; place = place; claim = claim })

-- a fresh login with that pin is loading, or it is told the cause and stays fresh
abbrev pub pinned_or : Result Pinned Outcome → Reply
pinned_or (Ok pin) = moves (outcomes.Pinned pin.version) (table.name1 pin Fresh)
pinned_or (Err refusal) = Stays refusal

-- Name1: a fresh login is named, unless something stands against it
abbrev pub name1 : Known → KnownLogin → Claim → KnownStage → Reply
name1 known login claim Fresh = pinned_or (naming known login.mech claim)
name1 known login claim stage = NotDue

-- the server's first message, where there is one
abbrev pub announced : Option (List ℕ) → Outcome
announced None = outcomes.Named
announced (Some text) = outcomes.Challenge text

-- what a login is told whose key is there: the server's first message for the key of the pinned version
abbrev pub told_of_key : Known → KnownLogin → Pinned → Outcome
told_of_key known login pin =
    let said = exchange known.given login.nonce pin.claim in
    announced (option_and_then (server_first said) (key_at known login.mech pin.version pin.place))

-- Name2: the key of what was pinned is there
abbrev pub name2 : Known → KnownLogin → KnownStage → Reply
name2 known login (Loading pin) = moves (told_of_key known login pin) (table.name2 tt (Loading pin))
name2 known login stage = NotDue

-- why a nonce isn't used with a count: it isn't known, or it was used with that count or a greater one
abbrev pub use_refusal : Result (Unit {0}) SpendFault → Option Outcome
use_refusal (Ok used) = None
use_refusal (Err faults.Stale) = Some outcomes.Stale
use_refusal (Err (faults.Replayed last)) = Some (outcomes.Replayed last)

-- the same of what is shown; a header of Digest uses the nonce that it names, which need not be the login's own
abbrev pub shown_refusal : Nonces → Evidence → Option Outcome
shown_refusal nonces (evidences.Digest reply method target) = use_refusal (spending (last_count nonces reply.nonce) reply.nc)
shown_refusal nonces _ = None

-- the login has shown something, or it is told why that isn't accepted
abbrev pub shown_or : Evidence → KnownStage → Option Outcome → Reply
shown_or evidence stage None = moves outcomes.Fine (table.check1 evidence stage)
shown_or evidence stage (Some refusal) = Stays refusal

-- Check1: a named login shows something of its mechanism
abbrev pub check1 : Nonces → KnownLogin → Evidence → KnownStage → Reply
check1 nonces login evidence (Named pin key) =
    if is_evidence_of login.mech evidence
    then shown_or evidence (Named pin key) (shown_refusal nonces evidence)
    else Stays (outcomes.Mechanism login.mech)
check1 nonces login evidence stage = NotDue

-- the nonces after something that was shown: the one that a header names has the header's count
abbrev pub used : Nonces → Evidence → Nonces
used nonces (evidences.Digest reply method target) = with_count nonces reply.nonce reply.nc
used nonces _ = nonces

-- the nonces after a step with this outcome; a use counts whatever the verdict says later
abbrev pub used_by : Nonces → Event → Outcome → Nonces
used_by nonces (events.Check1 c serial evidence) outcomes.Fine = used nonces evidence
used_by nonces _ _ = nonces

-- Check2: what was shown is judged with the key of what was pinned
abbrev pub check2 : Known → KnownLogin → KnownStage → Reply
check2 known login (Checking pin key evidence) =
    let said = exchange known.given login.nonce pin.claim in
    let judged = verdict said (key_at known login.mech pin.version pin.place) evidence in
    moves judged (table.check2 (is_accepted judged) (Checking pin key evidence))
check2 known login stage = NotDue

-- Authorize: a proved login may log in, as of the pinned version, or it stays proved
abbrev pub authorize : Known → KnownStage → Reply
authorize known (Proved pin) =
    let granted = grants known pin.version pin.place to_log_in in
    moves (if granted then outcomes.Authorized else outcomes.Denied pin.version) (table.authorize granted (Proved pin))
authorize known stage = NotDue

-- whether a permission is granted
abbrev pub yes_or_no : Bool → Outcome
yes_or_no granted = if granted then outcomes.Yes else outcomes.No

-- Allows: a complete login is told whether it has the permission, as of the pinned version
abbrev pub allows : Known → List ℕ → KnownStage → Reply
allows known wanted (Complete pin) = Stays (yes_or_no (grants known pin.version pin.place wanted))
allows known wanted stage = NotDue

-- Succeed: an authorized login is complete, and is told who it is, as of the pinned version
abbrev pub succeed : Known → KnownStage → Reply
succeed known (Authorized pin) =
    moves (outcomes.Established pin.version pin.place (roles known pin.version pin.place)) (table.succeed (Authorized pin))
succeed known stage = NotDue

-- Fail: a login ends that is neither complete nor failed
abbrev pub fail : KnownStage → Reply
fail stage = moves outcomes.Fine (table.fail stage)

-- what a step does to the login that it is on
abbrev pub reply : Known → Nonces → KnownLogin → Event → Reply
reply known nonces login (events.Name1 c claim) = name1 known login claim login.stage
reply known nonces login (events.Name2 c serial brought) = name2 known login login.stage
reply known nonces login (events.Check1 c serial evidence) = check1 nonces login evidence login.stage
reply known nonces login (events.Check2 c serial brought) = check2 known login login.stage
reply known nonces login (events.Authorize c) = authorize known login.stage
reply known nonces login (events.Allows c wanted) = allows known wanted login.stage
reply known nonces login (events.Succeed c) = succeed known login.stage
reply known nonces login (events.Fail c) = fail login.stage
reply known nonces login _ = NotDue

-- the serial that a step carries: it is one of the open with that serial, and of no later open of the same id
abbrev pub carried : Event → Option ℕ
carried (events.Name2 c serial brought) = Some serial
carried (events.Check1 c serial evidence) = serial
carried (events.Check2 c serial brought) = Some serial
carried _ = None

-- the login has the serial that is carried, if one is
abbrev pub is_carried : Option ℕ → ℕ → Bool
is_carried None serial = true
is_carried (Some carried) serial = serial == carried

-- the answer where a login's stage isn't the one that the step is due at: it is gone on, or its state is told
abbrev pub not_due : Event → StateWord → Outcome
not_due (events.Name2 c serial brought) state = outcomes.Gone
not_due (events.Check2 c serial brought) state = outcomes.Gone
not_due _ state = outcomes.State state

-- the answer where there is no login
abbrev pub not_there : Event → Outcome
not_there event = if is_some (carried event) then outcomes.Gone else outcomes.State states.Absent
