-- What the kept contexts stand for, and what they keep.
use Rattle.std.specs.Prelude.{ℕ, ◌≡◌, ◌≤◌, ◌⊎◌, Bool, true, false, List, length, Option, Some, None, IsSome, IfSome, is_some, Result, Ok, Err}
use Rattle.ely_row.specs.declared.mech.Mech.{Mech}
use Rattle.ely_cred.specs.Keys.{chosen}
use Rattle.ely_config.specs.Configs.{Config}
use Rattle.ely_digest.specs.Nonces.{Nonces}
use Rattle.ely_table.specs.Faults.{Tables}
use Rattle.ely_login.specs.declared.claim.Claim.{Claim}
use Rattle.ely_login.specs.declared.outcome.Outcome.{Outcome}
use Rattle.ely_login.specs.declared.outcome.Outcome.TheVariants as outcomes
use Rattle.ely_login.specs.declared.word.StateWord.{StateWord}
use Rattle.ely_context.specs.declared.naming.Naming.{Naming}
use Rattle.ely_context.specs.declared.pin.Pin.{Pin}
use Rattle.ely_context.specs.declared.stage.Stage.TheVariants.{Fresh, Loading, Named, Checking, Proved, Authorized, Complete, Failed}
use Rattle.ely_context.specs.Contexts.{ContextStage, ContextLogin}
use Rattle.ely_context.specs.Stages.{state_of, proved_pin, login_view, at_stage}
use Rattle.ely_context.specs.Logins.{login_of, each_login}
use Rattle.ely_domain.specs.declared.naming.Found.{Found}
use Rattle.ely_domain.specs.declared.prepared.Prepared.{Prepared}
use Rattle.ely_domain.specs.Given.{realms}
use Rattle.ely_domain.specs.Identities.{Known, ident, key_at, roles, grants, to_log_in}
use Rattle.ely_domain.specs.KeptKeys.{is_hit}
use Rattle.ely_domain.specs.Logins.{Pinned, KnownLogin, Live}
use Rattle.ely_domain.specs.declared.event.Event.{Event}
use Rattle.ely_domain.specs.Verdicts.{exchange, server_first}
use Rattle.ely_domain.specs.Steps.{Reply, NotDue, Stays, Moves, naming, is_claim_of, is_evidence_of, reply, carried, is_carried, not_due}

-- what the machine knows of a pin: the row is left out, since it follows from the place and the version
abbrev pub pinned : Pin → Pinned
pinned p = record { version = p.version; place = p.place; claim = p.claim }

-- what the machine knows of a login: the key is left out, since it follows from the pin
abbrev pub seen_login : ContextLogin → KnownLogin
seen_login login = login_view pinned (λ key. tt) login

-- what the machine knows of the live logins, with the nonces
abbrev pub seen_live : List (ℕ × ContextLogin) → Nonces → Live
seen_live logins nonces = record { logins = each_login seen_login logins; nonces = nonces }

-- what a step may read, of the configuration and the tables of a domain
abbrev pub read_of : Config → Tables → Known
read_of config tables = record { given = record { config = config; limit = tables.limit }; edits = tables.journal }

-- the tables are those of the configuration's realms
abbrev pub AreOf : Config → Tables → Type 0
AreOf config tables = tables.realms ≡ realms (read_of config tables).given

-- what succeed hands out for a pin
abbrev pub prepared_for : Known → Pinned → Prepared
prepared_for known pin = record { version = pin.version; place = pin.place; roles = roles known pin.version pin.place }

-- a pin is of a version that was, holds the row of that version, one of whose credentials serves, and is of the mechanism; it
-- holds the key of that row exactly where that was found
pub record IsPin (known : Known) (mech : Mech) (p : Pin) : Type 0 where
  pub past : p.version ≤ length known.edits
  pub row_is : ident known p.version p.place ≡ Some p.row
  pub serves : IsSome (chosen mech p.row)
  pub form : is_claim_of mech p.claim ≡ true
  pub held : IfSome p.held (λ ready. key_at known mech p.version p.place ≡ Some ready)
  pub hit : is_some p.held ≡ is_hit p.found

-- a key is that of what was pinned, with the server's first message for it
pub record IsKey (known : Known) (mech : Mech) (nonce : List ℕ) (p : Pin) (key : Naming) : Type 0 where
  pub ready_is : key_at known mech p.version p.place ≡ Some key.ready
  pub first_is : key.server_first ≡ server_first (exchange known.given nonce p.claim) key.ready

-- what a login of that mechanism and nonce holds at its stage follows from its pin
abbrev pub HoldsIts : Known → Mech → List ℕ → ContextStage → Type 0
HoldsIts known mech nonce Fresh = Unit {0}
HoldsIts known mech nonce (Loading p) = IsPin known mech p
HoldsIts known mech nonce (Named p key) = IsPin known mech p × IsKey known mech nonce p key
HoldsIts known mech nonce (Checking p key evidence) =
    IsPin known mech p × IsKey known mech nonce p key × (is_evidence_of mech evidence ≡ true)
HoldsIts known mech nonce (Proved p) = IsPin known mech p
HoldsIts known mech nonce (Authorized p) = IsPin known mech p
HoldsIts known mech nonce (Complete p) = IsPin known mech p
HoldsIts known mech nonce Failed = Unit {0}

-- an authorized login has its identity ready to be handed out
abbrev pub HasHandout : Known → Option Prepared → ContextStage → Type 0
HasHandout known prepared (Authorized p) = prepared ≡ Some (prepared_for known (pinned p))
HasHandout known prepared stage = Unit {0}

-- a login holds what follows from its pin, and has its identity ready where it is authorized
abbrev pub IsSoundAt : Known → Option Prepared → ContextLogin → Type 0
IsSoundAt known prepared login = HoldsIts known login.mech login.nonce login.stage × HasHandout known prepared login.stage

-- each live login holds what follows from its pin
abbrev pub HoldTheirs : Known → List (ℕ × ContextLogin) → Type 0
HoldTheirs known logins = (c : ℕ) (login : ContextLogin) → login_of logins c ≡ Some login
    → HoldsIts known login.mech login.nonce login.stage

-- whatever was sound of the login before is sound of it after
abbrev pub StaysSound : Known → ContextLogin → ContextLogin → Type 0
StaysSound known old new = (prepared : Option Prepared) → IsSoundAt known prepared old → IsSoundAt known prepared new

-- each live login is sound, with what is kept to be handed out under its id
abbrev pub IsSound : Known → List (ℕ × ContextLogin) → List (ℕ × Prepared) → Type 0
IsSound known logins prepared = (c : ℕ) (login : ContextLogin) → login_of logins c ≡ Some login
    → IsSoundAt known (login_of prepared c) login

-- an outcome, and a login after it, are what a reply makes of the login before it; the third tells that it isn't due
abbrev pub IsReply : Reply → (StateWord → Outcome) → ContextLogin → Outcome → ContextLogin → Type 0
IsReply NotDue late old outcome new = (outcome ≡ late (state_of old.stage)) × (new ≡ old)
IsReply (Stays said) late old outcome new = (outcome ≡ said) × (new ≡ old)
IsReply (Moves said stage) late old outcome new =
    (outcome ≡ said) × (seen_login new ≡ at_stage (seen_login old) stage)

-- the identity of the place now, one of whose credentials serves; or why it can't be named: this is the code's part of a naming
abbrev pub Finds : Known → Mech → Claim → Result Found Outcome → Type 0
Finds known mech claim (Ok found) =
    (naming known mech claim ≡ Ok (record { version = length known.edits; place = found.place; claim = claim }))
    × (ident known (length known.edits) found.place ≡ Some found.row)
    × IsSome (chosen mech found.row) × (is_claim_of mech claim ≡ true)
Finds known mech claim (Err refusal) = naming known mech claim ≡ Err refusal

-- what a proved login that may log in hands out, or how it is refused: the code's part of an authorization
abbrev pub Asks : Known → ContextStage → Result Prepared Outcome → Type 0
Asks known stage (Ok prepared) = (p : Pin) × (stage ≡ Proved p) × (grants known p.version p.place to_log_in ≡ true)
    × (prepared ≡ prepared_for known (pinned p))
Asks known stage (Err refusal) = (proved_pin stage ≡ None) × (refusal ≡ outcomes.State (state_of stage))
    ⊎ ((p : Pin) × (stage ≡ Proved p) × (grants known p.version p.place to_log_in ≡ false) × (refusal ≡ outcomes.Denied p.version))

-- an outcome, and a login after it, are what a step makes of a login that was found, which has the serial that is carried or not
abbrev pub AnswersBy : Bool → Known → Nonces → Event → ContextLogin → Outcome → ContextLogin → Type 0
AnswersBy true known nonces event old outcome new =
    IsReply (reply known nonces (seen_login old) event) (not_due event) old outcome new
AnswersBy false known nonces event old outcome new = (outcome ≡ outcomes.Gone) × (new ≡ old)

-- the same of the login's own serial
abbrev pub Answers : Known → Nonces → Event → ContextLogin → Outcome → ContextLogin → Type 0
Answers known nonces event old outcome new = AnswersBy (is_carried (carried event) old.serial) known nonces event old outcome new
