-- How many HMAC computations a step takes.
use Rattle.std.specs.Prelude.{ℕ, ◌+◌, ◌≤◌, if◌then◌else◌, Option, Some, None}
use Rattle.ely_row.specs.declared.mech.Mech.{Mech}
use Rattle.ely_row.specs.Rows.{Row}
use Rattle.ely_cred.specs.Keys.{Ready, ready_cost}
use Rattle.ely_cred.specs.Guesses.{guess_cost}
use Rattle.ely_login.specs.declared.claim.Evidence.{Evidence}
use Rattle.ely_login.specs.declared.claim.Evidence.TheVariants as evidences
use Rattle.ely_login.specs.declared.word.CacheWord.{CacheWord}
use Rattle.ely_context.specs.declared.stage.Stage.TheVariants.{Loading, Checking}
use Rattle.ely_context.specs.Logins.{login_of}
use Rattle.ely_domain.specs.declared.event.Event.{Event}
use Rattle.ely_domain.specs.declared.event.Event.TheVariants as events
use Rattle.ely_domain.specs.Given.{Given}
use Rattle.ely_domain.specs.Identities.{Known, ident, key_at}
use Rattle.ely_domain.specs.KeptKeys.{is_hit}
use Rattle.ely_domain.specs.Keeping.{Kept, Founds, found_at}
use Rattle.ely_domain.specs.Logins.{KnownStage, KnownLogin, Live}
use Rattle.ely_domain.specs.Machine.{Machine, known}
use Rattle.ely_domain.specs.Steps.{carried, is_carried}

-- what it takes to derive the key of a row, where there is one
abbrev pub row_cost : Known → Mech → Option Row → ℕ
row_cost known mech None = 0
row_cost known mech (Some row) = ready_cost known.given.config.params mech row

-- what it takes to judge evidence with a key: by PLAIN the turns of a salted one, by SCRAM two signatures, by Digest none
abbrev pub proof_cost : Option Ready → Evidence → ℕ
proof_cost None evidence = 0
proof_cost (Some key) (evidences.Plain password) = guess_cost key.cred
proof_cost (Some key) (evidences.Scram last) = 2
proof_cost (Some key) (evidences.Digest reply method target) = 0

-- what the second half of a naming takes at a stage: nothing where the first found the key, and else the derivation of the
-- pinned version's key
abbrev pub naming_cost : Known → CacheWord → KnownLogin → KnownStage → ℕ
naming_cost known found login (Loading pin) =
    if is_hit found then 0 else row_cost known login.mech (ident known pin.version pin.place)
naming_cost known found login stage = 0

-- what the second half of a check takes at a stage: the trial of what was shown
abbrev pub check_cost : Known → KnownLogin → KnownStage → ℕ
check_cost known login (Checking pin key evidence) =
    proof_cost (key_at known login.mech pin.version pin.place) evidence
check_cost known login stage = 0

-- what a step of a login takes that is there and has the serial, where its naming found this
abbrev pub reply_cost : Known → CacheWord → KnownLogin → Event → ℕ
reply_cost known found login (events.Name2 c serial brought) = naming_cost known found login login.stage
reply_cost known found login (events.Check2 c serial brought) = check_cost known login login.stage
reply_cost known found login _ = 0

-- the same where this is found under its id; a step of another login is gone, and takes nothing
abbrev pub cost_for : Known → CacheWord → Event → Option KnownLogin → ℕ
cost_for known found event None = 0
cost_for known found event (Some login) = if is_carried (carried event) login.serial then reply_cost known found login event else 0

-- what a step on the login with this id takes
abbrev pub login_cost : Known → Founds → Live → Event → ℕ → ℕ
login_cost known founds live event c = cost_for known (found_at founds c) event (login_of live.logins c)

-- what a step of the machine takes: none takes any but the second half of a naming or of a check
unfoldable pub step_cost : Given → Machine → Kept → Event → ℕ
step_cost given m kept (events.Name2 c serial brought) = login_cost (known given m) kept.founds m.live (events.Name2 c serial brought) c
step_cost given m kept (events.Check2 c serial brought) = login_cost (known given m) kept.founds m.live (events.Check2 c serial brought) c
step_cost given m kept _ = 0

-- a counter rose by this much at most, and never fell
abbrev pub RoseBy : ℕ → ℕ → ℕ → Type 0
RoseBy before after cost = (before ≤ after) × (after ≤ before + cost)
