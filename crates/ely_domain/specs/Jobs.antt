-- The work of a login that can be done off the domain: the key of what it pinned, and the verdict on what it showed.
use Rattle.std.specs.Prelude.{ℕ, ◌≡◌, ◌==◌, if◌then◌else◌, List, Option, Some, None, option_and_then}
use Rattle.std.specs.Option.{option_map}
use Rattle.ely_cred.specs.Keys.{Ready}
use Rattle.ely_row.specs.declared.mech.Mech.{Mech}
use Rattle.ely_scram_msg.specs.declared.last.ClientLast.{ClientLast}
use Rattle.ely_job.specs.declared.job.Work.{Work}
use Rattle.ely_job.specs.declared.job.Work.TheVariants as jobs
use Rattle.ely_job.specs.Dones.{Done}
use Rattle.ely_login.specs.declared.claim.Claim.{Claim}
use Rattle.ely_login.specs.declared.claim.Claim.TheVariants as claims
use Rattle.ely_login.specs.declared.claim.Evidence.{Evidence}
use Rattle.ely_login.specs.declared.claim.Evidence.TheVariants as evidences
use Rattle.ely_login.specs.declared.outcome.Outcome.{Outcome}
use Rattle.ely_login.specs.declared.outcome.Outcome.TheVariants as outcomes
use Rattle.ely_context.specs.declared.stage.Stage.TheVariants.{Loading, Checking}
use Rattle.ely_context.specs.Logins.{login_of}
use Rattle.ely_domain.specs.declared.event.Event.{Event}
use Rattle.ely_domain.specs.declared.event.Event.TheVariants as events
use Rattle.ely_domain.specs.Given.{Given}
use Rattle.ely_login.specs.declared.word.CacheWord.{CacheWord}
use Rattle.ely_domain.specs.Identities.{Known, ident, key_at}
use Rattle.ely_domain.specs.KeptKeys.{is_hit}
use Rattle.ely_domain.specs.Keeping.{Kept, Founds, found_at, word_due}
use Rattle.ely_domain.specs.Logins.{Pinned, KnownStage, KnownLogin, Live}
use Rattle.ely_domain.specs.Machine.{Machine, known, step}
use Rattle.ely_domain.specs.Verdicts.{Exchange, exchange, server_first}

-- the judgement of SCRAM's last message, where its claim and the server's first message are SCRAM's
abbrev pub message_job : Claim → List ℕ → Ready → Option (List ℕ) → ClientLast → Option Work
message_job (claims.Scram first) nonce key (Some text) last = Some (jobs.Scram key first nonce text last)
message_job claim nonce key text last = None

-- the judgement of what was shown, by a key
abbrev pub check_job : Exchange → Ready → Evidence → Option Work
check_job said key (evidences.Plain password) = Some (jobs.Guess key password)
check_job said key (evidences.Scram last) = message_job said.claim said.nonce key (server_first said key) last
check_job said key (evidences.Digest reply method target) = Some (jobs.Digest key reply method target said.digest_realm)

-- the derivation of the key of a pinned version
abbrev pub derive_job : Known → Mech → Pinned → Option Work
derive_job known mech pin =
    option_map (λ row. jobs.Derive pin.place row mech known.given.config.params) (ident known pin.version pin.place)

-- the job of a login: a loading one needs the key of the pinned version, which is held where its naming found it, and a
-- checked one a verdict by that key
abbrev pub job_at : Known → CacheWord → KnownLogin → KnownStage → Option Work
job_at known found login (Loading pin) =
    if is_hit found then option_map jobs.Held (key_at known login.mech pin.version pin.place) else derive_job known login.mech pin
job_at known found login (Checking pin key evidence) =
    let said = exchange known.given login.nonce pin.claim in
    option_and_then (λ ready. check_job said ready evidence) (key_at known login.mech pin.version pin.place)
job_at known found login stage = None

-- the same where it has this serial
abbrev pub job_with : Known → CacheWord → ℕ → KnownLogin → Option Work
job_with known found serial login = if login.serial == serial then job_at known found login login.stage else None

-- the job of the login with this id and this serial
unfoldable pub job_of : Known → Founds → Live → ℕ → ℕ → Option Work
job_of known founds live c serial = option_and_then (job_with known (found_at founds c) serial) (login_of live.logins c)

-- what came of the job of a login is brought
abbrev pub IsBrought : Option Done → Option Work → Type 0
IsBrought brought job = (d : Done) × (brought ≡ Some d) × (Some d.job ≡ job)

-- what came of the job of this login is brought with the step
abbrev pub BringsTo : Known → CacheWord → KnownLogin → Event → Type 0
BringsTo known found login (events.Name2 c serial brought) = IsBrought brought (job_at known found login login.stage)
BringsTo known found login (events.Check2 c serial brought) = IsBrought brought (job_at known found login login.stage)
BringsTo known found login _ = ⊥

-- the same of the login with this id
abbrev pub Brings : Known → Founds → Live → ℕ → Event → Type 0
Brings known founds live c (events.Name2 d serial brought) = IsBrought brought (job_of known founds live c serial)
Brings known founds live c (events.Check2 d serial brought) = IsBrought brought (job_of known founds live c serial)
Brings known founds live c _ = ⊥

-- what came of its login's job is brought with the step
abbrev pub BringsResult : Known → Founds → Live → Event → Type 0
BringsResult known founds live (events.Name2 c serial brought) = Brings known founds live c (events.Name2 c serial brought)
BringsResult known founds live (events.Check2 c serial brought) = Brings known founds live c (events.Check2 c serial brought)
BringsResult known founds live _ = ⊥

-- the job of the login with this id, whose naming found this
abbrev pub job_now : Known → CacheWord → Live → ℕ → Option Work
job_now known found live c = option_and_then (λ login. job_at known found login login.stage) (login_of live.logins c)

-- the job that a step hands out: an accepted name1, which found this, and an accepted check1 hand out the one that their login
-- has behind them
abbrev pub job_given : Known → CacheWord → Live → Event → Outcome → Option Work
job_given known found live (events.Name1 c claim) (outcomes.Pinned version) = job_now known found live c
job_given known found live (events.Check1 c serial evidence) outcomes.Fine = job_now known found live c
job_given known found live _ _ = None

-- the same of a step of the machine, with the login behind it
unfoldable pub job_behind : Given → Machine → Kept → Event → Option Work
job_behind given m kept event =
    let s = step given m event in
    job_given (known given s.1) (word_due given m kept event s.0) s.1.live event s.0
