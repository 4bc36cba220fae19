-- The job that a login will hand out, told from what it is before the step: the code's part of handing one out.
use Rattle.std.specs.Prelude.{if◌then◌else◌, List, Option, None, is_some, option_and_then, Result, Ok, Err}
use Rattle.ely_job.specs.declared.job.Work.{Work}
use Rattle.ely_login.specs.declared.claim.Claim.{Claim}
use Rattle.ely_login.specs.declared.claim.Evidence.{Evidence}
use Rattle.ely_login.specs.declared.outcome.Outcome.{Outcome}
use Rattle.ely_context.specs.declared.stage.Stage.TheVariants.{Fresh, Loading, Named, Checking}
use Rattle.ely_context.specs.Logins.{login_of}
use Rattle.ely_domain.specs.declared.event.Event.{Event}
use Rattle.ely_domain.specs.declared.event.Event.TheVariants as events
use Rattle.ely_digest.specs.Nonces.{Nonces}
use Rattle.ely_login.specs.declared.word.CacheWord.TheVariants as words
use Rattle.ely_domain.specs.Identities.{Known}
use Rattle.ely_domain.specs.Jobs.{job_at}
use Rattle.ely_domain.specs.KeptKeys.{RealmKeys, list_of, word_in}
use Rattle.ely_domain.specs.Keeping.{sought}
use Rattle.ely_domain.specs.Serials.{carrier}
use Rattle.ely_domain.specs.Logins.{Pinned, KnownStage, KnownLogin, Live}
use Rattle.ely_domain.specs.Steps.{naming, is_evidence_of, shown_refusal, is_carried}

-- the job of a login that pins this, where it pins anything; its naming finds what the lists have
abbrev pub pin_job : Known → List RealmKeys → KnownLogin → Result Pinned Outcome → Option Work
pin_job known lists login (Ok pin) =
    job_at known (word_in (list_of lists pin.place.realm) (sought login.mech pin)) login (Loading pin)
pin_job known lists login (Err refusal) = None

-- the job of a login behind its naming
abbrev pub name1_job : Known → List RealmKeys → KnownLogin → Claim → KnownStage → Option Work
name1_job known lists login claim Fresh = pin_job known lists login (naming known login.mech claim)
name1_job known lists login claim stage = None

-- the job of a login behind what it shows
abbrev pub check1_job : Known → Nonces → KnownLogin → Evidence → KnownStage → Option Work
check1_job known nonces login evidence (Named pin key) =
    if is_evidence_of login.mech evidence
    then (if is_some (shown_refusal nonces evidence) then None else job_at known words.None login (Checking pin key evidence))
    else None
check1_job known nonces login evidence stage = None

-- the job of a login behind a step
abbrev pub job_by : Known → List RealmKeys → Nonces → Event → KnownLogin → Option Work
job_by known lists nonces (events.Name1 c claim) login = name1_job known lists login claim login.stage
job_by known lists nonces (events.Check1 c serial evidence) login =
    if is_carried serial login.serial then check1_job known nonces login evidence login.stage else None
job_by known lists nonces _ login = None

-- the same of the login that the step is on
abbrev pub job_ahead : Known → List RealmKeys → Live → Event → Option Work
job_ahead known lists live event =
    option_and_then (λ c. option_and_then (job_by known lists live.nonces event) (login_of live.logins c)) (carrier event)
