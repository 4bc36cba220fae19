use Rattle.std.proofs.Common.{◌≡◌, Option, Some, None, refl, sym, ap, subst, ◌∙◌, IfOk}
use Rattle.ely_domain.specs.Contexts.{read_of}
use Rattle.ely_domain.specs.Jobs.{check_job}
use Rattle.ely_domain.specs.Verdicts.{said_by, server_first}
use Rattle.ely_domain.proofs.Sounds.{evidence_fits, message_fits}
use Rattle.ely_cred.specs.Keys.{Ready}
use Rattle.ely_domain.specs.Caches.{found_in}
use Rattle.ely_domain.specs.Contexts.{seen_login}
use Rattle.ely_domain.specs.Jobs.{job_at}
use Rattle.ely_domain.proofs.Working.{checking_job, held_job, loading_job}
use Rattle.ely_domain.proofs.jobs.job_at.Goals as goal

pub check_job-requires : goal.check_job-requires
check_job-requires c =
    let login = c.args.context.now in
    evidence_fits (read_of c.args.config.now c.args.tables.now) login.serial login.mech login.nonce login.stage
    c.in-Some-checking.pin.now c.in-Some-checking.naming.now c.in-Some-checking.evidence.now c.requires (sym c.in-Some-checking.ensures)

pub returns-in-Some-checking : goal.returns-in-Some-checking
returns-in-Some-checking c =
    let login = c.args.context.now in
    let known = read_of c.args.config.now c.args.tables.now in
    let pin = c.in-Some-checking.pin.now in
    let key = c.in-Some-checking.naming.now in
    let evidence = c.in-Some-checking.evidence.now in
    let parts = sym c.in-Some-checking.ensures in
    let realm = c.digest_realm-realm.result.now in
    let nonce = c.nonce-nonce.result.now in
    let text = message_fits known login.serial login.mech login.nonce login.stage pin key evidence c.requires parts in
    let fits = subst (λ n. key.server_first ≡ server_first (said_by realm n pin.claim) key.ready) (sym c.nonce-nonce.ensures) text in
    let is =
    ap (λ r. check_job (said_by r nonce pin.claim) key.ready evidence) c.digest_realm-realm.ensures.value
    ∙ ap (λ n. check_job (said_by known.given.config.digest_realm n pin.claim) key.ready evidence) c.nonce-nonce.ensures
    ∙ checking_job known login.serial login.mech login.nonce login.stage pin key evidence parts c.requires in
    subst (λ w. IfOk c.check_job.result (λ job. job ≡ w)) is (c.check_job.ensures fits)

pub returns-in-Some : goal.returns-in-Some
returns-in-Some c = by c.in-Some.pin.now.held refl
  where
    by : (o : Option Ready) → c.in-Some.pin.now.held ≡ o
        → Some c.in_ok-job.job ≡ job_at (read_of c.args.config.now c.args.tables.now) (found_in c.args.context.now) (seen_login c.args.context.now) (seen_login c.args.context.now).stage
    by (Some ready) e =
        let login = c.args.context.now in
        ap Some (rw e at c.in_ok-job.ensures.held)
        ∙ held_job (read_of c.args.config.now c.args.tables.now) login.serial login.mech login.nonce login.stage c.in-Some.pin.now ready (sym c.in-Some.ensures) c.requires e
    by None e =
        let login = c.args.context.now in
        ap Some (rw c.mech.ensures at (rw e at c.in_ok-job.ensures.derived))
        ∙ loading_job (read_of c.args.config.now c.args.tables.now) login.serial login.mech login.nonce login.stage c.in-Some.pin.now (sym c.in-Some.ensures) c.requires e
