use Rattle.std.proofs.Common.{◌≡◌, sym, ap, subst, ◌∙◌, IfOk}
use Rattle.ely_domain.specs.Contexts.{read_of}
use Rattle.ely_domain.specs.Jobs.{check_job}
use Rattle.ely_domain.specs.Steps.{is_evidence_of}
use Rattle.ely_domain.specs.Verdicts.{said_by, server_first}
use Rattle.ely_domain.proofs.Working.{named_mech, named_text, named_job}
use Rattle.ely_domain.proofs.jobs.check1_job.Goals as goal

pub check_job-requires : goal.check_job-requires
check_job-requires c =
    let login = c.args.context.now in
    let known = read_of c.args.config.now c.args.tables.now in
    let form = ap (λ m. is_evidence_of m c.args.evidence.now) (sym c.mech.ensures) ∙ sym c.is_evidence_of.ensures ∙ c.if-not-is_evidence_of.false in
    let mech = named_mech known login.serial login.mech login.nonce login.stage c.in-Some.pin.now c.in-Some.naming.now (sym c.in-Some.ensures) c.requires in
    ap (λ m. is_evidence_of m c.args.evidence.now) mech ∙ form

pub returns : goal.returns
returns c =
    let login = c.args.context.now in
    let known = read_of c.args.config.now c.args.tables.now in
    let pin = c.in-Some.pin.now in
    let key = c.in-Some.naming.now in
    let evidence = c.args.evidence.now in
    let form = ap (λ m. is_evidence_of m evidence) (sym c.mech.ensures) ∙ sym c.is_evidence_of.ensures ∙ c.if-not-is_evidence_of.false in
    let parts = sym c.in-Some.ensures in
    let realm = c.digest_realm-realm.result.now in
    let nonce = c.nonce-nonce.result.now in
    let text = named_text known login.serial login.mech login.nonce login.stage pin key parts c.requires in
    let fits = subst (λ n. key.server_first ≡ server_first (said_by realm n pin.claim) key.ready) (sym c.nonce-nonce.ensures) text in
    let is =
    ap (λ r. check_job (said_by r nonce pin.claim) key.ready evidence) c.digest_realm-realm.ensures.value
    ∙ ap (λ n. check_job (said_by known.given.config.digest_realm n pin.claim) key.ready evidence) c.nonce-nonce.ensures
    ∙ named_job known login.serial login.mech login.nonce login.stage pin key evidence parts c.requires form
    c.args.nonces.now (sym c.is_refused.ensures ∙ c.if-is_refused.false) in
    subst (λ w. IfOk c.check_job.result (λ job. job ≡ w)) is (c.check_job.ensures fits)
