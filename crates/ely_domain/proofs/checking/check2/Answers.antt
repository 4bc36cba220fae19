use Rattle.std.proofs.Common.{◌≡◌, sym, ap, subst, ◌∙◌, Some}
use Rattle.ely_domain.specs.Contexts.{read_of}
use Rattle.ely_domain.specs.Jobs.{IsBrought, check_job}
use Rattle.ely_domain.specs.Verdicts.{said_by, server_first, verdict}
use Rattle.ely_domain.proofs.Sounds.{checked_sound, checked_reply, evidence_fits, message_fits}
use Rattle.ely_domain.proofs.Working.{brought_to_checking}
use Rattle.ely_domain.proofs.checking.check2.Goals as goal

pub judge_by-outcome-requires : goal.judge_by-outcome-requires
judge_by-outcome-requires g c =
    let login = c.args.context.now in
    evidence_fits (read_of c.args.config.now c.args.tables.now) login.serial login.mech login.nonce login.stage
    c.in-Some.pin.now c.in-Some.naming.now c.in-Some.evidence.now c.requires (sym c.in-Some.ensures)

pub returns-in-Ok-clause-reply : goal.returns-in-Ok-clause-reply
returns-in-Ok-clause-reply g c =
    let login = c.args.context.now in
    let known = read_of c.args.config.now c.args.tables.now in
    let pin = c.in-Some.pin.now in
    let key = c.in-Some.naming.now in
    let evidence = c.in-Some.evidence.now in
    let realm = c.digest_realm-realm.result.now in
    let nonce = c.nonce-nonce.result.now in
    let text = message_fits known login.serial login.mech login.nonce login.stage pin key evidence c.requires (sym c.in-Some.ensures) in
    let fits = subst (λ n. key.server_first ≡ server_first (said_by realm n pin.claim) key.ready) (sym c.nonce-nonce.ensures) text in
    let judged =
    c.judge_by-outcome.ensures.value fits
    ∙ ap (λ r. verdict (said_by r nonce pin.claim) (Some key.ready) evidence) c.digest_realm-realm.ensures.value
    ∙ ap (λ n. verdict (said_by known.given.config.digest_realm n pin.claim) (Some key.ready) evidence) c.nonce-nonce.ensures in
    checked_reply known login.serial login.mech login.nonce login.stage c.check2.new.self pin key evidence c.judge_by-outcome.result
    (sym c.in-Some.ensures) c.requires judged (rw c.is_accepted.ensures at c.in-Ok.ensures.moved)

pub returns-in-Ok-clause-sound : goal.returns-in-Ok-clause-sound
returns-in-Ok-clause-sound g c =
    let login = c.args.context.now in
    checked_sound (read_of c.args.config.now c.args.tables.now) login.serial login.mech login.nonce login.stage c.check2.new.self
    c.is_accepted.result c.in-Ok.ensures.moved

pub returns-in-Ok-clause-brought : goal.returns-in-Ok-clause-brought
returns-in-Ok-clause-brought g c = λ brought.
    let login = c.args.context.now in
    let known = read_of c.args.config.now c.args.tables.now in
    let pin = c.in-Some.pin.now in
    let key = c.in-Some.naming.now in
    let evidence = c.in-Some.evidence.now in
    let realm = c.digest_realm-realm.result.now in
    let text = message_fits known login.serial login.mech login.nonce login.stage pin key evidence c.requires (sym c.in-Some.ensures) in
    let fits = subst (λ n. key.server_first ≡ server_first (said_by realm n pin.claim) key.ready) (sym c.nonce-nonce.ensures) text in
    let due = brought_to_checking known login.serial login.mech login.nonce login.stage pin key evidence c.args.done (sym c.in-Some.ensures) c.requires brought in
    let is =
    ap (λ n. check_job (said_by known.given.config.digest_realm n pin.claim) key.ready evidence) (sym c.nonce-nonce.ensures)
    ∙ ap (λ r. check_job (said_by r c.nonce-nonce.result.now pin.claim) key.ready evidence) (sym c.digest_realm-realm.ensures.value) in
    c.judge_by-outcome.ensures.brought fits (subst (IsBrought c.args.done) is due)
