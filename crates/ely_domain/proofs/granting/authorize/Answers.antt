use Rattle.std.proofs.Common.{ap, ◌∙◌}
use Rattle.ely_context.specs.Logins.{login_of}
use Rattle.ely_domain.specs.Contexts.{read_of}
use Rattle.ely_domain.proofs.Seeing.{others_with, itself_with}
use Rattle.ely_domain.proofs.Sounds.{refused_reply, authorized_reply, authorized_sound, not_refused}
use Rattle.ely_domain.proofs.granting.authorize.Goals as goal

pub returns-in-Err-clause-reply : goal.returns-in-Err-clause-reply
returns-in-Err-clause-reply c =
    let login = c.args.context.now in
    let known = read_of c.args.config.now c.args.tables.now in
    refused_reply known login.serial login.mech login.nonce login.stage c.in-Err.refusal (rw c.in-Err.is at c.in_ok-refusal.ensures)

pub returns-in-Ok-authorize-clause-reply : goal.returns-in-Ok-authorize-clause-reply
returns-in-Ok-authorize-clause-reply c =
    let login = c.args.context.now in
    let known = read_of c.args.config.now c.args.tables.now in
    authorized_reply known login.serial login.mech login.nonce login.stage c.authorize.new.self c.in-Ok.prepared (rw c.in-Ok.is at c.in_ok-refusal.ensures) c.in-Ok-authorize.ensures.moved

pub returns-in-Ok-authorize-clause-sound : goal.returns-in-Ok-authorize-clause-sound
returns-in-Ok-authorize-clause-sound c =
    let login = c.args.context.now in
    let known = read_of c.args.config.now c.args.tables.now in
    authorized_sound known login.serial login.mech login.nonce login.stage c.authorize.new.self c.in-Ok.prepared (login_of c.keep.new.self c.args.id)
    (rw c.in-Ok.is at c.in_ok-refusal.ensures) c.requires.0
    (ap (λ entries. login_of entries c.args.id) c.in_ok-keep-in-Ok.ensures.kept ∙ itself_with c.args.handouts.now c.args.id c.in-Ok.prepared)
    c.in-Ok-authorize.ensures.moved

pub returns-in-Ok-authorize-clause-others : goal.returns-in-Ok-authorize-clause-others
returns-in-Ok-authorize-clause-others c = λ other apart.
    ap (λ entries. login_of entries other) c.in_ok-keep-in-Ok.ensures.kept ∙ others_with c.args.handouts.now c.args.id c.in-Ok.prepared other apart

pub returns-in-Err-authorize-clause-sound : goal.returns-in-Err-authorize-clause-sound
returns-in-Err-authorize-clause-sound c =
    let login = c.args.context.now in
    let known = read_of c.args.config.now c.args.tables.now in
    not_refused known login.serial login.mech login.nonce login.stage c.in-Ok.prepared (rw c.in-Ok.is at c.in_ok-refusal.ensures) c.in-Err-authorize.ensures.refused

pub returns-in-Err-authorize-clause-others : goal.returns-in-Err-authorize-clause-others
returns-in-Err-authorize-clause-others c =
    let login = c.args.context.now in
    let known = read_of c.args.config.now c.args.tables.now in
    not_refused known login.serial login.mech login.nonce login.stage c.in-Ok.prepared (rw c.in-Ok.is at c.in_ok-refusal.ensures) c.in-Err-authorize.ensures.refused
