use Rattle.std.proofs.Common.{true, false, inr, refl, sym, ap, ◌∙◌}
use Rattle.ely_perm.specs.Grants.{granted}
use Rattle.ely_domain.specs.Contexts.{read_of}
use Rattle.ely_domain.specs.Identities.{to_log_in}
use Rattle.ely_domain.proofs.Sounds.{proved_holds, granted_as_prepared}
use Rattle.ely_domain.proofs.granting.asked.Goals as goal

pub returns-then-not-granted : goal.returns-then-not-granted
returns-then-not-granted c =
    let known = read_of c.args.config.now c.args.tables.now in
    let login = c.args.context.now in
    let pin = c.in-Some.pin.now in
    let prepared = c.in_ok-prepared.prepared in
    let at = proved_holds known login.serial login.mech login.nonce login.stage pin (sym c.in-Some.ensures) c.requires in
    let made = c.in_ok-prepared.ensures login.mech at.1 in
    let rows = ap (λ perms. granted perms prepared.place.name prepared.roles to_log_in) c.permissions.ensures in
    inr (pin, at.0, granted_as_prepared known pin prepared to_log_in false made (sym c.if-not-granted.true ∙ c.granted.ensures ∙ rows), refl)

pub returns : goal.returns
returns c =
    let known = read_of c.args.config.now c.args.tables.now in
    let login = c.args.context.now in
    let pin = c.in-Some.pin.now in
    let prepared = c.in_ok-prepared.prepared in
    let at = proved_holds known login.serial login.mech login.nonce login.stage pin (sym c.in-Some.ensures) c.requires in
    let made = c.in_ok-prepared.ensures login.mech at.1 in
    let rows = ap (λ perms. granted perms prepared.place.name prepared.roles to_log_in) c.permissions.ensures in
    (pin, at.0, granted_as_prepared known pin prepared to_log_in true made (sym c.if-not-granted.false ∙ c.granted.ensures ∙ rows), made)
