use Rattle.std.proofs.Common.{ap, sym, ◌∙◌, arith}
use Rattle.std.specs.Prelude.{is_some}
use Rattle.ely_domain.proofs.Openings.{is_some-map, in_use, all_in_use, nonce_known, has_room}
use Rattle.ely_domain.proofs.opening.opening_fault.Goals as goal

pub returns-then-is_some : goal.returns-then-is_some
returns-then-is_some c =
    in_use c.args.logins.now c.args.nonces.now c.args.id c.args.nonce.now c.args.alg
    (ap is_some (sym c.find.ensures) ∙ is_some-map _ c.find.result ∙ sym c.if-is_some.ensures)

pub returns-then-len-ge-LOGINS_LIMIT : goal.returns-then-len-ge-LOGINS_LIMIT
returns-then-len-ge-LOGINS_LIMIT c =
    all_in_use c.args.logins.now c.args.nonces.now c.args.id c.args.nonce.now c.args.alg
    (ap is_some (sym c.find.ensures) ∙ is_some-map _ c.find.result ∙ sym c.if-is_some.ensures)
    (omega (arith, c.len.ensures.value, c.if-len-ge-LOGINS_LIMIT.true))

pub returns-then-is_used : goal.returns-then-is_used
returns-then-is_used c =
    nonce_known c.args.logins.now c.args.nonces.now c.args.id c.args.nonce.now c.args.alg
    (ap is_some (sym c.find.ensures) ∙ is_some-map _ c.find.result ∙ sym c.if-is_some.ensures)
    (omega (arith, c.len.ensures.value, c.if-len-ge-LOGINS_LIMIT.false)) (sym c.is_used.ensures ∙ c.if-is_used.true)

pub returns : goal.returns
returns c =
    has_room c.args.logins.now c.args.nonces.now c.args.id c.args.nonce.now c.args.alg
    (ap is_some (sym c.find.ensures) ∙ is_some-map _ c.find.result ∙ sym c.if-is_some.ensures)
    (omega (arith, c.len.ensures.value, c.if-len-ge-LOGINS_LIMIT.false)) (sym c.is_used.ensures ∙ c.if-is_used.false)
