use Rattle.std.proofs.Common.{◌≡◌, subst, IfOk}
use Rattle.ely_domain.proofs.Touching.{now_is}
use Rattle.ely_domain.proofs.naming.identity_now.Goals as goal

pub returns-in-Some : goal.returns-in-Some
returns-in-Some c =
    subst (λ row. IfOk c.assemble.result (λ found. found ≡ row))
    (now_is c.args.planned.now c.args.tables.now c.args.place.now c.in-Some.plan.now c.requires c.in-Some.ensures) c.assemble.ensures
