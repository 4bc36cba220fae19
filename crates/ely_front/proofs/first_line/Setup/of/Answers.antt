use Rattle.std.proofs.Common.{arith}
use Rattle.ely_domain.proofs.Loadings.{loadings_few}
use Rattle.ely_front.proofs.first_line.Setup.of.Goals as goal

pub invariant_of-result : goal.invariant_of-result
invariant_of-result c =
    let few = loadings_few c.args.config.digest_realm c.args.config.realms c.realms-realms.ensures.sound in
    (omega arith, omega arith, omega (arith, few))
