use Rattle.std.proofs.Common.{arith}
use Rattle.ely_domain.proofs.Loadings.{loadings_few}
use Rattle.ely_front_tests.proofs.config.domain_of.Goals as goal

-- each realm has at most one text to be read, and there are few realms
pub new-requires-clause-room : goal.new-requires-clause-room
new-requires-clause-room c =
    let few = loadings_few c.args.config.digest_realm c.args.config.realms c.realms-realms.ensures.sound in
    omega (arith, few)
