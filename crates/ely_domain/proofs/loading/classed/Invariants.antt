use Rattle.std.proofs.Common.{◌≡◌, take}
use Rattle.ely_domain.specs.Given.{classed}
use Rattle.ely_domain.proofs.loading.classed.Given as goal

abbrev pub invariant-loop-realm : goal.invariant-loop-realm
invariant-loop-realm l = l.with_class.items ≡ classed l.digest_realm (take l.realm-index l.realms)
