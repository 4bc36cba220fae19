use Rattle.std.proofs.Common.{◌≡◌, take}
use Rattle.ely_domain.specs.Planning.{plans_of}
use Rattle.ely_domain.proofs.planned.plans_of.Given as goal

abbrev pub invariant-loop-realm : goal.invariant-loop-realm
invariant-loop-realm l = l.plans.items ≡ plans_of l.realms (take l.realm-index l.realms)
