use Rattle.std.proofs.Common.{◌-◌, length}
use Rattle.ely_config.proofs.RealmLemmas.{Passed}
use Rattle.ely_config.proofs.realm_faults.realms_fault.Given as goal

abbrev pub invariant-loop-realm : goal.invariant-loop-realm
invariant-loop-realm l = Passed l.digest_realm l.realms l.at

abbrev pub decreases-loop-realm : goal.decreases-loop-realm
decreases-loop-realm l = length l.realms - l.at
