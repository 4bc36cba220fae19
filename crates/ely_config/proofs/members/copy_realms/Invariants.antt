use Rattle.std.proofs.Common.{◌≡◌, take}
use Rattle.ely_config.proofs.members.copy_realms.Given as goal

abbrev pub invariant-loop-realm : goal.invariant-loop-realm
invariant-loop-realm l = l.copy.items ≡ take l.realm-index l.realms
