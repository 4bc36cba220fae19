use Rattle.std.proofs.Common.{◌≡◌, drop}
use Rattle.std.specs.List.{list_all}
use Rattle.ely_pipeline.specs.Bounds.{rule_fits}
use Rattle.ely_pipeline.proofs.bounds.realms_fit.Given as goal

-- the realms that are left have the same answer
abbrev pub invariant-loop-realm : goal.invariant-loop-realm
invariant-loop-realm l =
    list_all (λ realm. rule_fits realm.1) (drop l.realm-index l.realms) ≡ list_all (λ realm. rule_fits realm.1) l.realms
