-- The plans of all realms, as they are kept.
use Rattle.std.specs.Prelude.{ℕ, List, map, Option}
use Rattle.ely_aggregate.specs.declared.plan.RealmPlan.{RealmPlan}
use Rattle.ely_config.specs.declared.realm.RealmConfig.{RealmConfig}
use Rattle.ely_domain.specs.Plans.{plan_by}

-- the plan of each of some realms among all, under its name
abbrev pub plans_of : List RealmConfig → List RealmConfig → List (List ℕ × Option RealmPlan)
plans_of all realms = map (λ realm. (realm.name, plan_by all realm.name realm.kind)) realms
