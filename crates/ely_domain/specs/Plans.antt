-- Where the identities of the realms of a configuration come from.
use Rattle.std.specs.Prelude.{ℕ, List, [], Option, Some, None, option_and_then}
use Rattle.ely_aggregate.specs.declared.plan.RealmPlan.{RealmPlan}
use Rattle.ely_aggregate.specs.declared.plan.RealmPlan.TheVariants.{Basic, Aggregate}
use Rattle.ely_aggregate.specs.Plans.{deps_of}
use Rattle.ely_config.specs.declared.realm.RealmConfig.{RealmConfig}
use Rattle.ely_config.specs.declared.realm.RealmKind.{RealmKind}
use Rattle.ely_config.specs.declared.realm.RealmKind.TheVariants as kinds
use Rattle.ely_config.specs.Realms.{realm_named}

-- the plan of a realm that asks no caching realm; a caching one has none of its own
abbrev pub own_plan : List ℕ → RealmKind → Option RealmPlan
own_plan name kinds.Modifiable = Some (Basic name)
own_plan name (kinds.Properties plain users groups) = Some (Basic name)
own_plan name (kinds.Aggregate authentication authorization) = Some (Aggregate authentication authorization)
own_plan name (kinds.Caching of limit) = None

-- the plan by which a realm asks: a caching one asks by that of another
abbrev pub plan_by : List RealmConfig → List ℕ → RealmKind → Option RealmPlan
plan_by realms name (kinds.Caching of limit) = option_and_then (λ realm. own_plan realm.name realm.kind) (realm_named realms of)
plan_by realms name kind = own_plan name kind

-- the plan by which the realm of this name asks
unfoldable pub plan_of : List RealmConfig → List ℕ → Option RealmPlan
plan_of realms r = option_and_then (λ realm. plan_by realms realm.name realm.kind) (realm_named realms r)

-- the places that an identity of a plan is made from, where there is a plan
abbrev pub deps_by : Option RealmPlan → List ℕ → List (List ℕ × List ℕ)
deps_by None name = []
deps_by (Some plan) name = deps_of plan name

-- the places that the identity of a name in a realm is made from
unfoldable pub deps_in : List RealmConfig → List ℕ → List ℕ → List (List ℕ × List ℕ)
deps_in realms r name = deps_by (plan_of realms r) name
