-- The plans that are kept are those of the realms.
use Rattle.std.proofs.Common.{◌≡◌, ℕ, Bool, true, false, cond, List, [], ◌∷◌, Option, Some, refl}
use Rattle.std.specs.Prelude.{find}
use Rattle.std.specs.Option.{option_and_then}
use Rattle.std.specs.Str.{bytes_eq}
use Rattle.ely_aggregate.specs.declared.plan.RealmPlan.{RealmPlan}
use Rattle.ely_config.specs.declared.realm.RealmConfig.{RealmConfig}
use Rattle.ely_config.specs.Realms.{realm_named}
use Rattle.ely_domain.specs.Plans.{plan_by, plan_of}
use Rattle.ely_domain.specs.Planning.{plans_of}

-- a plan with the name of its realm
abbrev pub Plan : Type 0
Plan = List ℕ × Option RealmPlan

-- the first plan under a name
abbrev pub plan_in : List Plan → List ℕ → Option Plan
plan_in plans r = find (λ plan. bytes_eq plan.0 r) plans

module _ (all : List RealmConfig) where
  abbrev of : RealmConfig → Option RealmPlan
  of realm = plan_by all realm.name realm.kind

  found_by : (realms : List RealmConfig) (r : List ℕ)
      → option_and_then (λ realm. plan_by all realm.name realm.kind) (realm_named realms r) ≡ option_and_then (λ plan. plan.1) (plan_in (plans_of all realms) r)
  found_by [] r = refl
  found_by (realm ∷ realms) r = by_test (found_by realms r) (bytes_eq realm.name r)
    where
      by_test : option_and_then of (realm_named realms r) ≡ option_and_then (λ (plan : Plan). plan.1) (plan_in (plans_of all realms) r) → (b : Bool)
          → option_and_then of (cond b (Some realm) (realm_named realms r))
          ≡ option_and_then (λ (plan : Plan). plan.1) (cond b (Some (realm.name, of realm)) (plan_in (plans_of all realms) r))
      by_test later true = refl
      by_test later false = later

-- the plan of a realm is the one that is kept under its name
pub plan_kept : (realms : List RealmConfig) (plans : List Plan) (r : List ℕ) → plans ≡ plans_of realms realms
    → plan_of realms r ≡ option_and_then (λ plan. plan.1) (plan_in plans r)
unfolding plan_of
plan_kept realms plans r are = rw are (found_by realms realms r)
