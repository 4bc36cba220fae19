-- The law of touching: an identity is what the rows of its places make of it, so an edit that touches none of them leaves it.
use Rattle.std.proofs.Common.{◌≡◌, ℕ, false, List, [], ◌∷◌, ◌++◌, length, take, Option, Some, None, refl, sym, ap, ◌∙◌, take_all, arith}
use Rattle.std.specs.Option.{option_and_then}
use Rattle.ely_row.specs.declared.edit.Edit.{Edit}
use Rattle.ely_row.specs.declared.mech.Mech.{Mech}
use Rattle.ely_row.specs.Dependence.{touches}
use Rattle.ely_row.specs.Edits.{row}
use Rattle.ely_cred.specs.Keys.{ready_of}
use Rattle.ely_config.specs.Configs.{Config}
use Rattle.ely_table.specs.Faults.{Tables, texts_of}
use Rattle.ely_table.specs.Touching.{touched_since}
use Rattle.ely_aggregate.specs.declared.plan.RealmPlan.{RealmPlan}
use Rattle.ely_aggregate.specs.Plans.{identity_of}
use Rattle.ely_aggregate.proofs.Agreement.{identity_of-untouched, identity_of-since}
use Rattle.ely_pipeline.specs.declared.place.Place.{Place}
use Rattle.ely_domain.specs.Contexts.{AreOf, read_of}
use Rattle.ely_domain.specs.Given.{Given, realms}
use Rattle.ely_domain.specs.Identities.{Known, identity_after, ident, key_at, deps}
use Rattle.ely_domain.specs.Plans.{plan_of, deps_by, deps_in}

module _ (given : Given) (r name : List ℕ) where
  pub identity_kept : (edits : List Edit) (edit : Edit) → touches edit (deps_in given.config.realms r name) ≡ false
      → identity_after given (edits ++ edit ∷ []) r name ≡ identity_after given edits r name
  unfolding identity_after deps_in
  identity_kept edits edit none = by_plan (plan_of given.config.realms r) none
    where
      by_plan : (plan : Option RealmPlan) → touches edit (deps_by plan name) ≡ false
          → option_and_then (λ p. identity_of (row (texts_of (realms given)) (edits ++ edit ∷ [])) p name) plan
          ≡ option_and_then (λ p. identity_of (row (texts_of (realms given)) edits) p name) plan
      by_plan None h = refl
      by_plan (Some plan) h = identity_of-untouched (texts_of (realms given)) edits edit plan name h

  pub identity_since_then : (edits : List Edit) (v : ℕ) → touched_since edits v (deps_in given.config.realms r name) ≡ false
      → identity_after given edits r name ≡ identity_after given (take v edits) r name
  unfolding identity_after deps_in touched_since
  identity_since_then edits v none = by_plan (plan_of given.config.realms r) none
    where
      by_plan : (plan : Option RealmPlan) → touched_since edits v (deps_by plan name) ≡ false
          → option_and_then (λ p. identity_of (row (texts_of (realms given)) edits) p name) plan
          ≡ option_and_then (λ p. identity_of (row (texts_of (realms given)) (take v edits)) p name) plan
      by_plan None h = refl
      by_plan (Some plan) h = identity_of-since (texts_of (realms given)) edits v plan name h

module _ (known : Known) (mech : Mech) (place : Place) where
  -- the key of now is what the identity of now gives
  pub key_now : key_at known mech (length known.edits) place
      ≡ option_and_then (ready_of known.given.config.params place.realm place.name mech) (identity_after known.given known.edits place.realm place.name)
  unfolding key_at
  key_now =
      ap (λ es. option_and_then (ready_of known.given.config.params place.realm place.name mech) (identity_after known.given es place.realm place.name))
      (take_all (length known.edits) known.edits (omega arith))

  -- where no edit since then touches the places of an identity, its key of now is that of then
  pub key_since : (v : ℕ) → touched_since known.edits v (deps known place) ≡ false
      → key_at known mech (length known.edits) place ≡ key_at known mech v place
  unfolding key_at
  key_since v none =
      key_now ∙ ap (option_and_then (ready_of known.given.config.params place.realm place.name mech))
      (identity_since_then known.given place.realm place.name known.edits v none)

  -- an edit that touches none of them leaves the key of now
  pub key_kept : (edit : Edit) → touches edit (deps known place) ≡ false
      → (let more : Known = record { given = known.given; edits = known.edits ++ edit ∷ [] } in
      key_at more mech (length more.edits) place ≡ key_at known mech (length known.edits) place)
  unfolding key_at
  key_kept edit none =
      let more : Known = record { given = known.given; edits = known.edits ++ edit ∷ [] } in
      ap (λ es. option_and_then (ready_of known.given.config.params place.realm place.name mech) (identity_after known.given es place.realm place.name))
      (take_all (length more.edits) more.edits (omega arith))
      ∙ ap (option_and_then (ready_of known.given.config.params place.realm place.name mech)) (identity_kept known.given place.realm place.name known.edits edit none)
      ∙ sym key_now

-- ---- what the tables have

-- the identity that a plan gives over the tables is the identity of now
pub now_is : (config : Config) (tables : Tables) (place : Place) (plan : RealmPlan) → AreOf config tables → Some plan ≡ plan_of config.realms place.realm
    → identity_of (λ r n. row (texts_of tables.realms) tables.journal r n) plan place.name ≡ ident (read_of config tables) (length tables.journal) place
unfolding identity_after
now_is config tables place plan are is =
    ap (λ realms. identity_of (row (texts_of realms) tables.journal) plan place.name) are
    ∙ ap (λ edits. identity_of (row (texts_of (realms (read_of config tables).given)) edits) plan place.name) (sym (take_all (length tables.journal) tables.journal (omega arith)))
    ∙ ap (option_and_then (λ p. identity_of (row (texts_of (realms (read_of config tables).given)) (take (length tables.journal) tables.journal)) p place.name)) is
