-- References that are taken, and what holds of the limits and references of realms all of which are taken.
use Rattle.std.proofs.Common.{◌≡◌, ℕ, ◌+◌, ◌<◌, ◌≤◌, ◌&&◌, true, List, [], ◌∷◌, length, drop, get_or, leb, leb-true, Option, Some, None, refl, sym, ap, subst, ◌∙◌}
use Rattle.std.specs.Prelude.{slice_get, zero, suc}
use Rattle.std.specs.Option.{option_or}
use Rattle.std.proofs.lemmas.List.{at_drop_more}
use Rattle.std.proofs.lemmas.Bool.{and_parts}
use Rattle.std.proofs.lemmas.Option.{none-some, same_Some}
use Rattle.ely_config.specs.declared.realm.RealmConfig.{RealmConfig}
use Rattle.ely_config.specs.declared.realm.RealmKind.TheVariants.{Aggregate, Caching}
use Rattle.ely_config.specs.declared.fault.Reference.{Reference}
use Rattle.ely_config.specs.declared.fault.Reference.TheVariants as references
use Rattle.ely_config.specs.declared.fault.RealmFault.{RealmFault}
use Rattle.ely_config.specs.declared.fault.RealmFault.TheVariants as realm_faults
use Rattle.ely_config.specs.Realms.{realm_named, is_basic, is_uncached, stands_at, found_fault, reference_fault, first_reference, aggregate_fault, caching_fault, kind_fault, AreSound, RefersTo}
use Rattle.ely_config.proofs.RealmLemmas.{none_parts, passed, kind_at}

some_is_none : {x : RealmFault} → ◌≡◌ {A = Option RealmFault} (Some x) None → ⊥
some_is_none h = cc

-- the references that are left, from one on
pub first_more : (all : List RealmConfig) (names : List (List ℕ)) (at : ℕ) (name : List ℕ) → at < length names → name ≡ get_or names at name
    → first_reference all at (drop at names)
    ≡ option_or (reference_fault all (references.Authorization at) name) (first_reference all (at + 1) (drop (at + 1) names))
first_more all names at name here is =
    at_drop_more (first_reference all at) names at name here
    ∙ ap (λ n. option_or (reference_fault all (references.Authorization at) n) (first_reference all (at + 1) (drop (at + 1) names))) (sym is)

-- a reference that is taken is to a realm that is there, of a kind that can stand at it
pub reference_there : (reference : Reference) (all : List RealmConfig) (name : List ℕ) → reference_fault all reference name ≡ None
    → RefersTo (stands_at reference) all name
reference_there reference all name h = by (realm_named all name) refl h
  where
    by : (found : Option RealmConfig) → realm_named all name ≡ found → found_fault reference found ≡ None → RefersTo (stands_at reference) all name
    by None is h = absurd (some_is_none h)
    by (Some realm) is h = (realm, is, passed (stands_at reference realm.kind) (realm_faults.Nested reference) h)

-- and so is each of those for attributes
pub references_there : (all : List RealmConfig) (at : ℕ) (names : List (List ℕ)) (k : ℕ) (name : List ℕ) → first_reference all at names ≡ None
    → slice_get names k ≡ Some name → RefersTo is_basic all name
references_there all at [] k name h is = absurd (none-some name is)
references_there all at (x ∷ xs) zero name h is =
    subst (RefersTo is_basic all) (same_Some x name is) (reference_there (references.Authorization at) all x (none_parts _ _ h).0)
references_there all at (x ∷ xs) (suc k) name h is = references_there all (at + 1) xs k name (none_parts _ _ h).1 is

-- a number of 1 to so many
bounds : (n most : ℕ) → (leb 1 n && leb n most) ≡ true → (1 ≤ n) × (n ≤ most)
bounds n most h =
    let parts = and_parts (leb 1 n) (leb n most) h in
    (leb-true 1 n parts.0, leb-true n most parts.1)

module _ (digest_realm : List ℕ) (realms : List RealmConfig) (sound : AreSound digest_realm realms) (i : ℕ) (realm : RealmConfig)
    (here : slice_get realms i ≡ Some realm) where
  taken : kind_fault digest_realm realms realm.kind ≡ None
  taken = kind_at digest_realm realms [] realms i realm sound.none here

  module _ (of : List ℕ) (limit : ℕ) (is : realm.kind ≡ Caching of limit) where
    caching_taken : caching_fault realms of limit ≡ None
    caching_taken = subst (λ kind. kind_fault digest_realm realms kind ≡ None) is taken

    -- a cache keeps 1 to 65,536 keys
    pub limit_kept : (1 ≤ limit) × (limit ≤ 65536)
    limit_kept = bounds limit 65536 (passed _ realm_faults.Limit (none_parts _ _ caching_taken).0)

    -- of a realm that is there and keeps none itself
    pub of_there : RefersTo is_uncached realms of
    of_there = reference_there references.Of realms of (none_parts _ _ caching_taken).1

  module _ (authentication : List ℕ) (authorization : List (List ℕ)) (is : realm.kind ≡ Aggregate authentication authorization) where
    aggregate_taken : aggregate_fault realms authentication authorization ≡ None
    aggregate_taken = subst (λ kind. kind_fault digest_realm realms kind ≡ None) is taken

    -- an aggregate has the credentials of a realm that is there and has identities of its own
    pub authentication_there : RefersTo is_basic realms authentication
    authentication_there = reference_there references.Authentication realms authentication (none_parts _ _ (none_parts _ _ aggregate_taken).1).0

    -- and so it is with each of which it has attributes
    pub authorization_there : (k : ℕ) (name : List ℕ) → slice_get authorization k ≡ Some name → RefersTo is_basic realms name
    authorization_there k name = references_there realms 0 authorization k name (none_parts _ _ (none_parts _ _ aggregate_taken).1).1
