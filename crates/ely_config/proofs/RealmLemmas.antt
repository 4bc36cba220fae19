-- Realms that are taken one after another, and what holds of realms all of which are taken.
use Rattle.std.proofs.Common.{◌≡◌, ℕ, ◌+◌, ◌<◌, ◌≤◌, Bool, true, false, List, [], ◌∷◌, ◌++◌, length, take, drop, Option, Some, None, get_or, refl, sym, ap, subst, ◌∙◌, ◌||◌, append_assoc, append-nil, bytes_eq, arith}
use Rattle.std.specs.Prelude.{slice_get, not, zero, suc}
use Rattle.std.specs.Option.{option_or}
use Rattle.std.specs.List.{list_any}
use Rattle.std.proofs.lemmas.List.{length-take-le, take_more, drop_more, drop_all}
use Rattle.std.proofs.lemmas.List.Folds.{list_any-append}
use Rattle.std.proofs.lemmas.Bool.{or_parts}
use Rattle.std.proofs.lemmas.Option.{none-some, same_Some}
use Rattle.ely_row.specs.Salts.{is_realm}
use Rattle.ely_config.specs.declared.realm.RealmConfig.{RealmConfig}
use Rattle.ely_config.specs.declared.fault.RealmFault.{RealmFault}
use Rattle.ely_config.specs.declared.fault.RealmFault.TheVariants as realm_faults
use Rattle.ely_config.specs.declared.fault.ConfigFault.{ConfigFault}
use Rattle.ely_config.specs.declared.fault.ConfigFault.TheVariants as faults
use Rattle.ely_config.specs.declared.members.Members.{Members}
use Rattle.ely_config.specs.Realms.{unless, are_few, kind_fault, is_named, realm_fault, at_realm, realms_fault, AreSound}
use Rattle.ely_config.specs.Configs.{bounds_fault, config_fault, IsSound, plain_config}

-- the realms in front of this index are taken
pub record Passed (digest_realm : List ℕ) (realms : List RealmConfig) (at : ℕ) : Type 0 where
  pub within : at ≤ length realms
  pub left : realms_fault digest_realm realms [] realms ≡ realms_fault digest_realm realms (take at realms) (drop at realms)

module _ (digest_realm : List ℕ) (realms : List RealmConfig) (at : ℕ) (realm : RealmConfig)
    (here : at < length realms) (is : realm ≡ get_or realms at realm) where
  in_front : length (take at realms) ≡ at
  in_front = length-take-le at realms (omega (arith, here))

  behind : drop at realms ≡ realm ∷ drop (at + 1) realms
  behind =
      drop_more realms at realm here
      ∙ ap (λ r. r ∷ drop (at + 1) realms) (sym is)

  one_more : take (at + 1) realms ≡ take at realms ++ realm ∷ []
  one_more =
      take_more realms at realm here
      ∙ ap (λ r. take at realms ++ r ∷ []) (sym is)

  unfolded : (all : List RealmConfig) → realms_fault digest_realm all (take at realms) (drop at realms)
      ≡ at_realm at (realm_fault digest_realm all (take at realms) realm) (realms_fault digest_realm all (take (at + 1) realms) (drop (at + 1) realms))
  unfolding realms_fault
  unfolded all = rw (behind, one_more, in_front) refl

  -- the realm at the index is the first that isn't taken
  pub refused : (fault : RealmFault) → Passed digest_realm realms at → realm_fault digest_realm realms (take at realms) realm ≡ Some fault
      → Some (faults.Realm at fault) ≡ realms_fault digest_realm realms [] realms
  refused fault passed taken = sym (passed.left ∙ unfolded realms ∙ rw taken refl)

  -- it is taken
  pub passes : Passed digest_realm realms at → realm_fault digest_realm realms (take at realms) realm ≡ None → Passed digest_realm realms (at + 1)
  passes passed taken = record {
    within = omega (arith, here);
    left = passed.left ∙ unfolded realms ∙ rw taken refl;
  }

-- all are taken where none is left
pub all_passed : (digest_realm : List ℕ) (realms : List RealmConfig) (at : ℕ) → length realms ≤ at → Passed digest_realm realms at
    → None ≡ realms_fault digest_realm realms [] realms
unfolding realms_fault
all_passed digest_realm realms at none passed =
    let past : drop at realms ≡ [] = drop_all at realms none in
    sym (passed.left ∙ rw past refl)

-- nothing stands against what holds where nothing is said
pub plain_sound : IsSound plain_config
unfolding config_fault realms_fault
plain_sound = refl

-- ---- faults that are looked for in turn

-- where no fault is found, neither the first part has one nor the others
pub none_parts : {F : Type 0} (first others : Option F) → option_or first others ≡ None → (first ≡ None) × (others ≡ None)
none_parts None others h = (refl, h)
none_parts (Some fault) others h = absurd (some_is_none fault h)
  where
    some_is_none : {F : Type 0} (fault : F) → ◌≡◌ {A = Option F} (Some fault) None → ⊥
    some_is_none fault h = cc

-- and each test is passed
pub passed : {F : Type 0} (test : Bool) (fault : F) → unless test fault ≡ None → test ≡ true
passed true fault h = refl
passed false fault h = absurd (some_is_none fault h)
  where
    some_is_none : {F : Type 0} (fault : F) → ◌≡◌ {A = Option F} (Some fault) None → ⊥
    some_is_none fault h = cc

-- ---- what holds of realms all of which are taken

-- where no fault is told, there is none here and none later
pub at_none : (count : ℕ) (fault : Option RealmFault) (later : Option ConfigFault) → at_realm count fault later ≡ None
    → (fault ≡ None) × (later ≡ None)
at_none count None later h = (refl, h)
at_none count (Some fault) later h = absurd (some_is_none h)
  where
    some_is_none : ◌≡◌ {A = Option ConfigFault} (Some (faults.Realm count fault)) None → ⊥
    some_is_none h = cc

-- a realm that is taken has a name of its own, and its kind is taken
pub taken_parts : (digest_realm : List ℕ) (all before : List RealmConfig) (realm : RealmConfig) → realm_fault digest_realm all before realm ≡ None
    → (is_named before realm.name ≡ false) × (kind_fault digest_realm all realm.kind ≡ None)
taken_parts digest_realm all before realm h =
    let parts = none_parts _ _ h in
    let own : not (is_named before realm.name) ≡ true = passed (not (is_named before realm.name)) realm_faults.Twice parts.0 in
    (by (is_named before realm.name) own, (none_parts _ _ parts.1).1)
  where
    by : (named : Bool) → not named ≡ true → named ≡ false
    by true h = sym h
    by false h = refl

-- each realm is taken behind those in front of it
pub taken_at : (digest_realm : List ℕ) (all before done : List RealmConfig) (realm : RealmConfig) (rest : List RealmConfig)
    → realms_fault digest_realm all before (done ++ realm ∷ rest) ≡ None → realm_fault digest_realm all (before ++ done) realm ≡ None
unfolding realms_fault
taken_at digest_realm all before [] realm rest h = rw (append-nil before) (at_none _ _ _ h).0
taken_at digest_realm all before (x ∷ done) realm rest h =
    subst (λ front. realm_fault digest_realm all front realm ≡ None) (append_assoc before (x ∷ []) done)
    (taken_at digest_realm all (before ++ x ∷ []) done realm rest (at_none _ _ _ h).1)

-- and its kind is taken, by its number
pub kind_at : (digest_realm : List ℕ) (all before realms : List RealmConfig) (i : ℕ) (realm : RealmConfig)
    → realms_fault digest_realm all before realms ≡ None → slice_get realms i ≡ Some realm → kind_fault digest_realm all realm.kind ≡ None
unfolding realms_fault
kind_at digest_realm all before [] i realm h is = absurd (none-some realm is)
kind_at digest_realm all before (x ∷ xs) zero realm h is =
    subst (λ r. kind_fault digest_realm all r.kind ≡ None) (same_Some x realm is) (taken_parts digest_realm all before x (at_none _ _ _ h).0).1
kind_at digest_realm all before (x ∷ xs) (suc i) realm h is = kind_at digest_realm all (before ++ x ∷ []) xs i realm (at_none _ _ _ h).1 is

-- no realm has the name of one in front of it
pub apart_from : (digest_realm : List ℕ) (all front : List RealmConfig) (realm : RealmConfig) (back rest : List RealmConfig)
    → realms_fault digest_realm all (front ++ realm ∷ back) rest ≡ None
    → list_any (λ other. bytes_eq realm.name other.name) rest ≡ false
unfolding realms_fault
apart_from digest_realm all front realm back [] h = refl
apart_from digest_realm all front realm back (y ∷ ys) h =
    let here = (taken_parts digest_realm all (front ++ realm ∷ back) y (at_none _ _ _ h).0).0 in
    let among : (list_any (λ other. bytes_eq other.name y.name) front || (bytes_eq realm.name y.name || list_any (λ other. bytes_eq other.name y.name) back)) ≡ false =
    sym (list_any-append (λ other. bytes_eq other.name y.name) front (realm ∷ back)) ∙ here in
    let other : bytes_eq realm.name y.name ≡ false = (or_parts _ _ (or_parts _ _ among).1).0 in
    let left : realms_fault digest_realm all ((front ++ realm ∷ back) ++ y ∷ []) ys ≡ None = (at_none _ _ _ h).1 in
    let later = apart_from digest_realm all front realm (back ++ y ∷ []) ys (subst (λ before. realms_fault digest_realm all before ys ≡ None) (append_assoc front (realm ∷ back) (y ∷ [])) left) in
    rw (other, later) refl

-- of a sound configuration the realm of Digest can be announced, and the realms are taken
pub sound_realms : (members : Members) → IsSound members → AreSound members.digest_realm members.realms
unfolding config_fault
sound_realms members sound =
    let parts = none_parts (bounds_fault members) _ sound in
    let bounds = none_parts (unless (is_realm members.digest_realm) faults.DigestRealm) _ parts.0 in
    record {
      announced = passed (is_realm members.digest_realm) faults.DigestRealm bounds.0;
      few = passed (are_few members.realms) faults.Realms (none_parts _ _ bounds.1).0;
      none = (none_parts (realms_fault members.digest_realm members.realms [] members.realms) _ parts.1).0;
    }
