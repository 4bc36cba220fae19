-- The reloads with which a journal begins: nothing stands against any of them.
use Rattle.std.proofs.Common.{◌≡◌, ℕ, ◌+◌, ◌<◌, ◌≤◌, true, false, leb, List, [], ◌∷◌, ◌++◌, length, take, drop, get_or, Option, Some, None, Result, Ok, Err, refl, sym, ap, subst, ◌∙◌, ◌||◌, ◌&&◌, bytes_eq, append-nil, leb-true, suc, arith}
use Rattle.std.specs.List.{AllByRecursion, list_all, list_any, filter_map, cons_option}
use Rattle.std.proofs.lemmas.Bool.{and_parts, or_parts}
use Rattle.std.proofs.lemmas.Bool.Decides.{nat_tests}
use Rattle.std.proofs.lemmas.List.Elements.{filter_map-append}
use Rattle.std.proofs.lemmas.List.{length-append, take_more, drop_more, take-append-drop}
use Rattle.std.proofs.lemmas.Slice.Eq.{bytes_eq-Decides}
use Rattle.std.proofs.lemmas.Option.{same_Some}
use Rattle.ely_row.specs.declared.edit.Edit.{Edit}
use Rattle.ely_row.specs.declared.cred.Credential.{Credential}
use Rattle.ely_row.specs.declared.edit.PropFault.{PropFault}
use Rattle.ely_row.specs.Edits.{Texts, realm_of}
use Rattle.ely_row.specs.Salts.{is_realm}
use Rattle.ely_table.specs.declared.class.RealmClass.TheVariants as classes
use Rattle.ely_propfile.specs.Users.{users_of}
use Rattle.ely_propfile.specs.Groups.{groups_of}
use Rattle.ely_table.specs.Reloads.{rows_read, fault_in}
use Rattle.ely_table.specs.Faults.{class_of, class_fault, are_apart, has_realm, texts_of, fault}
use Rattle.ely_config.specs.declared.realm.RealmConfig.{RealmConfig}
use Rattle.ely_config.specs.declared.realm.RealmKind.{RealmKind}
use Rattle.ely_config.specs.declared.realm.RealmKind.TheVariants as kinds
use Rattle.ely_config.specs.declared.fault.RealmFault.{RealmFault}
use Rattle.ely_config.specs.declared.fault.RealmFault.TheVariants as realm_faults
use Rattle.ely_config.specs.Realms.{read_fault, kind_fault, is_named, realms_fault, AreSound}
use Rattle.ely_config.proofs.RealmLemmas.{at_none, none_parts, passed, taken_parts, taken_at, apart_from}
use Rattle.ely_domain.specs.Given.{class_by, classed, loading, loadings}
use Rattle.ely_domain.specs.KeptKeys.{first_list, first_lists, is_cache_sized}

none_is : {A : Type 0} {x : A} → ◌≡◌ {A = Option A} None (Some x) → ⊥
none_is h = cc

module _ (digest_realm : List ℕ) where
  -- the realms keep their names
  same_names : (name : List ℕ) (realms : List RealmConfig)
      → list_any (λ other. bytes_eq name other.0) (classed digest_realm realms) ≡ list_any (λ other. bytes_eq name other.name) realms
  same_names name [] = refl
  same_names name (realm ∷ realms) = ap (λ b. bytes_eq name realm.name || b) (same_names name realms)

  -- and no two have one name
  apart_behind : (all before realms : List RealmConfig) → realms_fault digest_realm all before realms ≡ None
      → are_apart (classed digest_realm realms) ≡ true
  unfolding realms_fault
  apart_behind all before [] h = refl
  apart_behind all before (realm ∷ realms) h =
      let later : realms_fault digest_realm all (before ++ realm ∷ []) realms ≡ None = (at_none _ _ _ h).1 in
      let others = apart_from digest_realm all before realm [] realms later in
      let rest = apart_behind all (before ++ realm ∷ []) realms later in
      rw (same_names realm.name realms, others, rest) refl

  pub apart : (realms : List RealmConfig) → AreSound digest_realm realms → are_apart (classed digest_realm realms) ≡ true
  apart realms sound = apart_behind realms [] realms sound.none

  -- the fallback of each is the realm of Digest
  class_has : is_realm digest_realm ≡ true → (name : List ℕ) (kind : RealmKind) → has_realm (name, class_by digest_realm kind) ≡ true
  class_has is name kinds.Modifiable = refl
  class_has is name (kinds.Properties plain users groups) = is
  class_has is name (kinds.Aggregate authentication authorization) = refl
  class_has is name (kinds.Caching of limit) = refl

  have_realms : is_realm digest_realm ≡ true → (realms : List RealmConfig) → list_all has_realm (classed digest_realm realms) ≡ true
  have_realms is [] = refl
  have_realms is (realm ∷ realms) =
      let rest = have_realms is realms in
      rw (class_has is realm.name realm.kind, rest) refl

  pub fallbacks : (realms : List RealmConfig) → AreSound digest_realm realms → list_all has_realm (classed digest_realm realms) ≡ true
  fallbacks realms sound = have_realms sound.announced realms

  -- a realm with a name of its own has its own class
  class_at : (done : List RealmConfig) (realm : RealmConfig) (rest : List RealmConfig) → is_named done realm.name ≡ false
      → class_of (classed digest_realm (done ++ realm ∷ rest)) realm.name ≡ Some (class_by digest_realm realm.kind)
  class_at [] realm rest free = rw ((bytes_eq-Decides realm.name realm.name).1 refl) refl
  class_at (other ∷ done) realm rest free =
      let parts = or_parts (bytes_eq other.name realm.name) (is_named done realm.name) free in
      let later = class_at done realm rest parts.1 in
      rw parts.0 later

  -- the journal is longer behind a reload than in front of it
  pub loadings_more : (done : List RealmConfig) (realm : RealmConfig) (rest : List RealmConfig) (edit : Edit) → loading realm.name realm.kind ≡ Some edit
      → length (loadings done) < length (loadings (done ++ realm ∷ rest))
  unfolding loadings
  loadings_more done realm rest edit is =
      rw (
        filter_map-append (λ r. loading r.name r.kind) done (realm ∷ rest),
        is,
        length-append (filter_map (λ (r : RealmConfig). loading r.name r.kind) done) (edit ∷ filter_map (λ r. loading r.name r.kind) rest),
      )
      (omega arith)

  -- and it is the reloads of the realms up to that one
  pub loadings_push : (done : List RealmConfig) (realm : RealmConfig) (edit : Edit) → loading realm.name realm.kind ≡ Some edit
      → loadings (done ++ realm ∷ []) ≡ loadings done ++ edit ∷ []
  unfolding loadings
  loadings_push done realm edit is = rw (filter_map-append (λ r. loading r.name r.kind) done (realm ∷ []), is) refl

  pub loadings_same : (done : List RealmConfig) (realm : RealmConfig) → loading realm.name realm.kind ≡ None
      → loadings (done ++ realm ∷ []) ≡ loadings done
  unfolding loadings
  loadings_same done realm is =
      rw (filter_map-append (λ r. loading r.name r.kind) done (realm ∷ []), is) (append-nil (filter_map (λ (r : RealmConfig). loading r.name r.kind) done))

  -- nothing stands against a reload of texts that can be read
  own_class : (all : List RealmConfig) (kind : RealmKind) (name : List ℕ) (edit : Edit) (texts : Texts) (edits : List Edit) → loading name kind ≡ Some edit
      → kind_fault digest_realm all kind ≡ None → class_fault (Some (class_by digest_realm kind)) texts edits edit ≡ None
  own_class all kinds.Modifiable name edit texts edits is none = absurd (none_is is)
  own_class all (kinds.Aggregate authentication authorization) name edit texts edits is none = absurd (none_is is)
  own_class all (kinds.Caching of limit) name edit texts edits is none = absurd (none_is is)
  own_class all (kinds.Properties plain users groups) name edit texts edits is none =
      subst (λ e. class_fault (Some (classes.Properties plain digest_realm)) texts edits e ≡ None) (same_Some _ _ is)
      (by (users_of plain digest_realm users) (groups_of groups) none)
    where
      some_is_none : {x : RealmFault} → ◌≡◌ {A = Option RealmFault} (Some x) None → ⊥
      some_is_none h = cc

      by : (u : Result (List (List ℕ × Credential)) PropFault) (g : Result (List (List ℕ × List (List ℕ))) PropFault)
          → read_fault u g ≡ None → fault_in (rows_read u g) ≡ None
      by (Err fault) g h = absurd (some_is_none h)
      by (Ok u) (Err fault) h = absurd (some_is_none h)
      by (Ok u) (Ok g) h = refl

  name_is : (name : List ℕ) (kind : RealmKind) (edit : Edit) → loading name kind ≡ Some edit → realm_of edit ≡ name
  name_is name kinds.Modifiable edit is = absurd (none_is is)
  name_is name (kinds.Aggregate authentication authorization) edit is = absurd (none_is is)
  name_is name (kinds.Caching of limit) edit is = absurd (none_is is)
  name_is name (kinds.Properties plain users groups) edit is = ap realm_of (sym (same_Some _ _ is))

  pub loads : (limit : ℕ) (done : List RealmConfig) (realm : RealmConfig) (rest : List RealmConfig) (edit : Edit)
      → AreSound digest_realm (done ++ realm ∷ rest) → length (loadings (done ++ realm ∷ rest)) ≤ limit
      → loading realm.name realm.kind ≡ Some edit
      → fault (classed digest_realm (done ++ realm ∷ rest)) limit (loadings done) edit ≡ None
  unfolding fault
  loads limit done realm rest edit sound room is =
      let all = done ++ realm ∷ rest in
      let taken = taken_parts digest_realm all done realm (taken_at digest_realm all [] done realm rest sound.none) in
      let more = loadings_more done realm rest edit is in
      let free : leb limit (length (loadings done)) ≡ false = grind (arith, nat_tests, more, room) in
      rw (free, name_is realm.name realm.kind edit is, class_at done realm rest taken.0)
      (own_class all realm.kind realm.name edit (texts_of (classed digest_realm all)) (loadings done) is taken.1)

  -- the same by the index of a realm
  module _ (realms : List RealmConfig) (at : ℕ) (realm : RealmConfig) (here : at < length realms) (is : realm ≡ get_or realms at realm) where
    one_more : take (at + 1) realms ≡ take at realms ++ realm ∷ []
    one_more = take_more realms at realm here ∙ ap (λ r. take at realms ++ r ∷ []) (sym is)

    whole : take at realms ++ realm ∷ drop (at + 1) realms ≡ realms
    whole =
        ap (λ rest. take at realms ++ rest) (sym (drop_more realms at realm here ∙ ap (λ r. r ∷ drop (at + 1) realms) (sym is)))
        ∙ take-append-drop at realms

    pub loads_at : (limit : ℕ) (edit : Edit) → AreSound digest_realm realms → length (loadings realms) ≤ limit
        → loading realm.name realm.kind ≡ Some edit
        → fault (classed digest_realm realms) limit (loadings (take at realms)) edit ≡ None
    loads_at limit edit sound room load =
        subst (λ all. fault (classed digest_realm all) limit (loadings (take at realms)) edit ≡ None) whole
        (loads limit (take at realms) realm (drop (at + 1) realms) edit (subst (AreSound digest_realm) (sym whole) sound)
        (subst (λ all. length (loadings all) ≤ limit) (sym whole) room) load)

    pub loaded_next : (edit : Edit) → loading realm.name realm.kind ≡ Some edit
        → loadings (take at realms) ++ edit ∷ [] ≡ loadings (take (at + 1) realms)
    loaded_next edit load = sym (ap loadings one_more ∙ loadings_push (take at realms) realm edit load)

    -- with a caching realm comes an empty list
    pub lists_next : first_lists (take at realms) ++ cons_option (first_list realm.name realm.kind) [] ≡ first_lists (take (at + 1) realms)
    lists_next = sym (ap first_lists one_more ∙ filter_map-append (λ (r : RealmConfig). first_list r.name r.kind) (take at realms) (realm ∷ []))

    pub same_next : loading realm.name realm.kind ≡ None → loadings (take at realms) ≡ loadings (take (at + 1) realms)
    same_next load = sym (ap loadings one_more ∙ loadings_same (take at realms) realm load)

-- a configuration has at most 16 realms, so its journal begins with at most so many edits
few_loadings : (realms : List RealmConfig) → length (loadings realms) ≤ length realms
unfolding loadings
few_loadings [] = omega arith
few_loadings (realm ∷ realms) = by (loading realm.name realm.kind) (few_loadings realms)
  where
    by : (o : Option Edit) → length (filter_map (λ (r : RealmConfig). loading r.name r.kind) realms) ≤ length realms
        → length (cons_option o (filter_map (λ (r : RealmConfig). loading r.name r.kind) realms)) ≤ suc (length realms)
    by None few = omega (arith, few)
    by (Some edit) few = omega (arith, few)

pub loadings_few : (digest_realm : List ℕ) (realms : List RealmConfig) → AreSound digest_realm realms → length (loadings realms) ≤ 16
loadings_few digest_realm realms sound =
    let few = few_loadings realms in
    let few_realms = sound.few in
    let within : length realms ≤ 16 = leb-true (length realms) 16 (and_parts (leb 1 (length realms)) (leb (length realms) 16) few_realms).1 in
    omega (arith, few, within)

-- ---- caches

module _ (digest_realm : List ℕ) (all : List RealmConfig) where
  -- a realm that is taken keeps 1 to 65,536 keys, where it keeps any
  sized : (kind : RealmKind) → kind_fault digest_realm all kind ≡ None → is_cache_sized kind ≡ true
  sized kinds.Modifiable none = refl
  sized (kinds.Properties plain users groups) none = refl
  sized (kinds.Aggregate authentication authorization) none = refl
  sized (kinds.Caching of limit) none = passed (leb 1 limit && leb limit 65536) realm_faults.Limit (none_parts _ _ none).0

  all_sized : (before realms : List RealmConfig) → realms_fault digest_realm all before realms ≡ None
      → AllByRecursion (λ realm. is_cache_sized realm.kind ≡ true) realms
  unfolding realms_fault
  all_sized before [] none = tt
  all_sized before (realm ∷ realms) none =
      let parts = at_none _ _ _ none in
      (sized realm.kind (taken_parts digest_realm all before realm parts.0).1, all_sized (before ++ realm ∷ []) realms parts.1)

pub caches_sized : (digest_realm : List ℕ) (realms : List RealmConfig) → AreSound digest_realm realms
    → AllByRecursion (λ realm. is_cache_sized realm.kind ≡ true) realms
caches_sized digest_realm realms sound = all_sized digest_realm realms [] realms sound.none
