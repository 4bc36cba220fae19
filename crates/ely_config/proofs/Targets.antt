-- Names are led to realms that are there.
use Rattle.std.proofs.Common.{◌≡◌, ℕ, ◌+◌, Bool, true, false, not, ◌&&◌, ◌||◌, cond, List, [], ◌∷◌, map, Option, Some, None, Result, Ok, Err, refl, sym, ap, ◌∙◌, bytes_eq}
use Rattle.std.specs.Prelude.{find, option_and_then, unwrap_or, IsSome}
use Rattle.std.specs.List.{list_any, position_from}
use Rattle.std.specs.Map.{lookup}
use Rattle.std.specs.Option.{option_map, ok_or}
use Rattle.std.proofs.lemmas.Bool.{and_parts}
use Rattle.std.proofs.lemmas.Iterator.Adapters.{position_from-zero}
use Rattle.std.proofs.lemmas.Slice.Eq.{bytes_eq-Decides, slice_eq-Decides}
use Rattle.ely_base.specs.Refused.{◌>>=◌}
use Rattle.ely_pipeline.specs.declared.mapper.RealmMapper.{RealmMapper}
use Rattle.ely_pipeline.specs.declared.mapper.RealmMapper.TheVariants.{Constant, MapAfter, TakeAfter}
use Rattle.ely_pipeline.specs.declared.place.PipeFault.TheVariants.{Undecoded, PreRealm, PostRealm, RealmStep, NoRealm}
use Rattle.ely_pipeline.specs.declared.place.Place.{Place}
use Rattle.ely_pipeline.specs.declared.pipeline.Pipeline.{Pipeline}
use Rattle.ely_pipeline.specs.declared.rule.Rule.{Rule}
use Rattle.ely_pipeline.specs.Bounds.{pipeline_fits}
use Rattle.ely_pipeline.specs.Cuts.{part_after}
use Rattle.ely_pipeline.specs.Realms.{Realms, realm_by, taken_realm, rule_of}
use Rattle.ely_pipeline.specs.Places.{after_stage, place_of}
use Rattle.ely_config.specs.declared.members.Members.{Members}
use Rattle.ely_config.specs.declared.realm.RealmConfig.{RealmConfig}
use Rattle.ely_config.specs.declared.fault.ConfigFault.TheVariants as faults
use Rattle.ely_config.specs.Realms.{is_named, realm_named, realms_fault}
use Rattle.ely_config.specs.Configs.{names_of, knows, bounds_fault, missing_realm, config_fault, IsSound}
use Rattle.ely_config.proofs.RealmLemmas.{none_parts, passed}

some_is_none : {A : Type 0} {x : A} → ◌≡◌ {A = Option A} (Some x) None → ⊥
some_is_none h = cc

err_is_ok : {A F : Type 0} {x : A} {f : F} → ◌≡◌ {A = Result A F} (Err f) (Ok x) → ⊥
err_is_ok h = cc

same_ok : {A F : Type 0} {x y : A} → ◌≡◌ {A = Result A F} (Ok x) (Ok y) → x ≡ y
same_ok h = cc

-- ---- lists of names

-- no pair leads to a realm that isn't there, so that which is looked up doesn't
target_there : (test : List ℕ → Bool) (pairs : List (List ℕ × List ℕ)) (i : ℕ) (text target : List ℕ)
    → position_from (λ pair. not (test pair.1)) i pairs ≡ None → lookup (bytes_eq text) pairs ≡ Some target → test target ≡ true
target_there test [] i text target none is = absurd (some_is_none (sym is))
target_there test (pair ∷ pairs) i text target none is =
    by (test pair.1) (bytes_eq text pair.0) refl (target_there test pairs (i + 1) text target) none is
  where
    by : (there here : Bool) → there ≡ test pair.1
        → (position_from (λ pair. not (test pair.1)) (i + 1) pairs ≡ None → lookup (bytes_eq text) pairs ≡ Some target → test target ≡ true)
        → cond (not there) (Some i) (position_from (λ pair. not (test pair.1)) (i + 1) pairs) ≡ None
        → cond here (Some pair.1) (lookup (bytes_eq text) pairs) ≡ Some target → test target ≡ true
    by false here same later none is = absurd (some_is_none none)
    by true true same later none is = let e : pair.1 ≡ target = cc in ap test (sym e) ∙ sym same
    by true false same later none is = later none is

-- what is found has a name of the list
found_named : (known : Realms) (name : List ℕ) (found : List ℕ × Option Rule) → find (λ realm. bytes_eq name realm.0) known ≡ Some found
    → list_any (λ other. bytes_eq other found.0) (map (λ realm. realm.0) known) ≡ true
found_named [] name found is = absurd (some_is_none (sym is))
found_named (realm ∷ known) name found is = by (bytes_eq name realm.0) (found_named known name found) is
  where
    own : (here rest : Bool) → here ≡ true → (here || rest) ≡ true
    own true rest h = refl
    own false rest h = absurd cc

    others : (here rest : Bool) → rest ≡ true → (here || rest) ≡ true
    others true rest h = refl
    others false rest h = h

    by : (here : Bool)
        → (find (λ realm. bytes_eq name realm.0) known ≡ Some found → list_any (λ other. bytes_eq other found.0) (map (λ realm. realm.0) known) ≡ true)
        → cond here (Some realm) (find (λ realm. bytes_eq name realm.0) known) ≡ Some found
        → (bytes_eq realm.0 found.0 || list_any (λ other. bytes_eq other found.0) (map (λ realm. realm.0) known)) ≡ true
    by true later h = let e : realm ≡ found = cc in own (bytes_eq realm.0 found.0) _ ((bytes_eq-Decides realm.0 found.0).1 (ap (λ r. r.0) e))
    by false later h = others (bytes_eq realm.0 found.0) _ (later h)

-- a name is a realm's where it is among the names of the realms
named_among : (realms : List RealmConfig) (name : List ℕ) → list_any (λ other. bytes_eq other name) (names_of realms) ≡ is_named realms name
named_among [] name = refl
named_among (realm ∷ realms) name = ap (λ b. bytes_eq realm.name name || b) (named_among realms name)

-- and then it is found
named_found : (realms : List RealmConfig) (name : List ℕ) → is_named realms name ≡ true → IsSome (realm_named realms name)
named_found [] name h = absurd cc
named_found (realm ∷ realms) name h = by (bytes_eq realm.name name) (named_found realms name) h
  where
    by : (here : Bool) → (is_named realms name ≡ true → IsSome (realm_named realms name))
        → (here || is_named realms name) ≡ true → IsSome (cond here (Some realm) (realm_named realms name))
    by true later h = refl
    by false later h = later h

-- ---- the realm of a name

module _ (realms : List RealmConfig) (known : Realms) (default : List ℕ) (default_there : is_named realms default ≡ true)
    (same : map (λ realm. realm.0) known ≡ names_of realms) where
  mapped_there : (pairs : List (List ℕ × List ℕ)) (part : Option (List ℕ))
      → position_from (λ pair. not (is_named realms pair.1)) 0 pairs ≡ None
      → is_named realms (unwrap_or (option_and_then (λ text. lookup (bytes_eq text) pairs) part) default) ≡ true
  mapped_there pairs None none = default_there
  mapped_there pairs (Some text) none = by (lookup (bytes_eq text) pairs) refl
    where
      by : (target : Option (List ℕ)) → target ≡ lookup (bytes_eq text) pairs → is_named realms (unwrap_or target default) ≡ true
      by None is = default_there
      by (Some target) is = target_there (is_named realms) pairs 0 text target none (sym is)

  taken_there : (part : Option (List ℕ)) (realm : List ℕ) → taken_realm known default part ≡ Ok realm → is_named realms realm ≡ true
  taken_there None realm is = ap (is_named realms) (sym (same_ok is)) ∙ default_there
  taken_there (Some text) realm is = by (find (λ realm. bytes_eq text realm.0) known) refl is
    where
      by : (found : Option (List ℕ × Option Rule)) → found ≡ find (λ realm. bytes_eq text realm.0) known
          → ok_or (option_map (λ realm. realm.0) found) (NoRealm text) ≡ Ok realm → is_named realms realm ≡ true
      by None found is = absurd (err_is_ok is)
      by (Some realm_found) found is =
          ap (is_named realms) (sym (same_ok is))
          ∙ sym (named_among realms realm_found.0)
          ∙ ap (list_any (λ other. bytes_eq other realm_found.0)) (sym same)
          ∙ found_named known text realm_found (sym found)

  realm_there : (mapper : Option RealmMapper) (name realm : List ℕ) → option_and_then (missing_realm realms) mapper ≡ None
      → realm_by known default mapper name ≡ Ok realm → is_named realms realm ≡ true
  realm_there None name realm none is = ap (is_named realms) (sym (same_ok is)) ∙ default_there
  realm_there (Some (Constant always)) name realm none is =
      ap (is_named realms) (sym (same_ok is)) ∙ passed (is_named realms always) 0 none
  realm_there (Some (MapAfter mark pairs)) name realm none is =
      ap (is_named realms) (sym (same_ok is))
      ∙ mapped_there pairs (part_after mark name) (sym (position_from-zero (λ pair. not (is_named realms pair.1)) pairs) ∙ none)
  realm_there (Some (TakeAfter mark)) name realm none is = taken_there (part_after mark name) realm is

-- ---- the place of a name

stage_passed : {A B F : Type 0} (first : Result A F) (next : A → Result B F) (last : B) → (first >>= next) ≡ Ok last
    → (x : A) × (first ≡ Ok x) × (next x ≡ Ok last)
stage_passed (Ok x) next last h = (x, refl, h)
stage_passed (Err fault) next last h = absurd (err_is_ok h)

place_in : (pipe : Pipeline) (name : List ℕ) (place : Place) → place_of pipe name ≡ Ok place
    → (known : List ℕ) × (realm_by pipe.realms pipe.default_realm pipe.mapper known ≡ Ok place.realm)
unfolding place_of
place_in pipe name place is =
    let decoded = stage_passed (after_stage Undecoded pipe.decoder name) _ place is in
    let known = stage_passed (after_stage PreRealm pipe.pre decoded.0) _ place decoded.2 in
    let realm = stage_passed (realm_by pipe.realms pipe.default_realm pipe.mapper known.0) _ place known.2 in
    let settled = stage_passed (after_stage PostRealm pipe.post known.0) _ place realm.2 in
    let final = stage_passed (after_stage RealmStep (rule_of pipe.realms realm.0) settled.0) _ place settled.2 in
    (known.0, realm.1 ∙ ap Ok (ap (λ (p : Place). p.realm) (same_ok final.2)))

-- each place is in a realm that is there
pub places_there : (members : Members) (name : List ℕ) (place : Place) → IsSound members → place_of members.pipeline name ≡ Ok place
    → IsSome (realm_named members.realms place.realm)
unfolding config_fault
places_there members name place sound is =
    let parts = none_parts (bounds_fault members) _ sound in
    let bounds = none_parts _ _ (none_parts _ _ parts.0).1 in
    let pipeline = passed (pipeline_fits members.pipeline && knows members.pipeline members.realms) faults.Pipeline (none_parts _ _ bounds.1).0 in
    let names = (slice_eq-Decides bytes_eq-Decides (map (λ realm. realm.0) members.pipeline.realms) (names_of members.realms) (knows members.pipeline members.realms) refl).0 (and_parts _ _ pipeline).1 in
    let targets = none_parts _ _ (none_parts (realms_fault members.digest_realm members.realms [] members.realms) _ parts.1).1 in
    let led = place_in members.pipeline name place is in
    named_found members.realms place.realm (
    realm_there members.realms members.pipeline.realms members.pipeline.default_realm (passed _ faults.DefaultRealm targets.0) names
    members.pipeline.mapper led.0 place.realm (no_fault _ targets.1) led.1
    )
  where
    no_fault : (missing : Option ℕ) → option_map faults.MappedRealm missing ≡ None → missing ≡ None
    no_fault None h = refl
    no_fault (Some i) h = absurd (some_is_none h)
