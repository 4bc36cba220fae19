-- The realm that a name belongs to, and the rule of that realm.
use Rattle.std.specs.Prelude.{ℕ, List, find, Option, Some, None, option_and_then, unwrap_or, Result, Ok}
use Rattle.std.specs.Option.{option_map, ok_or}
use Rattle.std.specs.Str.{bytes_eq}
use Rattle.ely_pipeline.specs.declared.place.PipeFault.{PipeFault}
use Rattle.ely_pipeline.specs.declared.place.PipeFault.TheVariants.{NoRealm}
use Rattle.ely_pipeline.specs.Cuts.{part_after}
use Rattle.ely_pipeline.specs.Rules.{target_of}
use Rattle.ely_pipeline.specs.declared.rule.Rule.{Rule}
use Rattle.ely_pipeline.specs.declared.mapper.RealmMapper.{RealmMapper}
use Rattle.ely_pipeline.specs.declared.mapper.RealmMapper.TheVariants.{Constant, MapAfter, TakeAfter}

-- the realms by their names, each with the rule for its names, where it has one
abbrev pub Realms : Type 0
Realms = List (List ℕ × Option Rule)

-- the first realm of that name
abbrev pub realm_named : Realms → List ℕ → Option (List ℕ × Option Rule)
realm_named realms name = find (λ realm. bytes_eq name realm.0) realms

-- the rule of the realm of that name
abbrev pub rule_of : Realms → List ℕ → Option Rule
rule_of realms name = option_and_then (λ realm. realm.1) (realm_named realms name)

-- the realm of the first pair with the part, and the default realm where there is no part or no pair
abbrev pub mapped_realm : List (List ℕ × List ℕ) → List ℕ → Option (List ℕ) → List ℕ
mapped_realm pairs default part = unwrap_or (option_and_then (λ text. target_of text pairs) part) default

-- the realm whose name is the part, and the default realm where there is no part
abbrev pub taken_realm : Realms → List ℕ → Option (List ℕ) → Result (List ℕ) PipeFault
taken_realm realms default None = Ok default
taken_realm realms default (Some part) = ok_or (option_map (λ realm. realm.0) (realm_named realms part)) (NoRealm part)

-- the realm that a mapper gives of a name, or that no realm has the name that it gives
abbrev pub realm_by : Realms → List ℕ → Option RealmMapper → List ℕ → Result (List ℕ) PipeFault
realm_by realms default None name = Ok default
realm_by realms default (Some (Constant realm)) name = Ok realm
realm_by realms default (Some (MapAfter mark pairs)) name = Ok (mapped_realm pairs default (part_after mark name))
realm_by realms default (Some (TakeAfter mark)) name = taken_realm realms default (part_after mark name)
