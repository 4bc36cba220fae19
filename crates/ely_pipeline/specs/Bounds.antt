-- How deep rules nest, and how many members their lists have.
use Rattle.std.specs.Prelude.{ℕ, ◌-◌, ◌&&◌, Bool, true, nat_le, nat_lt, List, length, Option}
use Rattle.std.specs.List.{list_all}
use Rattle.std.specs.Option.{option_map_or}
use Rattle.ely_pipeline.specs.declared.bounds.TheConstants.{MOST_LEVELS, MOST_MEMBERS}
use Rattle.ely_pipeline.specs.declared.mapper.RealmMapper.{RealmMapper}
use Rattle.ely_pipeline.specs.declared.mapper.RealmMapper.TheVariants.{MapAfter}
use Rattle.ely_pipeline.specs.declared.pipeline.Pipeline.{Pipeline}
use Rattle.ely_pipeline.specs.declared.rule.Rule.{Rule, fold-Rule}
use Rattle.ely_pipeline.specs.declared.rule.Rule.TheOpen.{Rule-F}
use Rattle.ely_pipeline.specs.declared.rule.Rule.TheOpen.Rule-F.{Map, Require, Chain, First}

-- a list has at least one member, and at most as many as are allowed
abbrev pub length_fits : {A : Type 0} → List A → Bool
length_fits members = nat_le 1 (length members) && nat_le (length members) MOST_MEMBERS

-- rules in a list: it has a length that fits, and each passes its own test with the levels that are left for it
abbrev pub each_fits : List (ℕ → Bool) → ℕ → Bool
each_fits tests left = length_fits tests && list_all (λ test. test left) tests

-- what is in a form fits, with the levels that are left below it and each rule inside already seen as its own test
abbrev pub members_fit : Rule-F (ℕ → Bool) → ℕ → Bool
members_fit (Map pairs) left = length_fits pairs
members_fit (Require names) left = length_fits names
members_fit (Chain tests) left = each_fits tests left
members_fit (First tests) left = each_fits tests left
members_fit _ left = true

-- one level of the test, with the levels that are left: where none is left, nothing fits
abbrev pub fits_form : Rule-F (ℕ → Bool) → ℕ → Bool
fits_form form left = nat_lt 0 left && members_fit form (left - 1)

-- a rule nests no deeper than that many levels, and each of its lists has a length that fits
abbrev pub fits_within : Rule → ℕ → Bool
fits_within = fold-Rule (ℕ → Bool) fits_form

-- a rule keeps to the bounds
abbrev pub fits : Rule → Bool
fits rule = fits_within rule MOST_LEVELS

-- a rule keeps to the bounds, where there is one
abbrev pub rule_fits : Option Rule → Bool
rule_fits rule = option_map_or fits rule true

-- a mapper keeps to the bounds
abbrev pub mapper_fits : RealmMapper → Bool
mapper_fits (MapAfter mark pairs) = length_fits pairs
mapper_fits _ = true

-- the rules of all stages and the mapper keep to the bounds, where they are there
abbrev pub pipeline_fits : Pipeline → Bool
pipeline_fits pipe =
    rule_fits pipe.decoder && rule_fits pipe.pre && option_map_or mapper_fits pipe.mapper true && rule_fits pipe.post
    && list_all (λ realm. rule_fits realm.1) pipe.realms
