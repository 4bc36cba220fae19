-- What is read at each level.
use Rattle.std.proofs.Common.{◌≡◌, ◌∙◌, ℕ, zero, suc, None, Some, refl, ap, codes}
use Rattle.std.specs.Option.{option_and_then}
use Rattle.serde_json.specs.Data.{Data, Members as Object}
use Rattle.serde_json.specs.Find.{as_object}
use Rattle.ely_config_json.specs.Parts.{by_word}
use Rattle.ely_config_json.specs.Rules.{rule_in, rule_of}
use Rattle.ely_config_json.specs.RoleMappers.{role_mapper_in, role_mapper_of}

-- ---- rules

-- no rule is there where it may nest no level deep
pub rule_of-zero : (value : Data) → rule_of 0 value ≡ None
unfolding rule_of
rule_of-zero value = refl

-- a rule is that of an object, with rules in it that nest a level less deep
pub rule_of-suc : (levels : ℕ) (value : Data) → rule_of (suc levels) value ≡ option_and_then (by_word (rule_in (rule_of levels)) (codes "rule")) (as_object value)
unfolding rule_of
rule_of-suc levels value = refl

-- what is no object is no rule
pub rule_of-none : (levels : ℕ) (value : Data) → as_object value ≡ None → rule_of levels value ≡ None
rule_of-none zero value none = rule_of-zero value
rule_of-none (suc levels) value none = rule_of-suc levels value ∙ rw none refl

-- the rule of an object
pub rule_of-object : (levels below : ℕ) (value : Data) (object : Object) → levels ≡ suc below → as_object value ≡ Some object
    → rule_of levels value ≡ by_word (rule_in (rule_of below)) (codes "rule") object
rule_of-object levels below value object next is = ap (λ n. rule_of n value) next ∙ rule_of-suc below value ∙ rw is refl

-- ---- role mappers

-- no mapper is there where it may nest no level deep
pub role_mapper_of-zero : (value : Data) → role_mapper_of 0 value ≡ None
unfolding role_mapper_of
role_mapper_of-zero value = refl

-- a mapper is that of an object, with mappers in it that nest a level less deep
pub role_mapper_of-suc : (levels : ℕ) (value : Data)
    → role_mapper_of (suc levels) value ≡ option_and_then (by_word (role_mapper_in (role_mapper_of levels)) (codes "rule")) (as_object value)
unfolding role_mapper_of
role_mapper_of-suc levels value = refl

-- what is no object is no mapper
pub role_mapper_of-none : (levels : ℕ) (value : Data) → as_object value ≡ None → role_mapper_of levels value ≡ None
role_mapper_of-none zero value none = role_mapper_of-zero value
role_mapper_of-none (suc levels) value none = role_mapper_of-suc levels value ∙ rw none refl

-- the mapper of an object
pub role_mapper_of-object : (levels below : ℕ) (value : Data) (object : Object) → levels ≡ suc below → as_object value ≡ Some object
    → role_mapper_of levels value ≡ by_word (role_mapper_in (role_mapper_of below)) (codes "rule") object
role_mapper_of-object levels below value object next is = ap (λ n. role_mapper_of n value) next ∙ role_mapper_of-suc below value ∙ rw is refl
