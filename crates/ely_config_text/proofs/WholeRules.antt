-- Rules without a fault are read.
use Rattle.std.proofs.Common.{◌≡◌, ◌∙◌, true, List, ℕ, zero, suc, Option, Some, None, refl, sym, ap, is_some, codes, ◌-◌, arith, ne_eqb, if◌then◌else◌}
use Rattle.std.specs.Option.{option_and_then, option_map_or}
use Rattle.std.specs.List.{AllByRecursion}
use Rattle.serde_json.specs.Data.{Data, Members as Object}
use Rattle.serde_json.specs.Find.{as_object, get_member}
use Rattle.ely_pipeline.specs.declared.rule.Rule.{Rule}
use Rattle.ely_pipeline.specs.declared.rule.Rule.TheVariants as rules
use Rattle.ely_config_tree.specs.declared.shape.Shape.{Shape}
use Rattle.ely_config_tree.specs.declared.shape.Shape.TheVariants.{Rule as OfRule, Rules, Names, Name, Pairs, RuleWord}
use Rattle.ely_config_tree.specs.declared.step.FaultKind.TheVariants.{Kind, Range}
use Rattle.ely_config_tree.specs.declared.shape.Form.TheVariants as form
use Rattle.ely_config_tree.specs.Shapes.{object_within}
use Rattle.ely_config_tree.specs.Leaves.{deep_fault}
use Rattle.ely_config_tree.specs.Table as table
use Rattle.ely_config_tree.specs.Tree.{member_shape, members_fault}
use Rattle.ely_config_tree.proofs.Faultless.{fault_by_form}
use Rattle.ely_config_json.specs.Names.{name_of, names_of, pairs_of}
use Rattle.ely_config_json.specs.Parts.{list_of, needed}
use Rattle.ely_config_json.specs.Rules.{rule_in, rule_of, text_rule}
use Rattle.ely_config_json.proofs.Levels.{rule_of-suc}
use Rattle.ely_config_text.proofs.WholeParts.{Reads, among, false_true, list_has, map_has, needed_has, none_some}
use Rattle.ely_config_text.proofs.WholeNames.{here_none, name_has, names_has, pairs_has}
use Rattle.ely_config_text.proofs.WholeObjects.{Present, worded_has}

-- an object for which no level is left has a fault
pub deep_faulty : (d : Data) → deep_fault d ≡ None → ⊥
deep_faulty d e = go (as_object d) e
  where
    go : (o : Option Object) → option_map_or (λ ms. Some Range) o (Some Kind) ≡ None → ⊥
    go None h = none_some Kind h
    go (Some ms) h = none_some Range h

-- one level less
pub one_less : (levels : ℕ) → suc levels - 1 ≡ levels
one_less levels = omega arith

-- an object is asked where a level is left
pub within : (levels : ℕ) → object_within (suc levels) ≡ form.Object
within levels = ap (λ b. if b then form.Leaf else form.Object) (ne_eqb (suc levels) 0 (λ e. omega (arith, e)))

module _ (levels : ℕ) (inner : Data → Option Rule) (each : Reads (OfRule levels) inner) (ms : Object) where
  -- the shape of the rule
  abbrev Here : Shape
  Here = OfRule (suc levels)

  -- the rule is read under the word
  abbrev IsRead : List ℕ → Type 0
  IsRead word = members_fault Here word ms ≡ None → Present (table.required_in (table.members_of Here word)) ms → is_some (rule_in inner ms word) ≡ true

  constant : IsRead (codes "constant")
  constant e p = map_has rules.Constant _ (needed_has Here (codes "constant") ms e name_of (codes "to") Name refl name_has p.0)

  -- a rule with a text
  with_text : (word : List ℕ) → member_shape Here word (codes "text") ≡ Some Name → ((text : List ℕ) → is_some (text_rule word text) ≡ true)
      → members_fault Here word ms ≡ None → is_some (get_member (codes "text") ms) ≡ true → is_some (option_and_then (text_rule word) (needed name_of (codes "text") ms)) ≡ true
  with_text word is made e there = go (needed name_of (codes "text") ms) (needed_has Here word ms e name_of (codes "text") Name is name_has there)
    where
      go : (o : Option (List ℕ)) → is_some o ≡ true → is_some (option_and_then (text_rule word) o) ≡ true
      go None h = absurd (false_true h)
      go (Some text) h = made text

  add_prefix : IsRead (codes "add-prefix")
  add_prefix e p = with_text (codes "add-prefix") refl (λ text. refl) e p.0

  add_suffix : IsRead (codes "add-suffix")
  add_suffix e p = with_text (codes "add-suffix") refl (λ text. refl) e p.0

  strip_prefix : IsRead (codes "strip-prefix")
  strip_prefix e p = with_text (codes "strip-prefix") refl (λ text. refl) e p.0

  strip_suffix : IsRead (codes "strip-suffix")
  strip_suffix e p = with_text (codes "strip-suffix") refl (λ text. refl) e p.0

  before : IsRead (codes "before")
  before e p = with_text (codes "before") refl (λ text. refl) e p.0

  after : IsRead (codes "after")
  after e p = with_text (codes "after") refl (λ text. refl) e p.0

  mapped : IsRead (codes "map")
  mapped e p = map_has rules.Map _ (needed_has Here (codes "map") ms e pairs_of (codes "pairs") Pairs refl pairs_has p.0)

  require : IsRead (codes "require")
  require e p = map_has rules.Require _ (needed_has Here (codes "require") ms e names_of (codes "names") (Names 1 64) refl (names_has 1 64) p.0)

  -- rules in it nest a level less deep
  inner_rules : Reads (Rules levels) (list_of inner)
  inner_rules = list_has (Rules levels) (OfRule levels) 1 64 inner refl each

  chain : IsRead (codes "chain")
  chain e p = map_has rules.Chain _ (needed_has Here (codes "chain") ms e (list_of inner) (codes "of") (Rules levels) (ap (λ n. Some (Rules n)) (one_less levels)) inner_rules p.0)

  first : IsRead (codes "first")
  first e p = map_has rules.First _ (needed_has Here (codes "first") ms e (list_of inner) (codes "of") (Rules levels) (ap (λ n. Some (Rules n)) (one_less levels)) inner_rules p.0)

  words : AllByRecursion IsRead (table.words_of RuleWord)
  words = (constant, (add_prefix, (add_suffix, (strip_prefix, (strip_suffix, (before, (after, (mapped, (require, (chain, (first, tt)))))))))))

-- a rule without a fault is read
pub rule_has : (levels : ℕ) → Reads (OfRule levels) (rule_of levels)
rule_has zero d e = absurd (deep_faulty d (here_none (deep_fault d) (sym (fault_by_form (OfRule 0) d) ∙ e)))
rule_has (suc levels) d e =
    let each : Reads (OfRule levels) (rule_of levels) = rule_has levels in
    let read = worded_has (OfRule (suc levels)) RuleWord (codes "rule") (rule_in (rule_of levels)) (within levels) refl (λ w. refl)
    (λ ms text met faultless there. among (IsRead levels (rule_of levels) each ms) (table.words_of RuleWord) text met (words levels (rule_of levels) each ms) faultless there) in
    rw (rule_of-suc levels d) (read d e)
