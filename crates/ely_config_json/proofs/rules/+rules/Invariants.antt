-- Each rule in a rule nests a level less deep.
use Rattle.std.proofs.Common.{◌≡◌, ◌+◌, ◌*◌, ◌++◌, List, drop, option_map}
use Rattle.serde_json.specs.View.{items_view}
use Rattle.ely_pipeline.specs.declared.rule.Rule.{Rule}
use Rattle.ely_config_json.specs.Parts.{each_of}
use Rattle.ely_config_json.specs.Rules.{rule_of}
use Rattle.ely_config_json.proofs.rules.+rules.Given as goal

abbrev pub decreases-read_rule : goal.decreases-read_rule
decreases-read_rule l = 4 * l.levels

abbrev pub decreases-rule_in : goal.decreases-rule_in
decreases-rule_in l = 4 * l.below + 3

abbrev pub decreases-inner_rules : goal.decreases-inner_rules
decreases-inner_rules l = 4 * l.below + 2

abbrev pub decreases-each_rule : goal.decreases-each_rule
decreases-each_rule l = 4 * l.below + 1

-- the rules so far and those of the values left are those of all
abbrev pub invariant-each_rule-loop-value : goal.invariant-each_rule-loop-value
invariant-each_rule-loop-value l =
    option_map (λ (rules : List Rule). l.rules ++ rules) (each_of (rule_of l.below) (items_view (drop l.value-index l.values)))
    ≡ each_of (rule_of l.below) (items_view l.values)
