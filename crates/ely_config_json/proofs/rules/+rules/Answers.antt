-- The rule of a value is that of its object.
use Rattle.std.proofs.Common.{arith, sym, ◌∙◌, ◌≡◌, ◌-◌, suc}
use Rattle.std.proofs.lemmas.Result.{IfOk-weaker}
use Rattle.serde_json.specs.View.{members_view, view}
use Rattle.ely_config_json.proofs.Levels.{rule_of-none, rule_of-object, rule_of-zero}
use Rattle.ely_config_json.proofs.rules.+rules.Goals as goal

pub read_rule-returns-then-levels-eq0 : goal.read_rule-returns-then-levels-eq0
read_rule-returns-then-levels-eq0 t c = rw c.if-levels-eq0.true (sym (rule_of-zero (view c.args.value.now)))

pub read_rule-returns-in-None : goal.read_rule-returns-in-None
read_rule-returns-in-None t c = sym (rule_of-none c.args.levels (view c.args.value.now) (sym c.in-None.ensures))

pub read_rule-returns-in-Some : goal.read_rule-returns-in-Some
read_rule-returns-in-Some t c =
    let next : c.args.levels ≡ suc (c.args.levels - 1) = omega arith in
    IfOk-weaker c.rule_in.result _ _ (λ made is. is
    ∙ sym (rule_of-object c.args.levels (c.args.levels - 1) (view c.args.value.now) (members_view c.in-Some.object.now.entries) next (sym c.in-Some.ensures))) c.rule_in.ensures
