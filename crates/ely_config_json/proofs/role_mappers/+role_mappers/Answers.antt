-- The mapper of a value is that of its object.
use Rattle.std.proofs.Common.{arith, sym, ◌∙◌, ◌≡◌, ◌-◌, suc}
use Rattle.std.proofs.lemmas.Result.{IfOk-weaker}
use Rattle.serde_json.specs.View.{members_view, view}
use Rattle.ely_config_json.proofs.Levels.{role_mapper_of-none, role_mapper_of-object, role_mapper_of-zero}
use Rattle.ely_config_json.proofs.role_mappers.+role_mappers.Goals as goal

pub read_role_mapper-returns-then-levels-eq0 : goal.read_role_mapper-returns-then-levels-eq0
read_role_mapper-returns-then-levels-eq0 t c = rw c.if-levels-eq0.true (sym (role_mapper_of-zero (view c.args.value.now)))

pub read_role_mapper-returns-in-None : goal.read_role_mapper-returns-in-None
read_role_mapper-returns-in-None t c = sym (role_mapper_of-none c.args.levels (view c.args.value.now) (sym c.in-None.ensures))

pub read_role_mapper-returns-in-Some : goal.read_role_mapper-returns-in-Some
read_role_mapper-returns-in-Some t c =
    let next : c.args.levels ≡ suc (c.args.levels - 1) = omega arith in
    IfOk-weaker c.role_mapper_in.result _ _ (λ made is. is
    ∙ sym (role_mapper_of-object c.args.levels (c.args.levels - 1) (view c.args.value.now) (members_view c.in-Some.object.now.entries) next (sym c.in-Some.ensures))) c.role_mapper_in.ensures
