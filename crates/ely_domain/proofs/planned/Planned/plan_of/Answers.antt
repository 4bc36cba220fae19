use Rattle.std.proofs.Common.{sym, ap, ◌∙◌}
use Rattle.std.specs.Option.{option_and_then, option_copied}
use Rattle.ely_domain.specs.Plans.{plan_of}
use Rattle.ely_domain.proofs.PlanLists.{Plan, plan_kept}
use Rattle.ely_domain.proofs.planned.Planned.plan_of.Goals as goal

pub returns-in_err-found : goal.returns-in_err-found
returns-in_err-found c =
    ap option_copied c.from_residual.ensures
    ∙ ap (option_and_then (λ (plan : Plan). plan.1)) (rw c.deref.ensures.value at c.in_err-found.ensures)
    ∙ sym (plan_kept c.self.inside.config.realms c.self.inside.plans.items c.args.realm.now c.self.invariant)
    ∙ ap (λ config. plan_of config.realms c.args.realm.now) c.self.view_is

pub returns : goal.returns
returns c =
    c.as_ref.ensures.value
    ∙ ap (option_and_then (λ (plan : Plan). plan.1)) (rw c.deref.ensures.value at c.in_ok-found.ensures)
    ∙ sym (plan_kept c.self.inside.config.realms c.self.inside.plans.items c.args.realm.now c.self.invariant)
    ∙ ap (λ config. plan_of config.realms c.args.realm.now) c.self.view_is
