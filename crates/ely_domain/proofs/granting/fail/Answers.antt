use Rattle.std.proofs.Common.{ap, ◌∙◌}
use Rattle.ely_context.specs.Logins.{login_of}
use Rattle.ely_domain.proofs.Seeing.{others_without}
use Rattle.ely_domain.proofs.granting.fail.Goals as goal

pub returns-in-Ok-clause-others : goal.returns-in-Ok-clause-others
returns-in-Ok-clause-others c = λ other apart.
    ap (λ entries. login_of entries other) c.take.ensures.left ∙ others_without c.args.handouts.now c.args.id other apart
