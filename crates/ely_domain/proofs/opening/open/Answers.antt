use Rattle.std.proofs.Common.{ap, ◌∙◌}
use Rattle.ely_context.specs.Logins.{without_login}
use Rattle.ely_context.proofs.LoginLemmas.{without_login-with_login}
use Rattle.ely_domain.proofs.opening.open.Goals as goal

pub returns-clause-err : goal.returns-clause-err
returns-clause-err c = (
  c.close.ensures.closed ∙ ap (λ ls. without_login ls c.args.id) c.in_ok-open.ensures.opened
      ∙ without_login-with_login c.args.logins.now c.args.id c.begin.result c.requires.absent,
  c.in-Err.ensures.err,
)
