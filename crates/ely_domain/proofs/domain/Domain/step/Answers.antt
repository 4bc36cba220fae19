use Rattle.std.proofs.Common.{◌∙◌}
use Rattle.ely_domain.proofs.Handing.{ahead_is}
use Rattle.ely_domain.proofs.domain.Domain.step.Goals as goal

pub returns-in-Ok-step_here-clause-job : goal.returns-in-Ok-step_here-clause-job
returns-in-Ok-step_here-clause-job g c =
    c.with_job.ensures.job ∙ c.in-Ok.ensures.job ∙ ahead_is c.args.self.now.given c.args.self.now.machine c.args.self.now.kept c.args.event
