use Rattle.std.proofs.Common.{Some, None, ap, ◌∙◌}
use Rattle.ely_context.specs.Logins.{state_at}
use Rattle.ely_domain.proofs.Seeing.{state_seen}
use Rattle.ely_domain.proofs.domain.Domain.state.Goals as goal

pub returns-in-None : goal.returns-in-None
returns-in-None c =
    state_seen c.self.inside.logins c.self.inside.nonces c.args.id None c.in-None.ensures
    ∙ ap (λ s. state_at s.machine.live.logins c.args.id) c.self.view_is

pub returns-in-Some : goal.returns-in-Some
returns-in-Some c =
    c.state.ensures ∙ state_seen c.self.inside.logins c.self.inside.nonces c.args.id (Some c.in-Some.context.now) c.in-Some.ensures
    ∙ ap (λ s. state_at s.machine.live.logins c.args.id) c.self.view_is
