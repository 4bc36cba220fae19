use Rattle.std.proofs.Common.{Some, None, ap, ◌∙◌}
use Rattle.ely_domain.specs.Serials.{serial_at}
use Rattle.ely_domain.proofs.Seeing.{serial_seen}
use Rattle.ely_domain.proofs.domain.Domain.serial_at.Goals as goal

pub returns-in_err-context : goal.returns-in_err-context
returns-in_err-context c =
    c.from_residual.ensures ∙ serial_seen c.self.inside.logins c.self.inside.nonces c.args.id None c.in_err-context.ensures
    ∙ ap (λ s. serial_at s.machine.live c.args.id) c.self.view_is

pub returns : goal.returns
returns c =
    ap Some c.serial.ensures
    ∙ serial_seen c.self.inside.logins c.self.inside.nonces c.args.id (Some c.in_ok-context.context.now) c.in_ok-context.ensures
    ∙ ap (λ s. serial_at s.machine.live c.args.id) c.self.view_is
