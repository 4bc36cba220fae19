use Rattle.std.proofs.Common.{◌≡◌, None, sym, subst}
use Rattle.ely_domain.specs.Steps.{used_by}
use Rattle.ely_context.specs.Logins.{login_of}
use Rattle.ely_domain.specs.Contexts.{read_of}
use Rattle.ely_domain.proofs.login_step.quiet_step.Goals as goal

pub returns-in-Check1-clause-sound : goal.returns-in-Check1-clause-sound
returns-in-Check1-clause-sound g c =
    c.check1.ensures.sound (read_of c.args.config.now c.args.tables.now) (login_of c.args.handouts.now c.args.id) c.requires.sound

pub returns-in-Check2-clause-sound : goal.returns-in-Check2-clause-sound
returns-in-Check2-clause-sound g c = c.check2.ensures.sound (login_of c.args.handouts.now c.args.id) c.requires.sound

pub returns-in-Check1-clause-used : goal.returns-in-Check1-clause-used
returns-in-Check1-clause-used g c =
    subst (λ e. c.check1.new.nonces ≡ used_by c.args.nonces.now e c.check1.result) (sym c.in-Check1.is) (c.check1.ensures.used 0 None)
