use Rattle.std.proofs.Common.{sym, ◌∙◌}
use Rattle.ely_domain.specs.Contexts.{read_of}
use Rattle.ely_domain.proofs.Working.{same_job, other_job, absent_job}
use Rattle.ely_domain.proofs.jobs.job_of.Goals as goal

pub returns-in-None : goal.returns-in-None
returns-in-None c = λ nonces.
    absent_job (read_of c.args.config.now c.args.tables.now) c.args.logins.now nonces c.args.id c.args.serial c.in-None.ensures

pub returns-then-eq : goal.returns-then-eq
returns-then-eq c = λ nonces.
    rw (← same_job (read_of c.args.config.now c.args.tables.now) c.args.logins.now nonces c.args.id c.args.serial c.in-Some.context.now
    c.in-Some.ensures (rw c.serial.ensures at (sym c.eq.ensures ∙ c.if-eq.true))) at c.job_at.ensures

pub returns-else-eq : goal.returns-else-eq
returns-else-eq c = λ nonces.
    other_job (read_of c.args.config.now c.args.tables.now) c.args.logins.now nonces c.args.id c.args.serial c.in-Some.context.now
    c.in-Some.ensures (rw c.serial.ensures at (sym c.eq.ensures ∙ c.if-eq.false))
