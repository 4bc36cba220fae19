use Rattle.ely_domain.specs.Caches.{lists_of}
use Rattle.ely_domain.specs.Contexts.{read_of}
use Rattle.ely_domain.proofs.Working.{ahead_none, ahead_found}
use Rattle.ely_domain.proofs.jobs.job_ahead.Goals as goal

pub returns-in-None-clause-job : goal.returns-in-None-clause-job
returns-in-None-clause-job c =
    ahead_none (read_of c.args.planned.now c.args.tables.now) c.args.logins.now c.args.nonces.now c.in-Some.id (lists_of c.args.caches.now) c.args.event.now c.in-Some.ensures c.in-None.ensures

pub returns-in-Some-find-clause-job : goal.returns-in-Some-find-clause-job
returns-in-Some-find-clause-job c =
    rw (ahead_found (read_of c.args.planned.now c.args.tables.now) c.args.logins.now c.args.nonces.now c.in-Some.id (lists_of c.args.caches.now) c.args.event.now c.in-Some-find.context.now c.in-Some.ensures c.in-Some-find.ensures)
    at c.job_by.ensures
