use Rattle.ely_domain.specs.Caches.{lists_of}
use Rattle.ely_domain.specs.Contexts.{read_of, seen_login}
use Rattle.ely_domain.proofs.Working.{fresh_at, named_ahead}
use Rattle.ely_domain.proofs.jobs.name1_job.Goals as goal

pub returns-in-Ok : goal.returns-in-Ok
returns-in-Ok c =
    let known = read_of c.args.planned.now c.args.tables.now in
    named_ahead known (lists_of c.args.caches.now) (seen_login c.args.context.now) c.args.claim.now c.in-Ok.found c.in_ok-job-in-Ok.job
    (fresh_at c.args.context.now.stage c.in-Fresh.ensures)
    (rw (c.mech.ensures, c.in-Ok.is) at c.in_ok-found.ensures)
    (λ hit. (rw c.mech-in-Ok.ensures at c.in_ok-job-in-Ok.ensures.hit) hit known c.requires.current)
    (rw (c.mech-in-Ok.ensures, c.config.ensures) at c.in_ok-job-in-Ok.ensures.derived)
