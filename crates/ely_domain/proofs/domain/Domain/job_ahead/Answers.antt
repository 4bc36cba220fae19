use Rattle.ely_domain.proofs.domain.Domain.job_ahead.Goals as goal

pub job_ahead-requires-clause-hold : goal.job_ahead-requires-clause-hold
job_ahead-requires-clause-hold c = λ id login found. (c.self.invariant.1 id login found).0
