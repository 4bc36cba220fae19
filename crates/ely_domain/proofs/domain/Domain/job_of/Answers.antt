use Rattle.ely_domain.proofs.domain.Domain.job_of.Goals as goal

pub job_of-requires : goal.job_of-requires
job_of-requires c = λ id login found. rw c.config.ensures ((c.self.invariant.1 id login found).0)
