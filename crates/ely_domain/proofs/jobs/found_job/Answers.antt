use Rattle.std.proofs.Common.{Some, sym, ap, ◌∙◌}
use Rattle.std.specs.Option.{option_map}
use Rattle.ely_job.specs.declared.job.Work.TheVariants as works
use Rattle.ely_domain.proofs.jobs.found_job.Goals as goal

pub returns-in-Some-clause-hit : goal.returns-in-Some-clause-hit
returns-in-Some-clause-hit c = λ hit known are.
    ap Some c.held.ensures ∙ ap (option_map works.Held) (sym (rw c.in-Some.is at (c.in_ok-held.ensures.current known are)))
