use Rattle.std.proofs.Common.{◌++◌, ◌∙◌, ap, append_assoc}
use Rattle.ely_base.specs.Appended.{Extends}
use Rattle.ely_front.proofs.RunLemmas.{at_any_rate}
use Rattle.ely_front.proofs.replay.push_entries.Goals as goal

pub returns-in_err-push_step-clause-err : goal.returns-in_err-push_step-clause-err
returns-in_err-push_step-clause-err c =
    at_any_rate c.from_residual.result (Extends c.args.out.now.items c.push_step.new.out.items) (record {
      more = _;
      is = c.in_err-push_step.ensures.err.is ∙ (ap (λ xs. xs ++ c.in_err-push_step.ensures.err.more) c.loop-entry.invariant.prefix.is ∙ append_assoc c.args.out.now.items _ _);
    })
