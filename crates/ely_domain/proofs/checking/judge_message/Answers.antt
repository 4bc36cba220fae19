use Rattle.std.proofs.Common.{arith}
use Rattle.ely_job.specs.Jobs.{judged_by}
use Rattle.ely_job.proofs.ScramCosts.{scram_cost-most}
use Rattle.ely_domain.proofs.checking.judge_message.Goals as goal

pub returns-in-Scram-Some-clause-cost : goal.returns-in-Scram-Some-clause-cost
returns-in-Scram-Some-clause-cost g c =
    let most = scram_cost-most (judged_by c.args.ready.now.mech c.args.ready.now.key) c.in-Scram-Some.first c.bytes.result.now c.bytes-in-Scram-Some.result.now c.args.last.now in
    (omega (arith, c.scram_verdict.ensures.cost), omega (arith, c.scram_verdict.ensures.cost, most))
