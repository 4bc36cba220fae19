-- A judgement of SCRAM takes two HMAC computations at most.
use Rattle.std.proofs.Common.{ℕ, ◌≤◌, List, Option, Some, None, arith}
use Rattle.ely_hash.specs.Hashes.{Hash}
use Rattle.ely_hash.specs.declared.derive.ScramKeys.{ScramKeys}
use Rattle.ely_scram_msg.specs.declared.first.ClientFirst.{ClientFirst}
use Rattle.ely_scram_msg.specs.declared.last.ClientLast.{ClientLast}
use Rattle.ely_scram.proofs.JudgementLemmas.{judge_cost-most}
use Rattle.ely_job.specs.Jobs.{scram_cost}

pub scram_cost-most : (by : Option (Hash × ScramKeys)) (first : ClientFirst) (nonce server_first : List ℕ) (last : ClientLast)
    → scram_cost by first nonce server_first last ≤ 2
scram_cost-most None first nonce server_first last = omega arith
scram_cost-most (Some by) first nonce server_first last = judge_cost-most by.0 by.1 first nonce server_first last
