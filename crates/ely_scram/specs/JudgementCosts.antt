-- How many HMAC computations a judgement takes.
use Rattle.std.specs.Prelude.{ℕ, ◌&&◌, nat_eq, if◌then◌else◌, List, length}
use Rattle.ely_hash.specs.Hashes.{Hash}
use Rattle.ely_hash.specs.declared.derive.ScramKeys.{ScramKeys}
use Rattle.ely_scram_msg.specs.declared.first.ClientFirst.{ClientFirst}
use Rattle.ely_scram_msg.specs.declared.last.ClientLast.{ClientLast}
use Rattle.ely_scram.specs.Judgement.{has_binding, has_nonce, has_proof}

-- none where the binding, the nonce or the proof's length is wrong; else ClientSignature's, and ServerSignature's where
-- the proof is right
unfoldable pub judge_cost : Hash → ScramKeys → ClientFirst → List ℕ → List ℕ → ClientLast → ℕ
judge_cost hash keys first nonce server_first last =
    if has_binding first last && has_nonce first nonce last && nat_eq (length last.proof) hash.len then
    if has_proof hash keys first server_first last then 2
    else 1
    else 0
