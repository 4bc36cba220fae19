use Rattle.std.proofs.Common.{◌≡◌, ◌++◌, length}
use Rattle.ely_digest_msg.specs.Parts.{unescaped}
use Rattle.ely_digest_msg.proofs.quoted.Quoted.list.Given as goal

abbrev pub invariant-loop-byte : goal.invariant-loop-byte
invariant-loop-byte l = l.bytes.items ++ unescaped l.rest ≡ l.self

abbrev pub decreases-loop-byte : goal.decreases-loop-byte
decreases-loop-byte l = length l.rest
