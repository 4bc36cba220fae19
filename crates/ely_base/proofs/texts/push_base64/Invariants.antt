use Rattle.std.proofs.Common.{◌≡◌, ◌++◌, length}
use Rattle.ely_base.specs.Appended.{Extends}
use Rattle.ely_base.specs.Texts.{base64_text}
use Rattle.ely_base.proofs.texts.push_base64.Given as goal

abbrev pub invariant-loop-rest : goal.invariant-loop-rest
invariant-loop-rest l = (l.out.items ++ base64_text l.rest ≡ l.fn.out.items ++ base64_text l.bytes) × Extends l.fn.out.items l.out.items

abbrev pub decreases-loop-rest : goal.decreases-loop-rest
decreases-loop-rest l = length l.rest
