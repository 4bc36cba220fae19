use Rattle.std.proofs.Common.{◌≡◌, ◌<◌, length}
use Rattle.std.specs.Prelude.{IfSome}
use Rattle.ely_scram_msg.specs.Fields.{fields_left}
use Rattle.ely_scram_msg.specs.Extensions.{extensions_of}
use Rattle.ely_scram_msg.proofs.extension.pass_extensions.Given as goal

abbrev pub invariant-loop-rest : goal.invariant-loop-rest
invariant-loop-rest l =
    (extensions_of (fields_left l.rest) ≡ extensions_of (fields_left l.fn.rest))
    × IfSome l.rest (λ part. 0 < part.offset)

abbrev pub decreases-loop-rest : goal.decreases-loop-rest
decreases-loop-rest l = length (fields_left l.rest)
