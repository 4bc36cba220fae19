use Rattle.std.proofs.Common.{◌≡◌, ◌++◌, drop}
use Rattle.ely_base.specs.Appended.{Extends}
use Rattle.ely_base.specs.Words.{word_text}
use Rattle.ely_base.proofs.word.push_codes.Given as goal

abbrev pub invariant-loop-b : goal.invariant-loop-b
invariant-loop-b l = (l.out.items ++ word_text (drop l.b-index l.bytes) ≡ l.fn.out.items ++ word_text l.bytes) × Extends l.fn.out.items l.out.items
