use Rattle.std.proofs.Common.{ℕ, List, Bor}
use Rattle.ely_plain.proofs.Counts.{too_many}
use Rattle.ely_plain.proofs.message.read_last.Goals as goal

pub returns-then-is_some : goal.returns-then-is_some
returns-then-is_some c = too_many (λ (rest : Bor (List ℕ)). rest.now) c.args.bytes.now c.args.rest.now c.args.authzid.now c.args.name.now _ c.count_of.result c.count_of.ensures c.requires _ c.if-is_some.ensures c.cut_at.ensures.parts
