use Rattle.std.proofs.Common.{List, ℕ, ◌++◌, length, ap}
use Rattle.std.proofs.lemmas.List.{drop-replicate}
use Rattle.ely_hash.proofs.block.fill_block.Goals as goal

pub returns : goal.returns
returns c = rw c.copy_from_slice.ensures.after (ap (λ (zs : List ℕ). c.args.bytes.now ++ zs) (drop-replicate (length c.args.bytes.now) 64 0))
