-- What holds of each hash function behind the trait, beside that it is the standard's.
use Rattle.std.specs.Prelude.{◌≡◌, ℕ, ◌≤◌, List, length}
use Rattle.ely_hash.specs.Hashes.{Hash}

-- every digest has its length; a tag has room for one, and so has a block, and 64 bytes have room for a block
pub record HashLaws (hash : Hash) : Type 0 where
  pub sized : (m : List ℕ) → length (hash.digest m) ≡ hash.len
  pub some : 1 ≤ hash.len
  pub most : hash.len ≤ 32
  pub in_block : hash.len ≤ hash.block
  pub block_fits : hash.block ≤ 64
