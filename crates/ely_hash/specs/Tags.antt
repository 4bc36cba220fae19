-- A tag's fields, and the list of bytes that it is seen as.
use Rattle.std.specs.Prelude.{◌≡◌, ℕ, ◌-◌, ◌≤◌, List, ◌++◌, length, take, replicate}
use Rattle.ely_hash.specs.declared.tag.Tag.TheInside.{Inside}

-- between 1 and 32 bytes, and zeros after them
pub record IsTag (t : Inside) : Type 0 where
  pub some : 1 ≤ t.len
  pub most : t.len ≤ 32
  pub width : length t.buffer ≡ 32
  pub rest : t.buffer ≡ take t.len t.buffer ++ replicate (32 - t.len) 0

-- the fields that have these bytes
abbrev pub inside_of : List ℕ → Inside
inside_of xs = record { buffer = xs ++ replicate (32 - length xs) 0; len = length xs }
