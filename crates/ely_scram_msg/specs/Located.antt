-- A part of a message and its offset there.
use Rattle.std.specs.Prelude.{ℕ, List}

-- some bytes, and how many bytes of the message stand before them
pub record Located : Type 0 where
  pub offset : ℕ
  pub text : List ℕ
