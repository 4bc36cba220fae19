-- Texts that grow at their end.
use Rattle.std.specs.Prelude.{◌≡◌, ℕ, List, ◌++◌}

-- new is old with some more bytes behind it, or none
pub record Extends (old new : List ℕ) : Type 0 where
  pub more : List ℕ
  pub is : new ≡ old ++ more
