-- Values of attributes.
use Rattle.std.specs.Prelude.{ℕ, ◌&&◌, Bool, nat_le, List, length}

-- the values of an attribute: 1 to 64
abbrev pub is_values : List (List ℕ) → Bool
is_values values = nat_le 1 (length values) && nat_le (length values) 64
