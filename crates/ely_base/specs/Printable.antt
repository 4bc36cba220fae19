-- Printable bytes.
use Rattle.std.specs.Prelude.{ℕ, ◌==◌, ◌&&◌, Bool, not, nat_le, List}
use Rattle.std.specs.List.{list_any}

-- printable ASCII, from the space (0x20) to the tilde (0x7E), and none of these bytes
abbrev pub is_printable_but : List ℕ → ℕ → Bool
is_printable_but barred b = nat_le 0x20 b && nat_le b 0x7E && not (list_any (λ x. x == b) barred)
