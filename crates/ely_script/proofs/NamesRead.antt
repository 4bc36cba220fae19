-- Names that are read one after another.
use Rattle.std.proofs.Common.{ℕ, List, ◌++◌}
use Rattle.std.specs.Prelude.{Result, Ok, Err}
use Rattle.ely_login.specs.declared.outcome.BadLine.{BadLine}

-- these names, and behind them those that were read, unless a fault was found
abbrev pub behind : List (List ℕ) → Result (List (List ℕ)) BadLine → Result (List (List ℕ)) BadLine
behind names (Ok more) = Ok (names ++ more)
behind names (Err fault) = Err fault
