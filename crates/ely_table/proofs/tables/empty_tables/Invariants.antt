use Rattle.std.proofs.Common.{◌≡◌}
use Rattle.ely_table.specs.Kept.{realms_of, AreEmpty}
use Rattle.ely_table.proofs.tables.empty_tables.Given as goal

abbrev pub invariant-loop-name : goal.invariant-loop-name
invariant-loop-name l = record { realms : realms_of l.tables.items ≡ l.yielded; empty : AreEmpty l.tables.items }
