use Rattle.std.proofs.Common.{◌≡◌, ◌++◌}
use Rattle.std.specs.Ordering.{nat_cmp}
use Rattle.std.specs.BTreeMap.{IsOrdered}
use Rattle.ely_row.proofs.row.copy_creds.Given as goal

-- what is copied, and what is left, are all
abbrev pub invariant-loop-slot : goal.invariant-loop-slot
invariant-loop-slot l = (l.copy.entries ++ l.slot-iterator ≡ l.creds.entries) × IsOrdered nat_cmp l.copy × IsOrdered nat_cmp l.creds
