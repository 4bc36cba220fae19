use Rattle.std.proofs.Common.{◌≡◌, ◌↔◌}
use Rattle.ely_row.proofs.row.same_creds.Given as goal

-- all are equal exactly where what is left of both is
abbrev pub invariant-loop-slot : goal.invariant-loop-slot
invariant-loop-slot l = (l.creds.entries ≡ l.other.entries) ↔ (l.slot-iterator ≡ l.others)
