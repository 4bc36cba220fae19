use Rattle.std.proofs.Common.{◌≡◌, ◌↔◌}
use Rattle.ely_row.proofs.row.same_attrs.Given as goal

-- all are equal exactly where what is left of both is
abbrev pub invariant-loop-attr : goal.invariant-loop-attr
invariant-loop-attr l = (l.attrs.entries ≡ l.other.entries) ↔ (l.attr-iterator ≡ l.others)
