use Rattle.std.proofs.Common.{◌≡◌, ◌++◌}
use Rattle.std.specs.BTreeMap.{IsOrdered}
use Rattle.ely_row.specs.Rows.{name_cmp}
use Rattle.ely_row.proofs.row.copy_attrs.Given as goal

-- what is copied, and what is left, are all
abbrev pub invariant-loop-attr : goal.invariant-loop-attr
invariant-loop-attr l = (l.copy.entries ++ l.attr-iterator ≡ l.attrs.entries) × IsOrdered name_cmp l.copy × IsOrdered name_cmp l.attrs
