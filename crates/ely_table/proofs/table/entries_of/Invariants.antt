use Rattle.std.proofs.Common.{ℕ, ◌≡◌, List, ◌++◌}
use Rattle.std.specs.BTreeMap.{get}
use Rattle.std.specs.Map.{lookup}
use Rattle.std.specs.Option.{option_map}
use Rattle.std.specs.Str.{bytes_eq}
use Rattle.ely_row.specs.Rows.{name_cmp}
use Rattle.ely_table.specs.Entries.{given_entry}
use Rattle.ely_table.proofs.table.entries_of.Given as goal

-- the rows so far, by their names
abbrev pub invariant-loop-name : goal.invariant-loop-name
invariant-loop-name l = record {
  whole : l.yielded ++ l.name-iterator.rest.items ≡ l.fn.rows.items;
  found : (n : List ℕ) → get name_cmp l.entries n ≡ option_map (given_entry l.fn.number) (lookup (bytes_eq n) l.yielded);
}
