-- The text of groups: names, each with the groups that it has.
use Rattle.std.specs.Prelude.{ℕ, Bool, not, nat_lt, if◌then◌else◌, List, [], ◌∷◌, length, map, is_some, Result, Ok, Err}
use Rattle.std.specs.List.{filter, list_all}
use Rattle.std.specs.Str.{bytes_eq}
use Rattle.ely_base.specs.Names.{name_fault}
use Rattle.ely_base.specs.Parts.{parts_at}
use Rattle.ely_row.specs.declared.edit.PropFault.{PropFault}
use Rattle.ely_row.specs.declared.edit.PropFault.TheVariants.{BadLine}
use Rattle.ely_row.specs.Creds.{mapped}
use Rattle.ely_propfile.specs.Lines.{trimmed, lines_of}
use Rattle.ely_propfile.specs.Entries.{Entry, entry_of}
use Rattle.ely_propfile.specs.Faults.{entries_from, pairs_or_fault}

-- a text is a name
abbrev pub is_name : List ℕ → Bool
is_name text = not (is_some (name_fault text))

-- not empty
abbrev pub is_filled : {X : Type 0} → List X → Bool
is_filled xs = nat_lt 0 (length xs)

-- each text once, where it stands first
abbrev pub distinct : List (List ℕ) → List (List ℕ)
distinct [] = []
distinct (x ∷ xs) = x ∷ filter (λ y. not (bytes_eq x y)) (distinct xs)

-- the parts between commas, without the blanks round them and without empty ones
abbrev pub group_parts : List ℕ → List (List ℕ)
group_parts text = filter is_filled (map trimmed (parts_at 44 text))

-- the groups of a name, each of them a name
abbrev pub groups_in : ℕ → List ℕ → Result (List (List ℕ)) PropFault
groups_in number text = if list_all is_name (group_parts text) then Ok (distinct (group_parts text)) else Err (BadLine number)

-- the entry of a line of groups
abbrev pub groups_entry : ℕ → List ℕ → Entry (List (List ℕ))
groups_entry number line = entry_of groups_in number line

-- more than 64 groups
abbrev pub is_large : List (List ℕ) → Bool
is_large groups = nat_lt 64 (length groups)

-- a name with at least one group
abbrev pub has_groups : List ℕ × List (List ℕ) → Bool
has_groups pair = is_filled pair.1

-- the groups of a text, of each name that has some, or the fault of its first faulty line
unfoldable pub groups_of : List ℕ → Result (List (List ℕ × List (List ℕ))) PropFault
groups_of text = mapped (filter has_groups) (pairs_or_fault is_large (entries_from groups_entry 0 (lines_of text)))
