-- What the kept entries say of names, and how an edit changes them.
use Rattle.std.specs.Prelude.{◌≡◌, ℕ, ◌+◌, ◌-◌, Bool, true, if◌then◌else◌, List, Option, Some, None}
use Rattle.std.specs.FinSet as names
use Rattle.std.specs.BTreeMap.{get, IsUnchanged}
use Rattle.std.specs.Map.{lookup}
use Rattle.std.specs.Str.{bytes_eq}
use Rattle.ely_row.specs.declared.edit.Edit.{Edit}
use Rattle.ely_row.specs.declared.edit.Edit.TheVariants.{Add, Remove, Reload}
use Rattle.ely_row.specs.declared.edit.EditFault.{EditFault}
use Rattle.ely_row.specs.declared.edit.EditFault.TheVariants.{NoRealm, ReadOnly}
use Rattle.ely_row.specs.Rows.{Row, name_cmp}
use Rattle.ely_row.specs.Edits.{Texts, name_of, made, row_fault}
use Rattle.ely_table.specs.declared.class.RealmClass.{RealmClass}
use Rattle.ely_table.specs.declared.class.RealmClass.TheVariants.{Modifiable, Properties, Composite}
use Rattle.ely_table.specs.declared.table.Entry.{Entry}
use Rattle.ely_table.specs.declared.table.Table.{Table}
use Rattle.ely_table.specs.Counts.{names_in}
use Rattle.ely_table.specs.Reloads.{reload_rows, fault_in, class_texts}

-- the row of a name that has this entry, or none
abbrev pub entry_row : Option Entry → Option Row
entry_row None = None
entry_row (Some entry) = entry.row

-- the number of the last edit of a name that has this entry, or none, which is that of the realm's last reload
abbrev pub entry_last : ℕ → Option Entry → ℕ
entry_last reload None = reload
entry_last reload (Some entry) = entry.last

-- the entry of a row that the edit of this number gave
abbrev pub given_entry : ℕ → Row → Entry
given_entry number row = record { row = Some row; last = number }

-- the row that is kept of the name in the realm of this table, where there is such a table
abbrev pub row_in : Option Table → List ℕ → Option Row
row_in None n = None
row_in (Some table) n = entry_row (get name_cmp table.entries n)

-- the number that is kept of the last edit of the name in the realm of this table; 0 where it was never edited
abbrev pub last_in : Option Table → List ℕ → ℕ
last_in None n = 0
last_in (Some table) n = entry_last table.reloaded (get name_cmp table.entries n)

-- how many rows this table has
abbrev pub rows_in : Option Table → ℕ
rows_in None = 0
rows_in (Some table) = table.rows

-- what two texts give in a realm of this class
abbrev pub own_texts : RealmClass → Texts
own_texts class realm users groups = class_texts (Some class) users groups

-- an edit of the identity of that name, or of all that its realm has, is of n
abbrev pub is_own : List ℕ → Option (List ℕ) → Bool
is_own n None = true
is_own n (Some name) = bytes_eq name n

-- how many rows an edit of one identity leaves, where there were so many
abbrev pub count_with : ℕ → Edit → ℕ
count_with count (Add realm name) = count + 1
count_with count (Remove realm name) = count - 1
count_with count _ = count

-- how many rows the edit leaves in its own realm, where there were so many
abbrev pub rows_after : Texts → ℕ → Edit → ℕ
rows_after texts count (Reload realm users groups) = names.len (names_in (texts realm users groups))
rows_after texts count edit = count_with count edit

-- why the edit of an identity of this name is refused, by what is kept; a reload is of no name
abbrev pub kept_own_fault : Table → Option (List ℕ) → Edit → Option EditFault
kept_own_fault table None edit = Some ReadOnly
kept_own_fault table (Some name) edit = row_fault table.rows (row_in (Some table) name) edit

-- why the edit of a realm of this class is refused, by what is kept
abbrev pub table_fault : RealmClass → Table → Edit → Option EditFault
table_fault Modifiable table edit = kept_own_fault table (name_of edit) edit
table_fault (Properties plain fallback) table edit = fault_in (reload_rows plain fallback edit)
table_fault Composite table edit = Some ReadOnly

-- why the edit is refused, by what is kept of its realm
abbrev pub kept_fault : Option Table → Edit → Option EditFault
kept_fault None edit = Some NoRealm
kept_fault (Some table) edit = table_fault table.class table edit

-- the row of the name after the edit, where this is kept before it
abbrev pub row_made : Table → Edit → List ℕ → Option Row
row_made old edit n =
    if is_own n (name_of edit) then made (own_texts old.class) n edit (row_in (Some old) n) else row_in (Some old) n

-- the edit is made, and has this number
pub record IsTaken (old new : Table) (edit : Edit) (number : ℕ) : Type 0 where
  pub name : new.name ≡ old.name
  pub class : new.class ≡ old.class
  pub rows : (n : List ℕ) → row_in (Some new) n ≡ row_made old edit n
  pub lasts : (n : List ℕ) → last_in (Some new) n ≡ (if is_own n (name_of edit) then number else last_in (Some old) n)
  pub count : new.rows ≡ rows_after (own_texts old.class) old.rows edit

-- these rows stand in place of all that was kept, since the edit of this number
pub record IsReplaced (old new : Table) (given : List (List ℕ × Row)) (number : ℕ) : Type 0 where
  pub name : new.name ≡ old.name
  pub class : new.class ≡ old.class
  pub rows : (n : List ℕ) → row_in (Some new) n ≡ lookup (bytes_eq n) given
  pub lasts : (n : List ℕ) → last_in (Some new) n ≡ number
  pub count : new.rows ≡ names.len (names_in given)

-- nothing is changed that is kept
pub record IsSameTable (old new : Table) : Type 0 where
  pub name : new.name ≡ old.name
  pub class : new.class ≡ old.class
  pub entries : IsUnchanged old.entries new.entries
  pub rows : new.rows ≡ old.rows
  pub reloaded : new.reloaded ≡ old.reloaded
