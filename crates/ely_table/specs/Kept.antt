-- What the tables of all realms say, and that they say what the journal says.
use Rattle.std.specs.Prelude.{◌≡◌, ℕ, ◌+◌, ◌≤◌, IsTrue, if◌then◌else◌, List, [], ◌∷◌, map, find, length, Option}
use Rattle.std.specs.List.{AllByRecursion, list_all}
use Rattle.std.specs.Str.{bytes_eq}
use Rattle.ely_row.specs.declared.edit.Edit.{Edit}
use Rattle.ely_row.specs.Rows.{Row}
use Rattle.ely_row.specs.Edits.{Texts, realm_of, is_of, row, row_after}
use Rattle.ely_table.specs.declared.class.RealmClass.{RealmClass}
use Rattle.ely_table.specs.declared.table.Table.{Table}
use Rattle.ely_table.specs.Entries.{row_in, last_in, rows_in, rows_after}
use Rattle.ely_table.specs.Counts.{row_count}
use Rattle.ely_table.specs.Faults.{are_apart, has_realm, texts_of, IsAccepted}

-- the realms of the tables, with their classes
abbrev pub realms_of : List Table → List (List ℕ × RealmClass)
realms_of tables = map (λ table. (table.name, table.class)) tables

-- the table of the realm
abbrev pub table_of : List Table → List ℕ → Option Table
table_of tables r = find (λ table. bytes_eq table.name r) tables

-- the row that is kept of the name
abbrev pub row_of : List Table → List ℕ → List ℕ → Option Row
row_of tables r n = row_in (table_of tables r) n

-- the number that is kept of the last edit of the name
abbrev pub last_of : List Table → List ℕ → List ℕ → ℕ
last_of tables r n = last_in (table_of tables r) n

-- the number of rows that is kept of the realm
abbrev pub count_of : List Table → List ℕ → ℕ
count_of tables r = rows_in (table_of tables r)

-- the number of the last edit of the name, after edits that end with the one of this number; each edit is one of them
abbrev pub last_from : List ℕ → List ℕ → ℕ → ℕ → List Edit → ℕ
last_from r n number last [] = last
last_from r n number last (edit ∷ edits) = last_from r n (number + 1) (if is_of r n edit then number + 1 else last) edits

-- the number, counted from 1, of the last of these edits that is of the name; 0 where none is
unfoldable pub last_touch : List Edit → List ℕ → List ℕ → ℕ
last_touch edits r n = last_from r n 0 0 edits

-- how many rows are kept of the realm after an edit that was accepted, where so many were before it
abbrev pub count_after : Texts → List ℕ → ℕ → Edit → ℕ
count_after texts r count edit = if bytes_eq (realm_of edit) r then rows_after texts count edit else count

-- the tables say of every name and of every realm what the edits make of it
pub record AreKept (texts : Texts) (tables : List Table) (edits : List Edit) : Type 0 where
  pub rows : (r n : List ℕ) → row_of tables r n ≡ row texts edits r n
  pub lasts : (r n : List ℕ) → last_of tables r n ≡ last_touch edits r n
  pub counts : (r : List ℕ) → count_of tables r ≡ row_count texts edits r

-- the edit is made, and has this number
pub record IsStep (old new : List Table) (edit : Edit) (number : ℕ) : Type 0 where
  pub realms : realms_of new ≡ realms_of old
  pub rows : (r n : List ℕ) → row_of new r n ≡ row_after (texts_of (realms_of old)) r n (row_of old r n) edit
  pub lasts : (r n : List ℕ) → last_of new r n ≡ (if is_of r n edit then number else last_of old r n)
  pub counts : (r : List ℕ) → count_of new r ≡ count_after (texts_of (realms_of old)) r (count_of old r) edit

-- nothing is changed that is kept
pub record IsSame (old new : List Table) : Type 0 where
  pub realms : realms_of new ≡ realms_of old
  pub rows : (r n : List ℕ) → row_of new r n ≡ row_of old r n
  pub lasts : (r n : List ℕ) → last_of new r n ≡ last_of old r n
  pub counts : (r : List ℕ) → count_of new r ≡ count_of old r

-- the journal is one of accepted edits that is no longer than it may be, and the tables are what it says
pub record IsRecord (limit : ℕ) (tables : List Table) (journal : List Edit) : Type 0 where
  pub few : limit ≤ 131072
  pub within : length journal ≤ limit
  pub apart : IsTrue (are_apart (realms_of tables))
  pub fallbacks : IsTrue (list_all has_realm (realms_of tables))
  pub accepted : IsAccepted (realms_of tables) limit journal
  pub kept : AreKept (texts_of (realms_of tables)) tables journal

-- nothing is kept of any name
abbrev pub AreEmpty : List Table → Type 0
AreEmpty tables = AllByRecursion (λ table. (table.entries.entries ≡ []) × (table.rows ≡ 0) × (table.reloaded ≡ 0)) tables
