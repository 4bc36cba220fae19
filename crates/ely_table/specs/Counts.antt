-- Which names of a realm have a row, and how many they are.
use Rattle.std.specs.Prelude.{ℕ, ◌≡◌, if◌then◌else◌, List, fold, is_some}
use Rattle.std.specs.FinSet as names
use Rattle.std.specs.Map.{keys_of}
use Rattle.std.specs.Str.{bytes_eq}
use Rattle.ely_row.specs.declared.edit.Edit.{Edit}
use Rattle.ely_row.specs.declared.edit.Edit.TheVariants.{Add, Remove, Reload}
use Rattle.ely_row.specs.Rows.{Row, name_cmp}
use Rattle.ely_row.specs.Edits.{Texts, row}

-- the names of these rows
abbrev pub names_in : List (List ℕ × Row) → names.FinSet name_cmp
names_in rows = names.from_list (keys_of rows)

-- the names of r that have a row after an edit, where these had one before it
abbrev pub names_after : Texts → List ℕ → names.FinSet name_cmp → Edit → names.FinSet name_cmp
names_after texts r before (Add realm name) = if bytes_eq realm r then names.insert before name else before
names_after texts r before (Remove realm name) = if bytes_eq realm r then names.remove before name else before
names_after texts r before (Reload realm users groups) =
    if bytes_eq realm r then names_in (texts realm users groups) else before
names_after texts r before _ = before

-- the names of r that have a row after these edits
unfoldable pub names_of : Texts → List Edit → List ℕ → names.FinSet name_cmp
names_of texts edits r = fold (names_after texts r) names.empty edits

-- how many names of r have a row after these edits
unfoldable pub row_count : Texts → List Edit → List ℕ → ℕ
row_count texts edits r = names.len (names_of texts edits r)

-- the names of r are those that have a row, and the count is how many they are
pub record AreCounted (texts : Texts) (edits : List Edit) (r : List ℕ) : Type 0 where
  pub named : (n : List ℕ) → names.contains (names_of texts edits r) n ≡ is_some (row texts edits r n)
  pub count : row_count texts edits r ≡ names.len (names_of texts edits r)
