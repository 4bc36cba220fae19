-- The rows of a reload, by their names, and what they make of a table.
use Rattle.std.proofs.Common.{◌≡◌, ℕ, Bool, true, false, ◌&&◌, ◌||◌, cond, not, List, [], ◌∷◌, ◌++◌, Option, Some, None, Ok, refl, sym, ap, ◌∙◌}
use Rattle.std.specs.BTreeMap.{BTreeMap, Updates, get, is_at}
use Rattle.std.specs.FinSet as names
use Rattle.std.specs.Map.{keys_of, lookup}
use Rattle.std.specs.Option.{option_map}
use Rattle.std.specs.Str.{bytes_eq}
use Rattle.std.proofs.lemmas.Map.Text.{is_eq-slice_cmp}
use Rattle.ely_row.specs.declared.cred.Credential.{Credential}
use Rattle.ely_row.specs.declared.edit.Edit.{Edit}
use Rattle.ely_row.specs.declared.edit.Edit.TheVariants.{Add, Remove, SetCred, DropCred, SetAttr, DropAttr, Reload}
use Rattle.ely_row.specs.Rows.{Row, name_cmp}
use Rattle.ely_row.specs.Edits.{name_of, changed, made}
use Rattle.ely_propfile.specs.Faults.{is_among, are_apart}
use Rattle.ely_propfile.specs.Rows.{rows_of}
use Rattle.ely_propfile.proofs.NameLemmas.{bytes_eq-swap}
use Rattle.ely_propfile.proofs.RowLemmas.{lookup_push}
use Rattle.ely_table.specs.declared.class.RealmClass.{RealmClass}
use Rattle.ely_table.specs.declared.class.RealmClass.TheVariants.{Properties}
use Rattle.ely_table.specs.declared.table.Entry.{Entry}
use Rattle.ely_table.specs.declared.table.Table.{Table}
use Rattle.ely_table.specs.Counts.{names_in}
use Rattle.ely_table.specs.Entries.{entry_row, entry_last, given_entry, row_in, last_in, own_texts, is_own, count_with, rows_after, IsTaken, IsReplaced}
use Rattle.ely_table.specs.Reloads.{reload_rows, rows_or_none}
use Rattle.ely_table.proofs.TableWrites.{same_bytes}

among_rows : (users : List (List ℕ × Credential)) (groups : List (List ℕ × List (List ℕ))) (n : List ℕ) → is_among n (keys_of (rows_of users groups)) ≡ is_among n (keys_of users)
among_rows [] groups n = refl
among_rows (user ∷ users) groups n = ap (λ (b : Bool). bytes_eq n user.0 || b) (among_rows users groups n)

-- the rows of users whose names differ have names that differ
pub rows_apart : (users : List (List ℕ × Credential)) (groups : List (List ℕ × List (List ℕ))) → are_apart users ≡ true → are_apart (rows_of users groups) ≡ true
rows_apart users groups apart = same users ∙ apart
  where
    same : (some : List (List ℕ × Credential)) → are_apart (rows_of some groups) ≡ are_apart some
    same [] = refl
    same (user ∷ some) =
        ap (λ (b : Bool). not b && are_apart (rows_of some groups)) (among_rows some groups user.0)
        ∙ ap (λ (b : Bool). not (is_among user.0 (keys_of some)) && b) (same some)

entry_first : (b : Bool) (number : ℕ) (row : Row) (others : Option Row) → cond b (Some (given_entry number row)) (option_map (given_entry number) others) ≡ option_map (given_entry number) (cond b (Some row) others)
entry_first true number row others = refl
entry_first false number row others = refl

-- the map has one more row
pub found_more : (number : ℕ) (old new : BTreeMap (List ℕ) Entry) (rows : List (List ℕ × Row)) (row : List ℕ × Row) (shared : Row) → shared ≡ row.1 → is_among row.0 (keys_of rows) ≡ false → Updates name_cmp old new row.0 (Some (given_entry number shared))
    → ((n : List ℕ) → get name_cmp old n ≡ option_map (given_entry number) (lookup (bytes_eq n) rows)) → (n : List ℕ) → get name_cmp new n ≡ option_map (given_entry number) (lookup (bytes_eq n) (rows ++ row ∷ []))
found_more number old new rows row shared same apart put found n =
    put.0 n
    ∙ ap (λ (r : Row). cond (is_at (name_cmp row.0) n) (Some (given_entry number r)) (get name_cmp old n)) same
    ∙ ap (λ (b : Bool). cond b (Some (given_entry number row.1)) (get name_cmp old n)) (is_eq-slice_cmp row.0 n ∙ bytes_eq-swap row.0 n)
    ∙ ap (λ (e : Option Entry). cond (bytes_eq n row.0) (Some (given_entry number row.1)) e) (found n)
    ∙ entry_first (bytes_eq n row.0) number row.1 (lookup (bytes_eq n) rows)
    ∙ ap (option_map (given_entry number)) (sym (lookup_push n rows row apart))

-- what the entries of rows say of a name
pub row_found : (number : ℕ) (row : Option Row) → entry_row (option_map (given_entry number) row) ≡ row
row_found number None = refl
row_found number (Some row) = refl

pub last_found : (number : ℕ) (row : Option Row) → entry_last number (option_map (given_entry number) row) ≡ number
last_found number None = refl
last_found number (Some row) = refl

-- rows in place of all others are what a reload makes that gives them
pub reload_taken : (plain : Bool) (fallback : List ℕ) (old new : Table) (edit : Edit) (rows : List (List ℕ × Row)) (number : ℕ) → old.class ≡ Properties plain fallback → reload_rows plain fallback edit ≡ Ok rows → IsReplaced old new rows number → IsTaken old new edit number
reload_taken plain fallback old new (Add realm name) rows number class gives done = absurd cc
reload_taken plain fallback old new (Remove realm name) rows number class gives done = absurd cc
reload_taken plain fallback old new (SetCred realm name slot cred) rows number class gives done = absurd cc
reload_taken plain fallback old new (DropCred realm name slot) rows number class gives done = absurd cc
reload_taken plain fallback old new (SetAttr realm name attr values) rows number class gives done = absurd cc
reload_taken plain fallback old new (DropAttr realm name attr) rows number class gives done = absurd cc
reload_taken plain fallback old new (Reload realm users groups) rows number class gives done =
    let given : rows ≡ own_texts old.class realm users groups = sym (ap (λ (c : RealmClass). own_texts c realm users groups) class ∙ ap rows_or_none gives) in
    record {
      name = done.name;
      class = done.class;
      rows = λ n. done.rows n ∙ ap (lookup (bytes_eq n)) given;
      lasts = done.lasts;
      count = done.count ∙ ap (λ (rs : List (List ℕ × Row)). names.len (names_in rs)) given;
    }

-- an edit of one identity makes of a row what it does, whatever texts give
made_one : (class : RealmClass) (n name : List ℕ) (edit : Edit) (row : Option Row) → name_of edit ≡ Some name → changed edit row ≡ made (own_texts class) n edit row
made_one class n name (Add realm own) row is = refl
made_one class n name (Remove realm own) row is = refl
made_one class n name (SetCred realm own slot cred) row is = refl
made_one class n name (DropCred realm own slot) row is = refl
made_one class n name (SetAttr realm own attr values) row is = refl
made_one class n name (DropAttr realm own attr) row is = refl
made_one class n name (Reload realm users groups) row is = absurd cc

count_one : (class : RealmClass) (count : ℕ) (name : List ℕ) (edit : Edit) → name_of edit ≡ Some name → count_with count edit ≡ rows_after (own_texts class) count edit
count_one class count name (Add realm own) is = refl
count_one class count name (Remove realm own) is = refl
count_one class count name (SetCred realm own slot cred) is = refl
count_one class count name (DropCred realm own slot) is = refl
count_one class count name (SetAttr realm own attr values) is = refl
count_one class count name (DropAttr realm own attr) is = refl
count_one class count name (Reload realm users groups) is = absurd cc

-- one entry in place of another is what an edit of one identity makes
pub one_taken : (old new : Table) (edit : Edit) (name key : List ℕ) (row : Option Row) (number : ℕ) → name_of edit ≡ Some name → key ≡ name → row ≡ changed edit (row_in (Some old) name) → Updates name_cmp old.entries new.entries key (Some (record { row = row; last = number }))
    → new.name ≡ old.name → new.class ≡ old.class → new.reloaded ≡ old.reloaded → new.rows ≡ count_with old.rows edit → IsTaken old new edit number
one_taken old new edit name key row number is same made_row put same_name same_class same_reload count = record {
  name = same_name;
  class = same_class;
  rows = λ n. ap entry_row (entry n) ∙ row_at n (bytes_eq name n) refl ∙ ap (λ (own : Option (List ℕ)). cond (is_own n own) (made (own_texts old.class) n edit (row_in (Some old) n)) (row_in (Some old) n)) (sym is);
  lasts = λ n. ap (λ (k : ℕ). entry_last k (get name_cmp new.entries n)) same_reload ∙ ap (entry_last old.reloaded) (entry n) ∙ last_at n (bytes_eq name n) ∙ ap (λ (own : Option (List ℕ)). cond (is_own n own) number (last_in (Some old) n)) (sym is);
  count = count ∙ count_one old.class old.rows name edit is;
}
  where
    entry : (n : List ℕ) → get name_cmp new.entries n ≡ cond (bytes_eq name n) (Some (record { row = row; last = number })) (get name_cmp old.entries n)
    entry n = put.0 n ∙ ap (λ (b : Bool). cond b (Some (record { row = row; last = number })) (get name_cmp old.entries n)) (is_eq-slice_cmp key n ∙ ap (λ (k : List ℕ). bytes_eq k n) same)

    row_at : (n : List ℕ) (b : Bool) → bytes_eq name n ≡ b → entry_row (cond b (Some (record { row = row; last = number })) (get name_cmp old.entries n)) ≡ cond b (made (own_texts old.class) n edit (row_in (Some old) n)) (row_in (Some old) n)
    row_at n true e = made_row ∙ ap (λ (m : List ℕ). changed edit (row_in (Some old) m)) (same_bytes name n e) ∙ made_one old.class n name edit (row_in (Some old) n) is
    row_at n false e = refl

    last_at : (n : List ℕ) (b : Bool) → entry_last old.reloaded (cond b (Some (record { row = row; last = number })) (get name_cmp old.entries n)) ≡ cond b number (last_in (Some old) n)
    last_at n true = refl
    last_at n false = refl
