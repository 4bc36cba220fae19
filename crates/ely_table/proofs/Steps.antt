-- An edit that is made in the table of its realm is made in all of them.
use Rattle.std.proofs.Common.{◌≡◌, ℕ, Bool, true, false, ◌&&◌, cond, List, get_or, set, Option, Some, refl, sym, ap, ◌∙◌, subst, position}
use Rattle.std.specs.FinSet as names
use Rattle.std.specs.Map.{lookup}
use Rattle.std.specs.BTreeMap.{is_at}
use Rattle.std.specs.Option.{option_map}
use Rattle.std.specs.Str.{bytes_eq}
use Rattle.ely_row.specs.declared.edit.Edit.{Edit}
use Rattle.ely_row.specs.declared.edit.Edit.TheVariants.{Add, Remove, SetCred, DropCred, SetAttr, DropAttr, Reload}
use Rattle.ely_row.specs.Rows.{Row, name_cmp}
use Rattle.ely_row.specs.Edits.{is_of, realm_of, name_of, made, row_after}
use Rattle.ely_table.specs.declared.class.RealmClass.{RealmClass}
use Rattle.ely_table.specs.declared.table.Entry.{Entry}
use Rattle.ely_table.specs.declared.table.Table.{Table}
use Rattle.ely_table.specs.Counts.{names_in}
use Rattle.ely_table.specs.Entries.{entry_row, entry_last, row_in, last_in, rows_in, own_texts, is_own, rows_after, IsTaken, IsSameTable}
use Rattle.ely_table.specs.Faults.{class_of, texts_of}
use Rattle.ely_table.specs.Kept.{realms_of, table_of, row_of, last_of, count_of, count_after, IsStep, IsSame}
use Rattle.ely_table.specs.Reloads.{class_texts}
use Rattle.ely_table.proofs.TableWrites.{same_bytes, table_at, table_set, realms_set, class_in}

and_true : (b : Bool) → b ≡ (b && true)
and_true true = refl
and_true false = refl

-- an edit is of a realm and a name exactly where the realm is its own and the name one of its own
is_of-own : (q n : List ℕ) (edit : Edit) → is_of q n edit ≡ (bytes_eq (realm_of edit) q && is_own n (name_of edit))
is_of-own q n (Add realm name) = refl
is_of-own q n (Remove realm name) = refl
is_of-own q n (SetCred realm name slot cred) = refl
is_of-own q n (DropCred realm name slot) = refl
is_of-own q n (SetAttr realm name attr values) = refl
is_of-own q n (DropAttr realm name attr) = refl
is_of-own q n (Reload realm users groups) = and_true (bytes_eq realm q)

-- what an edit makes of a row is said by the class of its realm
made_class : (class : RealmClass) (realms : List (List ℕ × RealmClass)) (n : List ℕ) (edit : Edit) (x : Option Row) → class_of realms (realm_of edit) ≡ Some class → made (own_texts class) n edit x ≡ made (texts_of realms) n edit x
made_class class realms n (Add realm name) x h = refl
made_class class realms n (Remove realm name) x h = refl
made_class class realms n (SetCred realm name slot cred) x h = refl
made_class class realms n (DropCred realm name slot) x h = refl
made_class class realms n (SetAttr realm name attr values) x h = refl
made_class class realms n (DropAttr realm name attr) x h = refl
made_class class realms n (Reload realm users groups) x h = ap (λ (c : Option RealmClass). lookup (bytes_eq n) (class_texts c users groups)) (sym h)

rows_class : (class : RealmClass) (realms : List (List ℕ × RealmClass)) (count : ℕ) (edit : Edit) → class_of realms (realm_of edit) ≡ Some class → rows_after (own_texts class) count edit ≡ rows_after (texts_of realms) count edit
rows_class class realms count (Add realm name) h = refl
rows_class class realms count (Remove realm name) h = refl
rows_class class realms count (SetCred realm name slot cred) h = refl
rows_class class realms count (DropCred realm name slot) h = refl
rows_class class realms count (SetAttr realm name attr values) h = refl
rows_class class realms count (DropAttr realm name attr) h = refl
rows_class class realms count (Reload realm users groups) h = ap (λ (c : Option RealmClass). names.len (names_in (class_texts c users groups))) (sym h)

module _ (ts : List Table) (at : ℕ) (d new : Table) (edit : Edit) (index : position (λ (t : Table). bytes_eq t.name (realm_of edit)) ts ≡ Some at) where
  here : table_of ts (realm_of edit) ≡ Some (get_or ts at d)
  here = table_at ts (realm_of edit) at d index

  class_here : class_of (realms_of ts) (realm_of edit) ≡ Some (get_or ts at d).class
  class_here = class_in ts (realm_of edit) ∙ ap (option_map (λ (t : Table). t.class)) here

  -- the realm's table was this one
  old_table : (q : List ℕ) → bytes_eq (realm_of edit) q ≡ true → table_of ts q ≡ Some (get_or ts at d)
  old_table q e = subst (λ (x : List ℕ). table_of ts x ≡ Some (get_or ts at d)) (same_bytes (realm_of edit) q e) here

  module _ (number : ℕ) (taken : IsTaken (get_or ts at d) new edit number) where
    row_step : (q n : List ℕ) → row_of (set ts at new) q n ≡ row_after (texts_of (realms_of ts)) q n (row_of ts q n) edit
    row_step q n =
        ap (λ (t : Option Table). row_in t n) (table_set ts (realm_of edit) at d new index taken.name q)
        ∙ by_realm (bytes_eq (realm_of edit) q) refl
        ∙ ap (λ (b : Bool). cond b (made (texts_of (realms_of ts)) n edit (row_of ts q n)) (row_of ts q n)) (sym (is_of-own q n edit))
      where
        by_realm : (b : Bool) → bytes_eq (realm_of edit) q ≡ b → row_in (cond b (Some new) (table_of ts q)) n ≡ cond (b && is_own n (name_of edit)) (made (texts_of (realms_of ts)) n edit (row_of ts q n)) (row_of ts q n)
        by_realm true e =
            taken.rows n
            ∙ ap (λ (x : Option Row). cond (is_own n (name_of edit)) (made (own_texts (get_or ts at d).class) n edit x) x) (sym (ap (λ (t : Option Table). row_in t n) (old_table q e)))
            ∙ ap (λ (y : Option Row). cond (is_own n (name_of edit)) y (row_of ts q n)) (made_class (get_or ts at d).class (realms_of ts) n edit (row_of ts q n) class_here)
        by_realm false e = refl

    last_step : (q n : List ℕ) → last_of (set ts at new) q n ≡ cond (is_of q n edit) number (last_of ts q n)
    last_step q n =
        ap (λ (t : Option Table). last_in t n) (table_set ts (realm_of edit) at d new index taken.name q)
        ∙ by_realm (bytes_eq (realm_of edit) q) refl
        ∙ ap (λ (b : Bool). cond b number (last_of ts q n)) (sym (is_of-own q n edit))
      where
        by_realm : (b : Bool) → bytes_eq (realm_of edit) q ≡ b → last_in (cond b (Some new) (table_of ts q)) n ≡ cond (b && is_own n (name_of edit)) number (last_of ts q n)
        by_realm true e = taken.lasts n ∙ ap (λ (x : ℕ). cond (is_own n (name_of edit)) number x) (sym (ap (λ (t : Option Table). last_in t n) (old_table q e)))
        by_realm false e = refl

    count_set : (q : List ℕ) → count_of (set ts at new) q ≡ count_after (texts_of (realms_of ts)) q (count_of ts q) edit
    count_set q = ap rows_in (table_set ts (realm_of edit) at d new index taken.name q) ∙ by_realm (bytes_eq (realm_of edit) q) refl
      where
        by_realm : (b : Bool) → bytes_eq (realm_of edit) q ≡ b → rows_in (cond b (Some new) (table_of ts q)) ≡ cond b (rows_after (texts_of (realms_of ts)) (count_of ts q) edit) (count_of ts q)
        by_realm true e =
            taken.count
            ∙ rows_class (get_or ts at d).class (realms_of ts) (get_or ts at d).rows edit class_here
            ∙ ap (λ (t : Option Table). rows_after (texts_of (realms_of ts)) (rows_in t) edit) (sym (old_table q e))
        by_realm false e = refl

    pub step_of : IsStep ts (set ts at new) edit number
    step_of = record {
      realms = realms_set ts (realm_of edit) at d new index taken.name taken.class;
      rows = row_step;
      lasts = last_step;
      counts = count_set;
    }

  module _ (same : IsSameTable (get_or ts at d) new) where
    row_same : (q n : List ℕ) → row_of (set ts at new) q n ≡ row_of ts q n
    row_same q n = ap (λ (t : Option Table). row_in t n) (table_set ts (realm_of edit) at d new index same.name q) ∙ by_realm (bytes_eq (realm_of edit) q) refl
      where
        by_realm : (b : Bool) → bytes_eq (realm_of edit) q ≡ b → row_in (cond b (Some new) (table_of ts q)) n ≡ row_of ts q n
        by_realm true e = ap (λ (es : List (List ℕ × Entry)). entry_row (lookup (is_at (name_cmp n)) es)) same.entries ∙ ap (λ (t : Option Table). row_in t n) (sym (old_table q e))
        by_realm false e = refl

    last_same : (q n : List ℕ) → last_of (set ts at new) q n ≡ last_of ts q n
    last_same q n = ap (λ (t : Option Table). last_in t n) (table_set ts (realm_of edit) at d new index same.name q) ∙ by_realm (bytes_eq (realm_of edit) q) refl
      where
        by_realm : (b : Bool) → bytes_eq (realm_of edit) q ≡ b → last_in (cond b (Some new) (table_of ts q)) n ≡ last_of ts q n
        by_realm true e =
            ap (λ (es : List (List ℕ × Entry)). entry_last new.reloaded (lookup (is_at (name_cmp n)) es)) same.entries
            ∙ ap (λ (k : ℕ). entry_last k (lookup (is_at (name_cmp n)) (get_or ts at d).entries.entries)) same.reloaded
            ∙ ap (λ (t : Option Table). last_in t n) (sym (old_table q e))
        by_realm false e = refl

    count_same : (q : List ℕ) → count_of (set ts at new) q ≡ count_of ts q
    count_same q = ap rows_in (table_set ts (realm_of edit) at d new index same.name q) ∙ by_realm (bytes_eq (realm_of edit) q) refl
      where
        by_realm : (b : Bool) → bytes_eq (realm_of edit) q ≡ b → rows_in (cond b (Some new) (table_of ts q)) ≡ count_of ts q
        by_realm true e = same.rows ∙ ap rows_in (sym (old_table q e))
        by_realm false e = refl

    pub same_of : IsSame ts (set ts at new)
    same_of = record {
      realms = realms_set ts (realm_of edit) at d new index same.name same.class;
      rows = row_same;
      lasts = last_same;
      counts = count_same;
    }
