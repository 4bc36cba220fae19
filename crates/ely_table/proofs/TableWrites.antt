-- A write at the index of a realm's table is a change of that realm alone.
use Rattle.std.proofs.Common.{◌≡◌, ℕ, zero, suc, refl, ◌<◌, ◌≤◌, Bool, true, false, cond, List, [], ◌∷◌, map, length, get_or, set, Option, Some, None, sym, ap, ◌∙◌, subst, ⊎_elim, position, arith, ltb}
use Rattle.std.specs.List.{position_or_len, list_all}
use Rattle.std.specs.Option.{option_map}
use Rattle.std.specs.Str.{bytes_eq}
use Rattle.std.proofs.lemmas.Bool.{and_parts, cases_Bool, cases_lt, lt-ltb, cond-true, cond-false}
use Rattle.std.proofs.lemmas.List.{map-set, set-get_or, get_or-map}
use Rattle.std.proofs.lemmas.List.Folds.{find_at, find-set, find_past}
use Rattle.std.proofs.lemmas.List.Quantifiers.{position-Some}
use Rattle.std.proofs.lemmas.Option.{slice_get-get_or, slice_get_past, cond_some}
use Rattle.std.proofs.lemmas.Slice.Eq.{bytes_eq-Decides}
use Rattle.ely_table.specs.declared.class.RealmClass.{RealmClass}
use Rattle.ely_table.specs.declared.table.Table.{Table}
use Rattle.ely_table.specs.Reloads.{is_class}
use Rattle.ely_table.specs.Faults.{class_of, has_realm}
use Rattle.ely_table.specs.Kept.{realms_of, table_of}

-- bytes that pass the test are the same
pub same_bytes : (xs ys : List ℕ) → bytes_eq xs ys ≡ true → xs ≡ ys
same_bytes xs ys h = (bytes_eq-Decides xs ys).0 h

-- the index that was looked for under another word for the realm
pub index_is : (ts : List Table) (r realm : List ℕ) (looked found : Option ℕ) → realm ≡ r → looked ≡ position (λ (t : Table). bytes_eq t.name realm) ts → looked ≡ found → position (λ (t : Table). bytes_eq t.name r) ts ≡ found
index_is ts r realm looked found same is at = subst (λ (q : List ℕ). position (λ (t : Table). bytes_eq t.name q) ts ≡ found) same (sym is ∙ at)

-- the table at the index is that of the realm
pub table_at : (ts : List Table) (r : List ℕ) (at : ℕ) (d : Table) → position (λ (t : Table). bytes_eq t.name r) ts ≡ Some at → table_of ts r ≡ Some (get_or ts at d)
table_at ts r at d h =
    let p : Table → Bool = λ t. bytes_eq t.name r in
    let first : position_or_len p ts ≡ at = (cond_some _ _ _ h).1 in
    find_at p ts ∙ ap (λ (i : ℕ). Rattle.std.specs.List.slice_get ts i) first ∙ slice_get-get_or ts at d (position-Some p ts at d h).0

none_past : (m n : ℕ) → ◌≡◌ {A = Option ℕ} None (cond (ltb m n) (Some m) None) → n ≤ m
none_past m n h = ⊎_elim (λ (l : m < n). absurd (grind (arith, lt-ltb m n l))) (λ (l : n ≤ m). l) (cases_lt m n)

-- the class of a realm is that of its table
pub class_in : (ts : List Table) (r : List ℕ) → class_of (realms_of ts) r ≡ option_map (λ (t : Table). t.class) (table_of ts r)
class_in [] r = refl
class_in (t ∷ ts) r = by_test (bytes_eq t.name r) (class_in ts r)
  where
    by_test : (b : Bool) → class_of (realms_of ts) r ≡ option_map (λ (x : Table). x.class) (table_of ts r) → cond b (Some t.class) (class_of (realms_of ts) r) ≡ option_map (λ (x : Table). x.class) (cond b (Some t) (table_of ts r))
    by_test true rest = refl
    by_test false rest = rest

-- the fallback of each table is a realm
pub has_class : (ts : List Table) (at : ℕ) (d : Table) → at < length ts → list_all has_realm (realms_of ts) ≡ true → is_class (get_or ts at d).class ≡ true
has_class [] at d low all = absurd (omega arith)
has_class (t ∷ ts) zero d low all = (and_parts (is_class t.class) (list_all has_realm (realms_of ts)) all).0
has_class (t ∷ ts) (suc at) d low all = has_class ts at d (omega arith) (and_parts (is_class t.class) (list_all has_realm (realms_of ts)) all).1

-- there is no index where there is no table
pub no_table : (ts : List Table) (r : List ℕ) → position (λ (t : Table). bytes_eq t.name r) ts ≡ None → table_of ts r ≡ None
no_table ts r h =
    let p : Table → Bool = λ t. bytes_eq t.name r in
    find_at p ts ∙ slice_get_past ts (position_or_len p ts) (none_past (position_or_len p ts) (length ts) (sym h))

module _ (ts : List Table) (r : List ℕ) (at : ℕ) (d new : Table) (index : position (λ (t : Table). bytes_eq t.name r) ts ≡ Some at) (same_name : new.name ≡ (get_or ts at d).name) where
  here : (at < length ts) × (bytes_eq (get_or ts at d).name r ≡ true)
  here = let h = position-Some (λ (t : Table). bytes_eq t.name r) ts at d index in (h.0, h.1)

  -- what each realm's table is after the write
  pub table_set : (q : List ℕ) → table_of (set ts at new) q ≡ cond (bytes_eq r q) (Some new) (table_of ts q)
  table_set q = ⊎_elim yes no (cases_Bool (bytes_eq r q))
    where
      named : (get_or ts at d).name ≡ r
      named = same_bytes _ r here.1

      first : at ≡ position_or_len (λ (t : Table). bytes_eq t.name r) ts
      first = sym (cond_some _ _ _ index).1

      yes : bytes_eq r q ≡ true → table_of (set ts at new) q ≡ cond (bytes_eq r q) (Some new) (table_of ts q)
      yes e =
          let same : r ≡ q = same_bytes r q e in
          let passes : bytes_eq new.name r ≡ true = ap (λ (n : List ℕ). bytes_eq n r) same_name ∙ here.1 in
          let found : table_of (set ts at new) r ≡ Some new = find-set (λ (t : Table). bytes_eq t.name r) ts at new first here.0 passes in
          subst (λ (x : List ℕ). table_of (set ts at new) x ≡ Some new) same found ∙ sym (cond-true (bytes_eq r q) (Some new) (table_of ts q) e)

      no : bytes_eq r q ≡ false → table_of (set ts at new) q ≡ cond (bytes_eq r q) (Some new) (table_of ts q)
      no e =
          let old_fails : bytes_eq (get_or ts at d).name q ≡ false = ap (λ (n : List ℕ). bytes_eq n q) named ∙ e in
          let new_fails : bytes_eq new.name q ≡ false = ap (λ (n : List ℕ). bytes_eq n q) same_name ∙ old_fails in
          find_past (λ (t : Table). bytes_eq t.name q) ts at new d old_fails new_fails ∙ sym (cond-false (bytes_eq r q) (Some new) (table_of ts q) e)

  -- the realms stay
  pub realms_set : new.class ≡ (get_or ts at d).class → realms_of (set ts at new) ≡ realms_of ts
  realms_set same_class =
      let realm : Table → List ℕ × RealmClass = λ t. (t.name, t.class) in
      let same : realm new ≡ get_or (map realm ts) at (realm d) = cc (get_or-map realm ts at d (realm d) here.0, same_name, same_class) in
      map-set realm ts at new ∙ ap (set (map realm ts) at) same ∙ set-get_or (map realm ts) at (realm d)
