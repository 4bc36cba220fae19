-- The tables are kept what the journal says, edit by edit.
use Rattle.std.proofs.Common.{◌≡◌, ℕ, ◌+◌, ◌<◌, ◌≤◌, Bool, true, false, cond, leb, List, [], ◌∷◌, ◌++◌, length, Option, Some, None, refl, sym, ap, ◌∙◌, subst, ◌⊎◌, ⊎_elim, inl, inr, Result, Ok, Err, arith}
use Rattle.std.specs.Prelude.{IsErrAnd, IfErr}
use Rattle.std.specs.List.{list_all}
use Rattle.std.specs.Option.{option_map}
use Rattle.std.specs.Map.{lookup}
use Rattle.std.specs.BTreeMap.{is_at}
use Rattle.std.specs.Str.{bytes_eq}
use Rattle.std.proofs.lemmas.Bool.{leb-false, le-leb, lt-leb}
use Rattle.std.proofs.lemmas.List.{length_push}
use Rattle.ely_base.specs.declared.refused.Refused.{Refused}
use Rattle.ely_row.specs.declared.edit.Edit.{Edit}
use Rattle.ely_row.specs.declared.edit.Edit.TheVariants.{Add, Remove, SetCred, DropCred, SetAttr, DropAttr, Reload}
use Rattle.ely_row.specs.declared.edit.EditFault.{EditFault}
use Rattle.ely_row.specs.declared.edit.EditFault.TheVariants.{JournalFull}
use Rattle.ely_row.specs.Rows.{Row, name_cmp}
use Rattle.ely_row.specs.Edits.{Texts, is_of, realm_of, name_of, row, row_after, row_fault}
use Rattle.ely_row.proofs.AfterEdits.{row-push}
use Rattle.ely_table.specs.declared.class.RealmClass.{RealmClass}
use Rattle.ely_table.specs.declared.class.RealmClass.TheVariants.{Modifiable, Properties, Composite}
use Rattle.ely_table.specs.declared.table.Entry.{Entry}
use Rattle.ely_table.specs.declared.table.Table.{Table}
use Rattle.ely_table.specs.Entries.{entry_row, entry_last, row_in, last_in, rows_in, kept_own_fault, table_fault, kept_fault}
use Rattle.ely_table.specs.Counts.{row_count}
use Rattle.ely_table.specs.Faults.{class_of, has_realm, texts_of, own_fault, class_fault, fault, are_apart, IsAccepted, IsRefusal}
use Rattle.ely_table.specs.Reloads.{reload_rows, fault_in}
use Rattle.ely_table.proofs.TableWrites.{class_in}
use Rattle.ely_table.proofs.NameCounts.{IsMade, count-push, count-none}
use Rattle.ely_table.specs.Kept.{realms_of, table_of, row_of, last_of, count_of, count_after, last_from, last_touch, AreEmpty, AreKept, IsStep, IsSame, IsRecord}

last_from_push : (r n : List ℕ) (number last : ℕ) (edits : List Edit) (edit : Edit) → last_from r n number last (edits ++ edit ∷ []) ≡ cond (is_of r n edit) (number + length edits + 1) (last_from r n number last edits)
last_from_push r n number last [] edit =
    let same : number + 1 ≡ number + 0 + 1 = omega arith in
    ap (λ (k : ℕ). cond (is_of r n edit) k last) same
last_from_push r n number last (e ∷ edits) edit =
    let next = cond (is_of r n e) (number + 1) last in
    let same : number + 1 + length edits + 1 ≡ number + length (e ∷ edits) + 1 = omega arith in
    last_from_push r n (number + 1) next edits edit
    ∙ ap (λ (k : ℕ). cond (is_of r n edit) k (last_from r n (number + 1) next edits)) same

-- the number of the last edit of a name after one more edit
last_push : (edits : List Edit) (edit : Edit) (r n : List ℕ) → last_touch (edits ++ edit ∷ []) r n ≡ cond (is_of r n edit) (length edits + 1) (last_touch edits r n)
unfolding last_touch
last_push edits edit r n =
    let same : 0 + length edits + 1 ≡ length edits + 1 = omega arith in
    last_from_push r n 0 0 edits edit ∙ ap (λ (k : ℕ). cond (is_of r n edit) k (last_from r n 0 0 edits)) same

-- tables that say what a journal says, one edit on
pub kept_step : (old new : List Table) (edits : List Edit) (edit : Edit) → AreKept (texts_of (realms_of old)) old edits → IsMade (texts_of (realms_of old)) edits edit → IsStep old new edit (length edits + 1) → AreKept (texts_of (realms_of old)) new (edits ++ edit ∷ [])
kept_step old new edits edit kept made step =
    let texts = texts_of (realms_of old) in
    record {
      rows = λ r n. step.rows r n ∙ (ap (λ (x : Option Row). row_after texts r n x edit) (kept.rows r n) ∙ sym (row-push texts edits edit r n));
      lasts = λ r n. step.lasts r n ∙ (ap (λ (x : ℕ). cond (is_of r n edit) (length edits + 1) x) (kept.lasts r n) ∙ sym (last_push edits edit r n));
      counts = λ r. step.counts r ∙ (ap (λ (x : ℕ). count_after texts r x edit) (kept.counts r) ∙ sym (count-push texts edits edit r made));
    }

kept_same : (texts : Texts) (old new : List Table) (edits : List Edit) → AreKept texts old edits → IsSame old new → AreKept texts new edits
kept_same texts old new edits kept same = record {
  rows = λ r n. same.rows r n ∙ kept.rows r n;
  lasts = λ r n. same.lasts r n ∙ kept.lasts r n;
  counts = λ r. same.counts r ∙ kept.counts r;
}

-- two ways to cut a list that has one more at its end
cut_last : (xs prefix back : List Edit) (x edit : Edit) → xs ++ x ∷ [] ≡ prefix ++ edit ∷ back → ((rest : List Edit) × (xs ≡ prefix ++ edit ∷ rest)) ⊎ ((prefix ≡ xs) × (edit ≡ x))
cut_last [] [] back x edit is = inr (refl, cc)
cut_last [] (y ∷ []) back x edit is = absurd cc
cut_last [] (y ∷ z ∷ prefix) back x edit is = absurd cc
cut_last (x' ∷ xs) [] back x edit is = inl (xs, cc)
cut_last (x' ∷ xs) (y ∷ prefix) back x edit is =
    let same : x' ≡ y = cc in
    let rest : xs ++ x ∷ [] ≡ prefix ++ edit ∷ back = cc in
    ⊎_elim
    (λ (h : (rest : List Edit) × (xs ≡ prefix ++ edit ∷ rest)). inl (h.0, rw (same, h.1) refl))
    (λ (h : (prefix ≡ xs) × (edit ≡ x)). inr (rw (same, h.0) refl, h.1))
    (cut_last xs prefix back x edit rest)

-- an edit without a fault makes a journal longer
accepted_push : (realms : List (List ℕ × RealmClass)) (limit : ℕ) (edits : List Edit) (edit : Edit) → IsAccepted realms limit edits → fault realms limit edits edit ≡ None → IsAccepted realms limit (edits ++ edit ∷ [])
accepted_push realms limit edits edit accepted none prefix e back is = ⊎_elim
    (λ (h : (rest : List Edit) × (edits ≡ prefix ++ e ∷ rest)). accepted prefix e h.0 h.1)
    (λ (h : (prefix ≡ edits) × (e ≡ edit)). rw (h.0, h.1) none)
    (cut_last edits prefix back edit e is)

-- no edits are a journal of accepted edits
accepted_none : (realms : List (List ℕ × RealmClass)) (limit : ℕ) → IsAccepted realms limit []
accepted_none realms limit [] edit back is = absurd cc
accepted_none realms limit (x ∷ prefix) edit back is = absurd cc

below_limit : (b : Bool) (f : EditFault) (other : Option EditFault) → cond b (Some f) other ≡ None → b ≡ false
below_limit true f other h = absurd cc
below_limit false f other h = refl

-- an edit without a fault finds room
pub room_of : (realms : List (List ℕ × RealmClass)) (limit : ℕ) (edits : List Edit) (edit : Edit) → fault realms limit edits edit ≡ None → length edits < limit
unfolding fault
room_of realms limit edits edit none = leb-false limit (length edits) (below_limit (leb limit (length edits)) _ _ none)

-- a properties realm takes no edit of one identity
only_reloads : (plain : Bool) (fallback name : List ℕ) (edit : Edit) → fault_in (reload_rows plain fallback edit) ≡ None → name_of edit ≡ Some name → ⊥
only_reloads plain fallback name (Add realm own) none is = cc
only_reloads plain fallback name (Remove realm own) none is = cc
only_reloads plain fallback name (SetCred realm own slot cred) none is = cc
only_reloads plain fallback name (DropCred realm own slot) none is = cc
only_reloads plain fallback name (SetAttr realm own attr values) none is = cc
only_reloads plain fallback name (DropAttr realm own attr) none is = cc
only_reloads plain fallback name (Reload realm users groups) none is = cc

class_made : (class : Option RealmClass) (texts : Texts) (edits : List Edit) (edit : Edit) → class_fault class texts edits edit ≡ None → IsMade texts edits edit
class_made None texts edits edit none name is = absurd cc
class_made (Some Composite) texts edits edit none name is = absurd cc
class_made (Some (Properties plain fallback)) texts edits edit none name is = absurd (only_reloads plain fallback name edit none is)
class_made (Some Modifiable) texts edits edit none name is = ap (λ (own : Option (List ℕ)). own_fault texts edits own edit) (sym is) ∙ none

else_none : (b : Bool) (f : EditFault) (other : Option EditFault) → cond b (Some f) other ≡ None → other ≡ None
else_none true f other h = absurd cc
else_none false f other h = h

-- an edit without a fault has none by its row
made_of : (realms : List (List ℕ × RealmClass)) (limit : ℕ) (edits : List Edit) (edit : Edit) → fault realms limit edits edit ≡ None → IsMade (texts_of realms) edits edit
unfolding fault
made_of realms limit edits edit none = class_made (class_of realms (realm_of edit)) (texts_of realms) edits edit (else_none (leb limit (length edits)) (JournalFull limit) _ none)

-- the tables and the journal, one edit on
pub record_step : (limit : ℕ) (old new : List Table) (edits : List Edit) (edit : Edit) → IsRecord limit old edits → fault (realms_of old) limit edits edit ≡ None → IsStep old new edit (length edits + 1) → IsRecord limit new (edits ++ edit ∷ [])
record_step limit old new edits edit is none step =
    let room = room_of (realms_of old) limit edits edit none in
    record {
      few = is.few;
      within = omega (arith, length_push edits edit, room);
      apart = subst (λ (realms : List (List ℕ × RealmClass)). are_apart realms ≡ true) (sym step.realms) is.apart;
      fallbacks = subst (λ (realms : List (List ℕ × RealmClass)). list_all has_realm realms ≡ true) (sym step.realms) is.fallbacks;
      accepted = subst (λ (realms : List (List ℕ × RealmClass)). IsAccepted realms limit (edits ++ edit ∷ [])) (sym step.realms) (accepted_push (realms_of old) limit edits edit is.accepted none);
      kept = subst (λ (realms : List (List ℕ × RealmClass)). AreKept (texts_of realms) new (edits ++ edit ∷ [])) (sym step.realms) (kept_step old new edits edit is.kept (made_of (realms_of old) limit edits edit none) step);
    }

-- the tables and the journal where nothing is changed
pub record_same : (limit : ℕ) (old new : List Table) (edits : List Edit) → IsRecord limit old edits → IsSame old new → IsRecord limit new edits
record_same limit old new edits is same = record {
  few = is.few;
  within = is.within;
  apart = subst (λ (realms : List (List ℕ × RealmClass)). are_apart realms ≡ true) (sym same.realms) is.apart;
  fallbacks = subst (λ (realms : List (List ℕ × RealmClass)). list_all has_realm realms ≡ true) (sym same.realms) is.fallbacks;
  accepted = subst (λ (realms : List (List ℕ × RealmClass)). IsAccepted realms limit edits) (sym same.realms) is.accepted;
  kept = subst (λ (realms : List (List ℕ × RealmClass)). AreKept (texts_of realms) new edits) (sym same.realms) (kept_same (texts_of (realms_of old)) old new edits is.kept same);
}

own_kept : (own : Option (List ℕ)) (texts : Texts) (t : Table) (edits : List Edit) (edit : Edit) → t.rows ≡ row_count texts edits (realm_of edit) → ((n : List ℕ) → row_in (Some t) n ≡ row texts edits (realm_of edit) n) → kept_own_fault t own edit ≡ own_fault texts edits own edit
own_kept None texts t edits edit counts rows = refl
own_kept (Some name) texts t edits edit counts rows =
    ap (λ (k : ℕ). row_fault k (row_in (Some t) name) edit) counts
    ∙ ap (λ (x : Option Row). row_fault (row_count texts edits (realm_of edit)) x edit) (rows name)

class_kept : (class : RealmClass) (texts : Texts) (t : Table) (edits : List Edit) (edit : Edit) → t.rows ≡ row_count texts edits (realm_of edit) → ((n : List ℕ) → row_in (Some t) n ≡ row texts edits (realm_of edit) n) → table_fault class t edit ≡ class_fault (Some class) texts edits edit
class_kept Composite texts t edits edit counts rows = refl
class_kept (Properties plain fallback) texts t edits edit counts rows = refl
class_kept Modifiable texts t edits edit counts rows = own_kept (name_of edit) texts t edits edit counts rows

-- what is kept of a realm refuses what the journal refuses there, and for the same reason
realm_kept : (ts : List Table) (edits : List Edit) (edit : Edit) → AreKept (texts_of (realms_of ts)) ts edits → kept_fault (table_of ts (realm_of edit)) edit ≡ class_fault (class_of (realms_of ts) (realm_of edit)) (texts_of (realms_of ts)) edits edit
realm_kept ts edits edit kept = by_table (table_of ts (realm_of edit)) refl ∙ ap (λ (c : Option RealmClass). class_fault c (texts_of (realms_of ts)) edits edit) (sym (class_in ts (realm_of edit)))
  where
    by_table : (found : Option Table) → table_of ts (realm_of edit) ≡ found → kept_fault found edit ≡ class_fault (option_map (λ (t : Table). t.class) found) (texts_of (realms_of ts)) edits edit
    by_table None is = refl
    by_table (Some t) is = class_kept t.class (texts_of (realms_of ts)) t edits edit
        (ap rows_in (sym is) ∙ kept.counts (realm_of edit))
        (λ n. ap (λ (x : Option Table). row_in x n) (sym is) ∙ kept.rows (realm_of edit) n)

-- a journal that is full takes no edit
pub fault_full : (realms : List (List ℕ × RealmClass)) (limit made : ℕ) (edits : List Edit) (edit : Edit) → made ≡ length edits → limit ≤ made → fault realms limit edits edit ≡ Some (JournalFull limit)
unfolding fault
fault_full realms limit made edits edit count full =
    ap (λ (b : Bool). cond b (Some (JournalFull limit)) (class_fault (class_of realms (realm_of edit)) (texts_of realms) edits edit)) (ap (leb limit) (sym count) ∙ le-leb limit made full)

-- where the journal has room, the fault is that which is found by what is kept
pub fault_kept : (limit made : ℕ) (seen ts : List Table) (edits : List Edit) (edit : Edit) → made ≡ length edits → made < limit → seen ≡ ts → AreKept (texts_of (realms_of ts)) ts edits → fault (realms_of ts) limit edits edit ≡ kept_fault (table_of seen (realm_of edit)) edit
unfolding fault
fault_kept limit made seen ts edits edit count room same kept =
    ap (λ (b : Bool). cond b (Some (JournalFull limit)) (class_fault (class_of (realms_of ts) (realm_of edit)) (texts_of (realms_of ts)) edits edit)) (ap (leb limit) (sym count) ∙ lt-leb limit made room)
    ∙ sym (realm_kept ts edits edit kept)
    ∙ ap (λ (xs : List Table). kept_fault (table_of xs (realm_of edit)) edit) (sym same)

no_row : (ts : List Table) (r n : List ℕ) → AreEmpty ts → row_of ts r n ≡ None
no_row [] r n h = refl
no_row (t ∷ ts) r n h = by_test (bytes_eq t.name r) (no_row ts r n h.1)
  where
    by_test : (b : Bool) → row_of ts r n ≡ None → row_in (cond b (Some t) (table_of ts r)) n ≡ None
    by_test true rest = ap (λ (es : List (List ℕ × Entry)). entry_row (lookup (is_at (name_cmp n)) es)) h.0.0
    by_test false rest = rest

no_last : (ts : List Table) (r n : List ℕ) → AreEmpty ts → last_of ts r n ≡ 0
no_last [] r n h = refl
no_last (t ∷ ts) r n h = by_test (bytes_eq t.name r) (no_last ts r n h.1)
  where
    by_test : (b : Bool) → last_of ts r n ≡ 0 → last_in (cond b (Some t) (table_of ts r)) n ≡ 0
    by_test true rest = ap (λ (es : List (List ℕ × Entry)). entry_last t.reloaded (lookup (is_at (name_cmp n)) es)) h.0.0 ∙ h.0.2
    by_test false rest = rest

no_rows : (ts : List Table) (r : List ℕ) → AreEmpty ts → count_of ts r ≡ 0
no_rows [] r h = refl
no_rows (t ∷ ts) r h = by_test (bytes_eq t.name r) (no_rows ts r h.1)
  where
    by_test : (b : Bool) → count_of ts r ≡ 0 → rows_in (cond b (Some t) (table_of ts r)) ≡ 0
    by_test true rest = h.0.1
    by_test false rest = rest

-- empty tables are what no edits make
pub kept_none : (texts : Texts) (ts : List Table) → AreEmpty ts → AreKept texts ts []
unfolding row last_touch
kept_none texts ts h = record {
  rows = λ r n. no_row ts r n h;
  lasts = λ r n. no_last ts r n h;
  counts = λ r. no_rows ts r h ∙ sym (count-none texts r);
}

-- tables without edits
pub record_none : (limit : ℕ) (ts : List Table) (realms : List (List ℕ × RealmClass)) → limit ≤ 131072 → are_apart realms ≡ true → list_all has_realm realms ≡ true → realms_of ts ≡ realms → AreEmpty ts → IsRecord limit ts []
record_none limit ts realms few apart fallbacks same empty = record {
  few = few;
  within = omega arith;
  apart = subst (λ (xs : List (List ℕ × RealmClass)). are_apart xs ≡ true) (sym same) apart;
  fallbacks = subst (λ (xs : List (List ℕ × RealmClass)). list_all has_realm xs ≡ true) (sym same) fallbacks;
  accepted = accepted_none (realms_of ts) limit;
  kept = kept_none (texts_of (realms_of ts)) ts empty;
}

-- a refusal that is handed on is for the same reason
pub refused_err : {T : Type 0} (r : Result T (Refused EditFault)) (e : Refused EditFault) (reason : Option EditFault) → IsErrAnd r (λ x. x ≡ e) → IsRefusal e reason → IfErr r (λ refusal. IsRefusal refusal reason)
refused_err (Ok x) e reason is refusal = tt
refused_err (Err x) e reason is refusal = subst (λ (y : Refused EditFault). IsRefusal y reason) (sym is) refusal
