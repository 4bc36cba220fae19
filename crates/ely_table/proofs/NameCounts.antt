-- The names that have a row, and their number, edit by edit.
use Rattle.std.proofs.Common.{◌≡◌, ℕ, suc, length, arith, ◌+◌, ◌-◌, Bool, true, false, ◌&&◌, ◌||◌, cond, not, List, [], ◌∷◌, ◌++◌, Option, Some, None, refl, sym, ap, ◌∙◌, subst}
use Rattle.std.specs.Prelude.{is_some, fold}
use Rattle.std.specs.FinSet as names
use Rattle.std.specs.Map.{keys_of, lookup}
use Rattle.std.specs.Option.{option_map}
use Rattle.std.specs.Ordering.{eq_by_cmp}
use Rattle.std.specs.Str.{bytes_eq}
use Rattle.std.proofs.lemmas.Cmp.{nat_list_cmp_total}
use Rattle.std.proofs.lemmas.List.Sums.{fold_push}
use Rattle.std.proofs.lemmas.Map.Text.{is_eq-slice_cmp}
use Rattle.std.proofs.lemmas.Slice.Eq.{bytes_eq-Decides}
use Rattle.ely_row.specs.declared.edit.Edit.{Edit}
use Rattle.ely_row.specs.declared.edit.Edit.TheVariants.{Add, Remove, SetCred, DropCred, SetAttr, DropAttr, Reload}
use Rattle.ely_row.specs.Rows.{Row, name_cmp, with_cred, without_cred, with_attr, without_attr}
use Rattle.ely_row.specs.Edits.{Texts, is_of, realm_of, name_of, changed, row_after, row, row_fault}
use Rattle.ely_propfile.specs.Faults.{is_among, are_apart as pairs_apart}
use Rattle.ely_propfile.proofs.NameLemmas.{first_of_and, second_of_and}
use Rattle.ely_table.specs.Counts.{names_in, names_after, names_of, row_count, AreCounted}
use Rattle.ely_table.specs.Kept.{count_after}
use Rattle.ely_table.proofs.TableWrites.{same_bytes}

-- where it is of one identity, the row of that doesn't refuse the edit
abbrev pub IsMade : Texts → List Edit → Edit → Type 0
IsMade texts edits edit = (name : List ℕ) → name_of edit ≡ Some name → row_fault (row_count texts edits (realm_of edit)) (row texts edits (realm_of edit) name) edit ≡ None

-- bytes are the same either way round
bytes_eq-flip : (xs ys : List ℕ) → bytes_eq xs ys ≡ bytes_eq ys xs
bytes_eq-flip xs ys = by_test (bytes_eq xs ys) (bytes_eq ys xs) refl refl
  where
    by_test : (b c : Bool) → bytes_eq xs ys ≡ b → bytes_eq ys xs ≡ c → bytes_eq xs ys ≡ bytes_eq ys xs
    by_test true true e f = e ∙ sym f
    by_test false false e f = e ∙ sym f
    by_test true false e f = absurd (let same = same_bytes xs ys e in let back : bytes_eq ys xs ≡ true = (bytes_eq-Decides ys xs).1 (sym same) in cc)
    by_test false true e f = absurd (let same = same_bytes ys xs f in let back : bytes_eq xs ys ≡ true = (bytes_eq-Decides xs ys).1 (sym same) in cc)

-- two names tie exactly where they are the same bytes
tie-bytes : (n name : List ℕ) → eq_by_cmp name_cmp n name ≡ bytes_eq name n
tie-bytes n name = is_eq-slice_cmp n name ∙ bytes_eq-flip n name

made_there : (b : Bool) (x : Row) (before : Option Row) → (b || is_some before) ≡ is_some (cond b (Some x) before)
made_there true x before = refl
made_there false x before = refl

taken_away : (b : Bool) (before : Option Row) → (not b && is_some before) ≡ is_some (cond b None before)
taken_away true before = refl
taken_away false before = refl

still_there : (b : Bool) (f : Row → Row) (before : Option Row) → is_some before ≡ is_some (cond b (option_map f before) before)
still_there true f None = refl
still_there true f (Some x) = refl
still_there false f before = refl

-- the names of rows are those of their pairs
named_among : (rows : List (List ℕ × Row)) (n : List ℕ) → names.contains (names_in rows) n ≡ is_among n (keys_of rows)
named_among [] n = names.contains-empty name_cmp n
named_among (row ∷ rows) n =
    names.contains-insert nat_list_cmp_total (names_in rows) row.0 n
    ∙ ap (λ (b : Bool). b || names.contains (names_in rows) n) (is_eq-slice_cmp n row.0)
    ∙ ap (λ (b : Bool). bytes_eq n row.0 || b) (named_among rows n)

among_first : (b : Bool) (row : Row) (others : Option Row) → (b || is_some others) ≡ is_some (cond b (Some row) others)
among_first true row others = refl
among_first false row others = refl

among_there : (rows : List (List ℕ × Row)) (n : List ℕ) → is_among n (keys_of rows) ≡ is_some (lookup (bytes_eq n) rows)
among_there [] n = refl
among_there (row ∷ rows) n = ap (λ (b : Bool). bytes_eq n row.0 || b) (among_there rows n) ∙ among_first (bytes_eq n row.0) row.1 (lookup (bytes_eq n) rows)

module _ (texts : Texts) (r n : List ℕ) (before : names.FinSet name_cmp) (there : Option Row) (same : names.contains before n ≡ is_some there) where
  -- a name has a row after an edit exactly where it is among the names then
  pub named_after : (edit : Edit) → names.contains (names_after texts r before edit) n ≡ is_some (row_after texts r n there edit)
  named_after (Add realm name) = by_realm (bytes_eq realm r)
    where
      by_realm : (b : Bool) → names.contains (cond b (names.insert before name) before) n ≡ is_some (cond (b && bytes_eq name n) (changed (Add realm name) there) there)
      by_realm true =
          names.contains-insert nat_list_cmp_total before name n
          ∙ ap (λ (c : Bool). c || names.contains before n) (tie-bytes n name)
          ∙ ap (λ (c : Bool). bytes_eq name n || c) same
          ∙ made_there (bytes_eq name n) _ there
      by_realm false = same
  named_after (Remove realm name) = by_realm (bytes_eq realm r)
    where
      by_realm : (b : Bool) → names.contains (cond b (names.remove before name) before) n ≡ is_some (cond (b && bytes_eq name n) None there)
      by_realm true =
          names.contains-remove nat_list_cmp_total before name n
          ∙ ap (λ (c : Bool). not c && names.contains before n) (tie-bytes n name)
          ∙ ap (λ (c : Bool). not (bytes_eq name n) && c) same
          ∙ taken_away (bytes_eq name n) there
      by_realm false = same
  named_after (Reload realm users groups) = by_realm (bytes_eq realm r)
    where
      by_realm : (b : Bool) → names.contains (cond b (names_in (texts realm users groups)) before) n ≡ is_some (cond b (lookup (bytes_eq n) (texts realm users groups)) there)
      by_realm true = named_among (texts realm users groups) n ∙ among_there (texts realm users groups) n
      by_realm false = same
  named_after (SetCred realm name slot cred) = same ∙ still_there (is_of r n (SetCred realm name slot cred)) (with_cred slot cred) there
  named_after (DropCred realm name slot) = same ∙ still_there (is_of r n (DropCred realm name slot)) (without_cred slot) there
  named_after (SetAttr realm name attr values) = same ∙ still_there (is_of r n (SetAttr realm name attr values)) (with_attr attr values) there
  named_after (DropAttr realm name attr) = same ∙ still_there (is_of r n (DropAttr realm name attr)) (without_attr attr) there

named_from : (texts : Texts) (r n : List ℕ) (edits : List Edit) (before : names.FinSet name_cmp) (there : Option Row) → names.contains before n ≡ is_some there → names.contains (fold (names_after texts r) before edits) n ≡ is_some (fold (row_after texts r n) there edits)
named_from texts r n [] before there same = same
named_from texts r n (edit ∷ edits) before there same = named_from texts r n edits (names_after texts r before edit) (row_after texts r n there edit) (named_after texts r n before there same edit)

-- the names are those that have a row
pub named : (texts : Texts) (edits : List Edit) (r n : List ℕ) → names.contains (names_of texts edits r) n ≡ is_some (row texts edits r n)
unfolding names_of row
named texts edits r n = named_from texts r n edits names.empty None (names.contains-empty name_cmp n)

count_is : (texts : Texts) (edits : List Edit) (r : List ℕ) → row_count texts edits r ≡ names.len (names_of texts edits r)
unfolding row_count
count_is texts edits r = refl

pub are_counted : (texts : Texts) (edits : List Edit) (r : List ℕ) → AreCounted texts edits r
are_counted texts edits r = record { named = named texts edits r; count = count_is texts edits r }

names-push : (texts : Texts) (edits : List Edit) (edit : Edit) (r : List ℕ) → names_of texts (edits ++ edit ∷ []) r ≡ names_after texts r (names_of texts edits r) edit
unfolding names_of
names-push texts edits edit r = fold_push (names_after texts r) names.empty edits edit

none_there : (count : ℕ) (there : Option Row) (realm name : List ℕ) → row_fault count there (Add realm name) ≡ None → is_some there ≡ false
none_there count None realm name h = refl
none_there count (Some x) realm name h = absurd cc

one_there : (count : ℕ) (there : Option Row) (realm name : List ℕ) → row_fault count there (Remove realm name) ≡ None → is_some there ≡ true
one_there count None realm name h = absurd cc
one_there count (Some x) realm name h = refl

-- a count stays, whichever realm it is of
same_count : (b : Bool) (count : ℕ) → count ≡ cond b count count
same_count true count = refl
same_count false count = refl

len-after : (texts : Texts) (edits : List Edit) (r : List ℕ) (edit : Edit) → IsMade texts edits edit → names.len (names_after texts r (names_of texts edits r) edit) ≡ count_after texts r (names.len (names_of texts edits r)) edit
len-after texts edits r (Add realm name) made = by_realm (bytes_eq realm r) refl
  where
    by_realm : (b : Bool) → bytes_eq realm r ≡ b → names.len (cond b (names.insert (names_of texts edits r) name) (names_of texts edits r)) ≡ cond b (names.len (names_of texts edits r) + 1) (names.len (names_of texts edits r))
    by_realm true e =
        let absent : names.contains (names_of texts edits realm) name ≡ false = named texts edits realm name ∙ none_there _ _ realm name (made name refl) in
        let absent_here : names.contains (names_of texts edits r) name ≡ false = subst (λ (q : List ℕ). names.contains (names_of texts edits q) name ≡ false) (same_bytes realm r e) absent in
        names.len-insert nat_list_cmp_total (names_of texts edits r) name ∙ ap (λ (b : Bool). cond b (names.len (names_of texts edits r)) (names.len (names_of texts edits r) + 1)) absent_here
    by_realm false e = refl
len-after texts edits r (Remove realm name) made = by_realm (bytes_eq realm r) refl
  where
    by_realm : (b : Bool) → bytes_eq realm r ≡ b → names.len (cond b (names.remove (names_of texts edits r) name) (names_of texts edits r)) ≡ cond b (names.len (names_of texts edits r) - 1) (names.len (names_of texts edits r))
    by_realm true e =
        let there : names.contains (names_of texts edits realm) name ≡ true = named texts edits realm name ∙ one_there _ _ realm name (made name refl) in
        let there_here : names.contains (names_of texts edits r) name ≡ true = subst (λ (q : List ℕ). names.contains (names_of texts edits q) name ≡ true) (same_bytes realm r e) there in
        names.len-remove nat_list_cmp_total (names_of texts edits r) name ∙ ap (λ (b : Bool). cond b (names.len (names_of texts edits r) - 1) (names.len (names_of texts edits r))) there_here
    by_realm false e = refl
len-after texts edits r (Reload realm users groups) made = by_realm (bytes_eq realm r)
  where
    by_realm : (b : Bool) → names.len (cond b (names_in (texts realm users groups)) (names_of texts edits r)) ≡ cond b (names.len (names_in (texts realm users groups))) (names.len (names_of texts edits r))
    by_realm true = refl
    by_realm false = refl
len-after texts edits r (SetCred realm name slot cred) made = same_count (bytes_eq realm r) _
len-after texts edits r (DropCred realm name slot) made = same_count (bytes_eq realm r) _
len-after texts edits r (SetAttr realm name attr values) made = same_count (bytes_eq realm r) _
len-after texts edits r (DropAttr realm name attr) made = same_count (bytes_eq realm r) _

-- the count after one more edit that is made
pub count-push : (texts : Texts) (edits : List Edit) (edit : Edit) (r : List ℕ) → IsMade texts edits edit → row_count texts (edits ++ edit ∷ []) r ≡ count_after texts r (row_count texts edits r) edit
count-push texts edits edit r made =
    count_is texts (edits ++ edit ∷ []) r
    ∙ ap (λ (s : names.FinSet name_cmp). names.len s) (names-push texts edits edit r)
    ∙ len-after texts edits r edit made
    ∙ ap (λ (k : ℕ). count_after texts r k edit) (sym (count_is texts edits r))

-- no edits make no rows
pub count-none : (texts : Texts) (r : List ℕ) → row_count texts [] r ≡ 0
unfolding row_count names_of
count-none texts r = names.len-empty name_cmp

-- rows whose names differ have as many names as they are
pub len_apart : (rows : List (List ℕ × Row)) → pairs_apart rows ≡ true → names.len (names_in rows) ≡ length rows
len_apart [] apart = names.len-empty name_cmp
len_apart (row ∷ rows) apart =
    let absent : names.contains (names_in rows) row.0 ≡ false = named_among rows row.0 ∙ first_of_and (is_among row.0 (keys_of rows)) (pairs_apart rows) apart in
    names.len-insert nat_list_cmp_total (names_in rows) row.0
    ∙ ap (λ (b : Bool). cond b (names.len (names_in rows)) (names.len (names_in rows) + 1)) absent
    ∙ ap (λ (k : ℕ). k + 1) (len_apart rows (second_of_and (not (is_among row.0 (keys_of rows))) (pairs_apart rows) apart))
    ∙ (let more : length rows + 1 ≡ suc (length rows) = omega arith in more)
