-- The lines of a text that are read one after another, up to the first faulty one.
use Rattle.std.proofs.Common.{ℕ, zero, suc, ◌≡◌, ◌+◌, ◌<◌, ◌≤◌, min, Bool, true, false, List, [], ◌∷◌, ◌++◌, Option, Some, None, Result, Ok, Err, length, take, refl, ap, ◌∙◌, sym, subst, ⊎_elim, arith}
use Rattle.std.specs.Prelude.{slice_get, IsErrAnd, option_and_then}
use Rattle.std.specs.List.{filter_map, cons_option, range_with_len}
use Rattle.std.specs.Map.{keys_of}
use Rattle.std.specs.BTreeSet.{BTreeSet, Updates, contains}
use Rattle.std.proofs.lemmas.Bool.{cases_lt}
use Rattle.std.proofs.lemmas.List.{append_assoc, append-nil, length-append}
use Rattle.std.proofs.lemmas.List.Elements.{filter_map-append}
use Rattle.std.proofs.Math.Seq.{take-append_seam}
use Rattle.ely_base.specs.declared.refused.Refused.{Refused}
use Rattle.ely_base.specs.declared.refused.Refused.TheVariants.{Fault, NoMemory}
use Rattle.ely_base.specs.Refused.{Fails, Gives}
use Rattle.ely_row.specs.declared.edit.PropFault.{PropFault}
use Rattle.ely_row.specs.Creds.{mapped}
use Rattle.ely_row.specs.Rows.{name_cmp}
use Rattle.ely_propfile.specs.Entries.{Entry}
use Rattle.ely_propfile.specs.Faults.{number_at, entries_from, pair_in, pairs_of, is_among, are_apart, name_fault, fault_behind, fault_at, unless_faulty, pairs_or_fault, IsRefusal}
use Rattle.ely_propfile.proofs.NameLemmas.{Holds, holds_more, apart_push}

get_seam : {X : Type 0} (xs : List X) (x : X) (ys : List X) → slice_get (xs ++ x ∷ ys) (length xs) ≡ Some x
get_seam [] x ys = refl
get_seam (w ∷ xs) x ys = get_seam xs x ys

-- a name that isn't refused is new
new_name : (number : ℕ) (is_old is_large : Bool) (count : ℕ) → name_fault number is_old is_large count ≡ None → is_old ≡ false
new_name number true is_large count h = absurd cc
new_name number false is_large count h = refl

-- where nothing is found, nothing is kept
found_none : {A : Type 0} (f : ℕ → Option A) (a n : ℕ) → ((k : ℕ) → a ≤ k → k < a + n → f k ≡ None) → filter_map f (range_with_len a n) ≡ []
found_none f a zero none = refl
found_none f a (suc n) none =
    ap (λ o. cons_option o (filter_map f (range_with_len (a + 1) n))) (none a (omega arith) (omega arith)) ∙ found_none f (a + 1) n (λ k low high. none k (omega arith) (omega arith))

-- the first that is found stands first
found_first : {T : Type 0} (f : ℕ → Option PropFault) (a n index : ℕ) (fault : PropFault) (value : T) → a ≤ index → index < a + n → ((k : ℕ) → a ≤ k → k < index → f k ≡ None) → f index ≡ Some fault → unless_faulty (filter_map f (range_with_len a n)) value ≡ Err fault
found_first f a zero index fault value low high none found = absurd (omega arith)
found_first f a (suc n) index fault value low high none found =
    let rest = filter_map f (range_with_len (a + 1) n) in
    ⊎_elim
    (λ (less : a < index). ap (λ o. unless_faulty (cons_option o rest) value) (none a (omega arith) less) ∙ found_first f (a + 1) n index fault value (omega arith) (omega arith) (λ k l h. none k (omega arith) h) found)
    (λ (most : index ≤ a). let same : a ≡ index = omega arith in ap (λ o. unless_faulty (cons_option o rest) value) (ap f same ∙ found))
    (cases_lt a index)

module _ {V : Type 0} (is_large : V → Bool) where
  -- why the line behind some lines is refused
  fault_there : (before : List (Entry V)) (entry : Entry V) (after : List (Entry V)) → fault_at is_large (before ++ entry ∷ after) (length before) ≡ fault_behind is_large (number_at (length before)) before entry
  fault_there before entry after =
      ap (λ o. option_and_then (fault_behind is_large (number_at (length before)) (take (length before) (before ++ entry ∷ after))) o) (get_seam before entry after)
      ∙ ap (λ xs. fault_behind is_large (number_at (length before)) xs entry) (take-append_seam before (entry ∷ after))

  -- the first faulty line
  pub faulty : (entries before : List (Entry V)) (entry : Entry V) (after : List (Entry V)) (fault : PropFault) → entries ≡ before ++ entry ∷ after → ((k : ℕ) → k < length before → fault_at is_large entries k ≡ None)
      → fault_behind is_large (number_at (length before)) before entry ≡ Some fault → pairs_or_fault is_large entries ≡ Err fault
  unfolding pairs_or_fault
  faulty entries before entry after fault whole sound found =
      let len : length entries ≡ length before + length (entry ∷ after) = ap length whole ∙ length-append before (entry ∷ after) in
      found_first (fault_at is_large entries) 0 (length entries) (length before) fault (pairs_of entries) (omega arith) (omega arith) (λ k low high. sound k high)
      (ap (λ xs. fault_at is_large xs (length before)) whole ∙ fault_there before entry after ∙ found)

  -- no line is faulty
  pub faultless : (entries : List (Entry V)) → ((k : ℕ) → k < length entries → fault_at is_large entries k ≡ None) → pairs_or_fault is_large entries ≡ Ok (pairs_of entries)
  unfolding pairs_or_fault
  faultless entries sound = ap (λ faults. unless_faulty faults (pairs_of entries)) (found_none (fault_at is_large entries) 0 (length entries) (λ k low high. sound k (omega arith)))

  module _ (shown : List (List ℕ × V) → List (List ℕ × V)) (entry : ℕ → List ℕ → Entry V) where
    -- the lines so far had no fault; their names are in the set, and their pairs are kept as they are shown
    pub record IsRead (lines left : List (List ℕ)) (number : ℕ) (seen : BTreeSet (List ℕ)) (kept : List (List ℕ × V)) : Type 0 where
      pub before : List (Entry V)
      pub whole : entries_from entry 0 lines ≡ before ++ entries_from entry (length before) left
      pub number_is : number ≡ min (length before) 4294967295
      pub shows : kept ≡ shown (pairs_of before)
      pub holds : Holds seen (pairs_of before)
      pub apart : are_apart (pairs_of before) ≡ true
      pub sound : (k : ℕ) → k < length before → fault_at is_large (entries_from entry 0 lines) k ≡ None

    -- the number of the next line
    number_next : (index number next : ℕ) → number ≡ min index 4294967295 → next ≡ min (number + 1) 4294967295 → next ≡ number_at index
    number_next index number next now then = grind arith

    module _ (lines left more : List (List ℕ)) (line : List ℕ) (number next : ℕ) (seen : BTreeSet (List ℕ)) (kept : List (List ℕ × V))
        (so_far : IsRead lines left number seen kept) (first : left ≡ line ∷ more) (stepped : next ≡ min (number + 1) 4294967295) where
      next_is : next ≡ number_at (length so_far.before)
      next_is = number_next (length so_far.before) number next so_far.number_is stepped

      whole_is : entries_from entry 0 lines ≡ so_far.before ++ entry next line ∷ entries_from entry (length so_far.before + 1) more
      whole_is =
          so_far.whole
          ∙ ap (λ ls. so_far.before ++ entries_from entry (length so_far.before) ls) first
          ∙ ap (λ n. so_far.before ++ entry n line ∷ entries_from entry (length so_far.before + 1) more) (sym next_is)

      -- the line is faulty
      pub read_fault : (fault : PropFault) → fault_behind is_large next so_far.before (entry next line) ≡ Some fault → pairs_or_fault is_large (entries_from entry 0 lines) ≡ Err fault
      read_fault fault found =
          faulty (entries_from entry 0 lines) so_far.before (entry next line) (entries_from entry (length so_far.before + 1) more) fault whole_is so_far.sound
          (ap (λ n. fault_behind is_large n so_far.before (entry next line)) (sym next_is) ∙ found)

      -- the refusal of a faulty line
      pub read_fails : (e : Refused PropFault) → Fails e (entry next line) → Fails e (pairs_or_fault is_large (entries_from entry 0 lines))
      read_fails NoMemory fails = tt
      read_fails (Fault fault) fails = read_fault fault (ap (fault_behind is_large next so_far.before) fails)

      -- the line is not faulty
      read_more : (then : BTreeSet (List ℕ)) (keeps : List (List ℕ × V)) → fault_behind is_large next so_far.before (entry next line) ≡ None → Holds then (pairs_of (so_far.before ++ entry next line ∷ [])) → are_apart (pairs_of (so_far.before ++ entry next line ∷ [])) ≡ true
          → keeps ≡ shown (pairs_of (so_far.before ++ entry next line ∷ [])) → IsRead lines more next then keeps
      read_more then keeps none holds apart shows = record {
        before = so_far.before ++ entry next line ∷ [];
        whole =
            whole_is
            ∙ sym (append_assoc so_far.before (entry next line ∷ []) (entries_from entry (length so_far.before + 1) more))
            ∙ ap (λ n. (so_far.before ++ entry next line ∷ []) ++ entries_from entry n more) (sym len);
        number_is = next_is ∙ ap (λ n. min n 4294967295) (sym len);
        shows = shows;
        holds = holds;
        apart = apart;
        sound = λ k h. ⊎_elim
            (λ (less : k < length so_far.before). so_far.sound k less)
            (λ (most : length so_far.before ≤ k). let here : k ≡ length so_far.before = omega (arith, len) in
            ap (fault_at is_large (entries_from entry 0 lines)) here
            ∙ ap (λ xs. fault_at is_large xs (length so_far.before)) whole_is
            ∙ fault_there so_far.before (entry next line) (entries_from entry (length so_far.before + 1) more)
            ∙ ap (λ n. fault_behind is_large n so_far.before (entry next line)) (sym next_is)
            ∙ none)
            (cases_lt k (length so_far.before));
      }
        where
          len : length (so_far.before ++ entry next line ∷ []) ≡ length so_far.before + 1
          len = length-append so_far.before (entry next line ∷ [])

      -- the line says nothing
      pub read_blank : entry next line ≡ Ok None → IsRead lines more next seen kept
      read_blank is =
          let same : pairs_of (so_far.before ++ entry next line ∷ []) ≡ pairs_of so_far.before = filter_map-append pair_in so_far.before (entry next line ∷ []) ∙ ap (λ s. pairs_of so_far.before ++ cons_option (pair_in s) []) is ∙ append-nil (pairs_of so_far.before) in
          read_more seen kept (ap (fault_behind is_large next so_far.before) is) (subst (Holds seen) (sym same) so_far.holds) (ap are_apart same ∙ so_far.apart) (so_far.shows ∙ ap shown (sym same))

      -- why the pair is refused
      pair_is : (pair : List ℕ × V) → entry next line ≡ Ok (Some pair) → fault_behind is_large next so_far.before (entry next line) ≡ name_fault next (contains name_cmp seen pair.0) (is_large pair.1) (length seen.keys)
      pair_is pair is =
          ap (fault_behind is_large next so_far.before) is
          ∙ ap (λ b. name_fault next b (is_large pair.1) (length (keys_of (pairs_of so_far.before)))) (sym (so_far.holds.has pair.0))
          ∙ ap (name_fault next (contains name_cmp seen pair.0) (is_large pair.1)) (sym so_far.holds.count)

      -- the refusal of a pair
      pub read_refuses : (pair : List ℕ × V) (e : Refused PropFault) → entry next line ≡ Ok (Some pair) → IsRefusal e (name_fault next (contains name_cmp seen pair.0) (is_large pair.1) (length seen.keys)) → Fails e (pairs_or_fault is_large (entries_from entry 0 lines))
      read_refuses pair NoMemory is refusal = tt
      read_refuses pair (Fault fault) is refusal = read_fault fault (pair_is pair is ∙ refusal)

      -- the line says a new pair
      pub read_pair : (pair : List ℕ × V) (then : BTreeSet (List ℕ)) (keeps : List (List ℕ × V)) → entry next line ≡ Ok (Some pair) → name_fault next (contains name_cmp seen pair.0) (is_large pair.1) (length seen.keys) ≡ None
          → Updates name_cmp seen then pair.0 true → length then.keys ≡ length seen.keys + 1 → keeps ≡ shown (pairs_of so_far.before ++ pair ∷ []) → IsRead lines more next then keeps
      read_pair pair then keeps is none added count shows =
          let more_pairs : pairs_of (so_far.before ++ entry next line ∷ []) ≡ pairs_of so_far.before ++ pair ∷ [] = filter_map-append pair_in so_far.before (entry next line ∷ []) ∙ ap (λ s. pairs_of so_far.before ++ cons_option (pair_in s) []) is in
          let new : is_among pair.0 (keys_of (pairs_of so_far.before)) ≡ false = sym (so_far.holds.has pair.0) ∙ new_name next (contains name_cmp seen pair.0) (is_large pair.1) (length seen.keys) none in
          read_more then keeps (pair_is pair is ∙ none)
          (subst (Holds then) (sym more_pairs) (holds_more seen then (pairs_of so_far.before) pair so_far.holds added count))
          (ap are_apart more_pairs ∙ apart_push (pairs_of so_far.before) pair so_far.apart new)
          (shows ∙ ap shown (sym more_pairs))

    -- all lines are read
    pub read_all : (lines left : List (List ℕ)) (number : ℕ) (seen : BTreeSet (List ℕ)) (kept : List (List ℕ × V)) → IsRead lines left number seen kept → left ≡ [] → mapped shown (pairs_or_fault is_large (entries_from entry 0 lines)) ≡ Ok kept
    read_all lines left number seen kept so_far none =
        let whole : entries_from entry 0 lines ≡ so_far.before = so_far.whole ∙ ap (λ ls. so_far.before ++ entries_from entry (length so_far.before) ls) none ∙ append-nil so_far.before in
        ap (mapped shown) (faultless (entries_from entry 0 lines) (λ k h. so_far.sound k (subst (λ xs. k < length xs) whole h)))
        ∙ ap (λ xs. Ok (shown (pairs_of xs))) whole
        ∙ ap Ok (sym so_far.shows)

-- the exit of a refusal
pub gives_err : {S T F : Type 0} (f : S → T) (r : Result S (Refused F)) (e : Refused F) (expected : Result T F) → IsErrAnd r (λ x. x ≡ e) → Fails e expected → Gives (mapped f r) expected
gives_err f (Ok x) e expected is fails = absurd is
gives_err {F = F} f (Err x) e expected is fails = subst (λ (y : Refused F). Fails y expected) (sym is) fails

pub mapped_same : {T F : Type 0} (r : Result T F) → mapped (λ x. x) r ≡ r
mapped_same (Ok x) = refl
mapped_same (Err e) = refl
