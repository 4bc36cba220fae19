-- What a line of groups says, where the first 65 of them are kept.
use Rattle.std.proofs.Common.{ℕ, ◌≡◌, ◌≤◌, ◌<◌, ltb, Bool, true, false, cond, List, [], ◌∷◌, ◌++◌, Some, None, Result, Ok, Err, length, take, refl, ap, ◌∙◌, sym, ⊎_elim, arith}
use Rattle.std.specs.Option.{option_map}
use Rattle.std.specs.List.{filter}
use Rattle.std.proofs.lemmas.Bool.{cases_lt}
use Rattle.std.proofs.lemmas.List.{length-take-le, take_all}
use Rattle.std.proofs.lemmas.List.Elements.{filter-append}
use Rattle.ely_base.specs.declared.refused.Refused.{Refused}
use Rattle.ely_base.specs.declared.refused.Refused.TheVariants.{Fault, NoMemory}
use Rattle.ely_base.specs.Refused.{◌>>=◌, Fails}
use Rattle.ely_row.specs.declared.edit.PropFault.{PropFault}
use Rattle.ely_row.specs.Creds.{mapped}
use Rattle.ely_propfile.specs.Lines.{trimmed_start, lines_of}
use Rattle.ely_propfile.specs.Entries.{Entry, is_skipped, key_part, pair_of, entry_of}
use Rattle.ely_propfile.specs.Faults.{name_fault, entries_from, pairs_or_fault}
use Rattle.ely_propfile.specs.Groups.{groups_in, groups_entry, is_large, has_groups, groups_of}
use Rattle.ely_propfile.specs.Kept.{kept_groups}

-- a name with the first 65 of its groups
abbrev pub kept_pair : List ℕ × List (List ℕ) → List ℕ × List (List ℕ)
kept_pair pair = (pair.0, take 65 pair.1)

value_kept : (name : List ℕ) (groups : Result (List (List ℕ)) PropFault) → (mapped (take 65) groups >>= (λ value. Ok (name, value))) ≡ mapped kept_pair (groups >>= (λ value. Ok (name, value)))
value_kept name (Ok groups) = refl
value_kept name (Err fault) = refl

pair_kept : (number : ℕ) (key : Result (List ℕ × List ℕ) PropFault) → (key >>= (λ k. kept_groups number k.1 >>= (λ value. Ok (k.0, value)))) ≡ mapped kept_pair (key >>= (λ k. groups_in number k.1 >>= (λ value. Ok (k.0, value))))
pair_kept number (Ok k) = value_kept k.0 (groups_in number k.1)
pair_kept number (Err fault) = refl

some_kept : (pair : Result (List ℕ × List (List ℕ)) PropFault) → mapped Some (mapped kept_pair pair) ≡ mapped (option_map kept_pair) (mapped Some pair)
some_kept (Ok pair) = refl
some_kept (Err fault) = refl

entry_kept : (number : ℕ) (line : List ℕ) → entry_of kept_groups number line ≡ mapped (option_map kept_pair) (groups_entry number line)
entry_kept number line = by (is_skipped (trimmed_start line))
  where
    by : (t : Bool) → cond t (Ok None) (mapped Some (pair_of kept_groups number (trimmed_start line))) ≡ mapped (option_map kept_pair) (cond t (Ok None) (mapped Some (pair_of groups_in number (trimmed_start line))))
    by true = refl
    by false = ap (mapped Some) (pair_kept number (key_part number (trimmed_start line))) ∙ some_kept (pair_of groups_in number (trimmed_start line))

name_in : List ℕ → Entry (List (List ℕ)) → List ℕ
name_in d (Ok (Some pair)) = pair.0
name_in d (Ok None) = d
name_in d (Err fault) = d

groups_from : List (List ℕ) → Entry (List (List ℕ)) → List (List ℕ)
groups_from d (Ok (Some pair)) = pair.1
groups_from d (Ok None) = d
groups_from d (Err fault) = d

-- a line that says a name with groups, of which those are kept
pub record IsKept (entry : Entry (List (List ℕ))) (name : List ℕ) (kept : List (List ℕ)) : Type 0 where
  pub groups : List (List ℕ)
  pub reads : entry ≡ Ok (Some (name, groups))
  pub prefix : kept ≡ take 65 groups

kept_by : (entry : Entry (List (List ℕ))) (name : List ℕ) (kept : List (List ℕ)) → mapped (option_map kept_pair) entry ≡ Ok (Some (name, kept)) → IsKept entry name kept
unfolding name_in groups_from
kept_by (Ok (Some pair)) name kept h = record {
  groups = pair.1;
  reads = ap (λ n. Ok (Some (n, pair.1))) (ap (name_in name) h);
  prefix = sym (ap (groups_from kept) h);
}
kept_by (Ok None) name kept h = absurd cc
kept_by (Err fault) name kept h = absurd cc

pub entry_pair : (number : ℕ) (line name : List ℕ) (kept : List (List ℕ)) → entry_of kept_groups number line ≡ Ok (Some (name, kept)) → IsKept (groups_entry number line) name kept
entry_pair number line name kept h = kept_by (groups_entry number line) name kept (sym (entry_kept number line) ∙ h)

none_by : (entry : Entry (List (List ℕ))) → mapped (option_map kept_pair) entry ≡ Ok None → entry ≡ Ok None
none_by (Ok (Some pair)) h = absurd cc
none_by (Ok None) h = refl
none_by (Err fault) h = absurd cc

pub entry_none : (number : ℕ) (line : List ℕ) → entry_of kept_groups number line ≡ Ok None → groups_entry number line ≡ Ok None
entry_none number line h = none_by (groups_entry number line) (sym (entry_kept number line) ∙ h)

fault_at_err : {A : Type 0} → PropFault → Result A PropFault → PropFault
fault_at_err d (Ok x) = d
fault_at_err d (Err fault) = fault

fails_by : (entry : Entry (List (List ℕ))) (fault : PropFault) → mapped (option_map kept_pair) entry ≡ Err fault → entry ≡ Err fault
unfolding fault_at_err
fails_by (Ok pair) fault h = absurd cc
fails_by (Err f) fault h = ap Err (ap (fault_at_err fault) h)

pub entry_fault : (number : ℕ) (line : List ℕ) (e : Refused PropFault) → Fails e (entry_of kept_groups number line) → Fails e (groups_entry number line)
entry_fault number line NoMemory h = tt
entry_fault number line (Fault fault) h = fails_by (groups_entry number line) fault (sym (entry_kept number line) ∙ h)

-- the kept groups are too many where all are
pub large_kept : (groups : List (List ℕ)) → ltb 64 (length (take 65 groups)) ≡ is_large groups
large_kept groups = ⊎_elim
    (λ (many : 64 < length groups). let full : length (take 65 groups) ≡ 65 = length-take-le 65 groups (omega arith) in grind (arith, full))
    (λ (few : length groups ≤ 64). ap (λ gs. ltb 64 (length gs)) (take_all 65 groups (omega arith)))
    (cases_lt 64 (length groups))

-- where the name isn't refused, the groups are few
pub few_kept : (number : ℕ) (is_old is_large : Bool) (count : ℕ) → name_fault number is_old is_large count ≡ None → is_large ≡ false
few_kept number true is_large count h = absurd cc
few_kept number false true count h = absurd cc
few_kept number false false count h = refl

fails_mapped : {A B : Type 0} (f : A → B) (r : Result A PropFault) (e : Refused PropFault) → Fails e r → Fails e (mapped f r)
unfolding fault_at_err
fails_mapped f r NoMemory h = tt
fails_mapped f (Ok x) (Fault fault) h = absurd cc
fails_mapped f (Err g) (Fault fault) h = ap Err (ap (fault_at_err fault) h)

-- the refusal of a text
pub groups_fail : (text : List ℕ) (e : Refused PropFault) → Fails e (pairs_or_fault is_large (entries_from groups_entry 0 (lines_of text))) → Fails e (groups_of text)
unfolding groups_of
groups_fail text e h = fails_mapped (filter has_groups) (pairs_or_fault is_large (entries_from groups_entry 0 (lines_of text))) e h

-- the groups of a text whose lines were all read
pub groups_are : (text : List ℕ) (groups : List (List ℕ × List (List ℕ))) → mapped (filter has_groups) (pairs_or_fault is_large (entries_from groups_entry 0 (lines_of text))) ≡ Ok groups → groups_of text ≡ Ok groups
unfolding groups_of
groups_are text groups h = h

few_prefix : (groups kept : List (List ℕ)) → kept ≡ take 65 groups → is_large groups ≡ false → kept ≡ groups
few_prefix groups kept prefix few = prefix ∙ take_all 65 groups (let most : length groups ≤ 64 = grind (arith, few) in omega arith)

-- one more name, where it has groups
pub shown_more : (pairs shown more : List (List ℕ × List (List ℕ))) (name : List ℕ) (groups kept : List (List ℕ)) → shown ≡ filter has_groups pairs → more ≡ shown ++ filter has_groups ((name, kept) ∷ []) → kept ≡ take 65 groups → is_large groups ≡ false
    → more ≡ filter has_groups (pairs ++ (name, groups) ∷ [])
shown_more pairs shown more name groups kept shows put prefix few =
    put
    ∙ ap (λ ps. ps ++ filter has_groups ((name, kept) ∷ [])) shows
    ∙ ap (λ gs. filter has_groups pairs ++ filter has_groups ((name, gs) ∷ [])) (few_prefix groups kept prefix few)
    ∙ sym (filter-append has_groups pairs ((name, groups) ∷ []))
