-- Cutting bytes at the first offset of a byte.
use Rattle.std.proofs.Common.{◌≡◌, ℕ, ◌+◌, ◌-◌, ◌<◌, ◌≤◌, Bool, true, false, List, [], ◌∷◌, length, take, drop, get_or, Some, None, refl, sym, ap, ◌∙◌, arith, cond, eqb, ltb, position, take_all}
use Rattle.std.proofs.lemmas.Bool.Decides.{nat_tests}
use Rattle.std.proofs.lemmas.Option.{same_Some}
use Rattle.std.proofs.lemmas.List.{take_rest}
use Rattle.std.proofs.lemmas.List.Splits.{slice_split_none, slice_split_first, length-slice_split}
use Rattle.std.proofs.lemmas.List.Sums.{fails_before_first}
use Rattle.std.specs.List.{count_by, slice_split, position_or_len}
use Rattle.ely_base.specs.Parts.{parts_at}

-- the offset that a search gave is the first one
found_is : (b : Bool) (n offset : ℕ) → cond b (Some n) None ≡ Some offset → (b ≡ true) × (n ≡ offset)
found_is true n offset h = (refl, same_Some n offset h)
found_is false n offset h = absurd cc

none_is : (b : Bool) (n : ℕ) → cond b (Some n) None ≡ None → b ≡ false
none_is true n h = absurd cc
none_is false n h = refl

-- no byte is that one
pub none_before : (mark : ℕ) (bytes : List ℕ) → position (λ b. eqb b mark) bytes ≡ None → (k d : ℕ) → k < length bytes → eqb (get_or bytes k d) mark ≡ false
none_before mark bytes h k d within =
    let p : ℕ → Bool = λ b. eqb b mark in
    let past = none_is (ltb (position_or_len p bytes) (length bytes)) (position_or_len p bytes) h in
    fails_before_first p bytes k d (grind (arith, nat_tests))

pub cut_none : (mark : ℕ) (bytes : List ℕ) → position (λ b. eqb b mark) bytes ≡ None → parts_at mark bytes ≡ bytes ∷ []
cut_none mark bytes h = slice_split_none (λ b. eqb b mark) bytes (none_before mark bytes h)

pub cut_some : (mark : ℕ) (bytes : List ℕ) (offset : ℕ) → position (λ b. eqb b mark) bytes ≡ Some offset → parts_at mark bytes ≡ take offset bytes ∷ parts_at mark (take (length bytes - (offset + 1)) (drop (offset + 1) bytes))
cut_some mark bytes offset h =
    let p : ℕ → Bool = λ b. eqb b mark in
    let found = found_is (ltb (position_or_len p bytes) (length bytes)) (position_or_len p bytes) offset h in
    let within : position_or_len p bytes < length bytes = grind (arith, nat_tests) in
    slice_split_first p bytes 0 within
    ∙ (ap (λ n. take n bytes ∷ slice_split p (drop (n + 1) bytes)) found.1
    ∙ ap (λ (rest : List ℕ). take offset bytes ∷ slice_split p rest) (sym (take_rest bytes (offset + 1))))

-- one part more than offsets, counted up to an offset past the end
pub count_is : (mark count i : ℕ) (bytes : List ℕ) → length bytes ≤ i → count ≡ count_by (λ b. eqb b mark) (take i bytes) → count + 1 ≡ length (parts_at mark bytes)
count_is mark count i bytes past h =
    ap (λ n. n + 1) (h ∙ ap (count_by (λ b. eqb b mark)) (take_all i bytes past)) ∙ sym (length-slice_split (λ b. eqb b mark) bytes)
