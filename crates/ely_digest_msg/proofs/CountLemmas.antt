-- Digits of a count, and their number.
use Rattle.std.proofs.Common.{◌≡◌, ℕ, zero, suc, ◌+◌, ◌*◌, ◌^◌, ◌<◌, true, List, [], ◌∷◌, length, take, get_or, refl, subst, arith, eqb}
use Rattle.std.proofs.lemmas.Bool.{and_parts}
use Rattle.std.proofs.lemmas.Bool.Decides.{nat_tests}
use Rattle.std.proofs.lemmas.Int.Digits.{digits_value-lt, digits_value_more}
use Rattle.std.proofs.lemmas.Str.Parse.{digits_value-take-le}
use Rattle.std.specs.List.{list_all}
use Rattle.std.specs.Char.{digit_value}
use Rattle.std.specs.Str.Parse.{digits_value, AllDigits}
use Rattle.ely_digest_msg.specs.Headers.{is_lower_hex, is_count}

hex_digit : (c : ℕ) → is_lower_hex c ≡ true → digit_value c < 16
hex_digit c h = grind (arith, nat_tests)

pub hex_digits : (ds : List ℕ) → list_all is_lower_hex ds ≡ true → AllDigits 16 ds
hex_digits [] h = tt
hex_digits (c ∷ cs) h = (hex_digit c (and_parts _ _ h).0, hex_digits cs (and_parts _ _ h).1)

pub hex_at : (ds : List ℕ) (i : ℕ) → list_all is_lower_hex ds ≡ true → i < length ds → is_lower_hex (get_or ds i 0) ≡ true
hex_at [] i h within = absurd (omega arith)
hex_at (c ∷ cs) zero h within = (and_parts _ _ h).0
hex_at (c ∷ cs) (suc i) h within = hex_at cs i (and_parts _ _ h).1 (omega arith)

pub eight : (ds : List ℕ) → is_count ds ≡ true → length ds ≡ 8
eight ds h = let a = (and_parts (eqb (length ds) 8) (list_all is_lower_hex ds) h).0 in grind (arith, nat_tests)

pub count_digits : (ds : List ℕ) → is_count ds ≡ true → list_all is_lower_hex ds ≡ true
count_digits ds h = (and_parts (eqb (length ds) 8) (list_all is_lower_hex ds) h).1

pub count_fits : (ds : List ℕ) (i : ℕ) → is_count ds ≡ true → i < length ds → digits_value 16 (take i ds) * 16 + digit_value (get_or ds i 0) < 2 ^ 32
count_fits ds i h within =
    let len = eight ds h in
    let all : digits_value 16 ds < 16 ^ 8 = subst (λ (n : ℕ). digits_value 16 ds < 16 ^ n) len (digits_value-lt 16 ds (hex_digits ds (count_digits ds h))) in
    let most : 16 ^ 8 ≡ 2 ^ 32 = refl in
    omega (arith, digits_value_more 16 ds i within, digits_value-take-le 16 ds (i + 1) (omega arith), all, most)
