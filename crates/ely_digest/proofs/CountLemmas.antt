-- Eight lower-case digits are what is written of their number.
use Rattle.std.proofs.Common.{◌≡◌, ℕ, zero, suc, ◌+◌, ◌*◌, ◌/◌, ◌%◌, ◌<◌, ◌||◌, ◌&&◌, Bool, true, false, List, [], ◌∷◌}
use Rattle.std.proofs.Common.{length, get_or, slice_index, refl, sym, ap, ◌∙◌, arith, inl, inr, eqb}
use Rattle.std.specs.Prelude.{not, if◌then◌else◌, Ok, Err}
use Rattle.std.specs.Int.{to_be_bytes, w32}
use Rattle.std.specs.Char.{digit_value}
use Rattle.std.specs.List.{list_all}
use Rattle.std.specs.Str.Parse.{digits_value}
use Rattle.std.proofs.lemmas.Bool.{and_parts, cases_lt, eqb-true}
use Rattle.std.proofs.lemmas.Bool.Decides.{nat_tests}
use Rattle.std.proofs.lemmas.Nat.{be_bytes_4}
use Rattle.hex.specs.Hex.{encode_lower, encode_with, lower_digits}
use Rattle.ely_digest_msg.specs.Headers.{is_lower_hex, is_count}
use Rattle.ely_digest_msg.proofs.CountLemmas.{hex_at, eight, count_digits}
use Rattle.ely_digest_msg.specs.declared.fault.DigestFault.TheVariants.{Nc}
use Rattle.ely_digest.specs.Responses.{nc_text, CountsAsRead}

-- ---- one digit

-- a lower-case digit is the one that is written of its value
abbrev is_written : ℕ → Bool
is_written c = not (is_lower_hex c) || eqb (slice_index lower_digits (digit_value c)) c

-- the test of all bytes below n
abbrev are_written : ℕ → Bool
are_written zero = true
are_written (suc n) = is_written n && are_written n

are_written-at : (n k : ℕ) → are_written n ≡ true → k < n → is_written k ≡ true
are_written-at zero k h lt = absurd (omega arith)
are_written-at (suc n) k h lt =
    let parts = and_parts (is_written n) (are_written n) h in
    elim (cases_lt k n) [
      | inl below ↦ are_written-at n k parts.1 below
      | inr top ↦ let e : k ≡ n = omega arith in rw e parts.0
    ]

-- it holds of all that are below 103, the last of which is `f`
all_written : are_written 103 ≡ true
all_written = refl

-- a lower-case digit is one of those bytes, and its value is below 16
digit_in : (c : ℕ) → is_lower_hex c ≡ true → c < 103
digit_in c h = grind (arith, nat_tests)

digit_small : (c : ℕ) → is_lower_hex c ≡ true → digit_value c < 16
digit_small c h = grind (arith, nat_tests)

-- from a test that is written as `not a or b`
second : (a b : Bool) → (not a || b) ≡ true → a ≡ true → b ≡ true
second true b h t = h
second false b h t = cc

-- the digit of a digit's value is that digit
digit_back : (c : ℕ) → is_lower_hex c ≡ true → slice_index lower_digits (digit_value c) ≡ c
digit_back c h = eqb-true (slice_index lower_digits (digit_value c)) c (second (is_lower_hex c) (eqb (slice_index lower_digits
    (digit_value c)) c) (are_written-at 103 c all_written (digit_in c h)) h)

-- ---- two digits

-- the byte of two digits
abbrev byte_of : ℕ → ℕ → ℕ
byte_of a b = digit_value a * 16 + digit_value b

-- the high half of their byte gives the first, and the low half the second
high : (a b : ℕ) → is_lower_hex a ≡ true → is_lower_hex b ≡ true → slice_index lower_digits (byte_of a b / 16) ≡ a
high a b ha hb =
    let small = digit_small b hb in
    let is : byte_of a b / 16 ≡ digit_value a = omega arith in
    ap (slice_index lower_digits) is ∙ digit_back a ha

low : (a b : ℕ) → is_lower_hex a ≡ true → is_lower_hex b ≡ true → slice_index lower_digits (byte_of a b % 16) ≡ b
low a b ha hb =
    let small = digit_small b hb in
    let is : byte_of a b % 16 ≡ digit_value b = omega arith in
    ap (slice_index lower_digits) is ∙ digit_back b hb

-- the text of a byte, before that of the others
pair : (a b : ℕ) (bs rest : List ℕ) → is_lower_hex a ≡ true → is_lower_hex b ≡ true → encode_lower bs ≡ rest
    → encode_lower (byte_of a b ∷ bs) ≡ a ∷ b ∷ rest
unfolding encode_with
pair a b bs rest ha hb h =
    ap (λ (x : ℕ). x ∷ slice_index lower_digits (byte_of a b % 16) ∷ encode_lower bs) (high a b ha hb)
    ∙ (ap (λ (y : ℕ). a ∷ y ∷ encode_lower bs) (low a b ha hb) ∙ ap (λ (cs : List ℕ). a ∷ b ∷ cs) h)

nothing : encode_lower [] ≡ []
unfolding encode_with
nothing = refl

byte_small : (a b : ℕ) → is_lower_hex a ≡ true → is_lower_hex b ≡ true → byte_of a b < 256
byte_small a b ha hb = omega (arith, digit_small a ha, digit_small b hb)

-- ---- eight digits

-- the bytes of a number that four bytes make
word_bytes : (p q r s n : ℕ) → p < 256 → q < 256 → r < 256 → s < 256 → n ≡ ((p * 256 + q) * 256 + r) * 256 + s
    → to_be_bytes w32 n ≡ p ∷ q ∷ r ∷ s ∷ []
word_bytes p q r s n hp hq hr hs is = be_bytes_4 (p ∷ q ∷ r ∷ s ∷ []) n refl small (omega (arith, is))
  where
    small : (i : ℕ) → get_or (p ∷ q ∷ r ∷ s ∷ []) i 0 < 256
    small zero = hp
    small (suc zero) = hq
    small (suc (suc zero)) = hr
    small (suc (suc (suc zero))) = hs
    small (suc (suc (suc (suc i)))) = omega arith

module _ (a b c d e f g h : ℕ) (pass : list_all is_lower_hex (a ∷ b ∷ c ∷ d ∷ e ∷ f ∷ g ∷ h ∷ []) ≡ true) where
  abbrev digits : List ℕ
  digits = a ∷ b ∷ c ∷ d ∷ e ∷ f ∷ g ∷ h ∷ []

  eight_written : nc_text (digits_value 16 digits) ≡ digits
  eight_written =
      let pa : is_lower_hex a ≡ true = hex_at digits 0 pass (omega arith) in
      let pb : is_lower_hex b ≡ true = hex_at digits 1 pass (omega arith) in
      let pc : is_lower_hex c ≡ true = hex_at digits 2 pass (omega arith) in
      let pd : is_lower_hex d ≡ true = hex_at digits 3 pass (omega arith) in
      let pe : is_lower_hex e ≡ true = hex_at digits 4 pass (omega arith) in
      let pf : is_lower_hex f ≡ true = hex_at digits 5 pass (omega arith) in
      let pg : is_lower_hex g ≡ true = hex_at digits 6 pass (omega arith) in
      let ph : is_lower_hex h ≡ true = hex_at digits 7 pass (omega arith) in
      let value : digits_value 16 digits ≡ ((byte_of a b * 256 + byte_of c d) * 256 + byte_of e f) * 256 + byte_of g h
      = omega arith in
      let bytes = word_bytes (byte_of a b) (byte_of c d) (byte_of e f) (byte_of g h) (digits_value 16 digits)
      (byte_small a b pa pb) (byte_small c d pc pd) (byte_small e f pe pf) (byte_small g h pg ph) value in
      ap encode_lower bytes ∙ pair a b _ _ pa pb (pair c d _ _ pc pd (pair e f _ _ pe pf (pair g h _ _ pg ph nothing)))

-- the same of a text of that length
written : (text : List ℕ) → length text ≡ 8 → list_all is_lower_hex text ≡ true → nc_text (digits_value 16 text) ≡ text
written (a ∷ b ∷ c ∷ d ∷ e ∷ f ∷ g ∷ h ∷ []) len pass = eight_written a b c d e f g h pass
written text len pass = absurd (omega arith)

-- what is read from a text is written back
counted : (text : List ℕ) (nc : ℕ) (test : Bool) → is_count text ≡ test
    → (if test then Ok (digits_value 16 text) else Err Nc) ≡ Ok nc → nc_text nc ≡ text
counted text nc true t h =
    let same : digits_value 16 text ≡ nc = cc in
    ap nc_text (sym same) ∙ written text (eight text t) (count_digits text t)
counted text nc false t h = cc

pub counts_as_read : CountsAsRead
counts_as_read text nc h = counted text nc (is_count text) refl h
