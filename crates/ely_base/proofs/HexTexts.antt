-- Which texts are hexadecimal.
use Rattle.std.proofs.Common.{◌≡◌, ℕ, ◌%◌, true, false, List, length, arith, ⊎_elim, eqb, refl}
use Rattle.std.proofs.lemmas.Bool.{cases_Bool, and_parts}
use Rattle.std.proofs.lemmas.Bool.Decides.{nat_tests}
use Rattle.std.proofs.lemmas.List.Sums.{AllPass-from_list_all, list_all-from_AllPass}
use Rattle.std.specs.Prelude.{Result, Ok, Err}
use Rattle.std.specs.List.{list_all}
use Rattle.hex.specs.declared.error.FromHexError.{FromHexError}
use Rattle.hex.specs.Hex.{decode_of, is_hex_digit}
use Rattle.hex.proofs.HexLemmas.{decode_of-ok, decode_of-digits}
use Rattle.ely_base.specs.Texts.{hex_of, is_hex, or_bad}
use Rattle.ely_base.specs.declared.texts.TextFault.TheVariants.{Bad}

pub hex_read : (text bytes : List ℕ) → decode_of text ≡ Ok bytes → is_hex text ≡ true
hex_read text bytes h =
    let parts = decode_of-ok text bytes h in
    let even : eqb (length text % 2) 0 ≡ true = grind (arith, nat_tests, parts.0) in
    let digits : list_all is_hex_digit text ≡ true = list_all-from_AllPass is_hex_digit text parts.1 in
    grind (arith, nat_tests, even, digits)

pub hex_refused : (text : List ℕ) (e : FromHexError) → decode_of text ≡ Err e → is_hex text ≡ false
hex_refused text e h = ⊎_elim
    (λ (yes : is_hex text ≡ true).
    let both = and_parts (eqb (length text % 2) 0) (list_all is_hex_digit text) yes in
    let even : length text % 2 ≡ 0 = grind (arith, nat_tests, both.0) in
    let read = decode_of-digits text even (AllPass-from_list_all is_hex_digit text both.1) in
    absurd (cc (h, read.1)))
    (λ no. no)
    (cases_Bool (is_hex text))

-- what is refused is no such text
pub hex_bad : (text : List ℕ) → hex_of text ≡ Err Bad → is_hex text ≡ false
hex_bad text = of (decode_of text) refl
  where
    of : (r : Result (List ℕ) FromHexError) → decode_of text ≡ r → or_bad r ≡ Err Bad → is_hex text ≡ false
    of (Ok bytes) h bad = absurd (cc bad)
    of (Err e) h bad = hex_refused text e h
