-- Bytes with more than two NULs.
use Rattle.std.proofs.Common.{◌≡◌, ℕ, ◌+◌, ◌-◌, ◌<◌, true, List, [], ◌∷◌, length, Option, Some, None, Err, refl, ap, ◌∙◌, arith, eqb}
use Rattle.std.specs.Option.{option_map}
use Rattle.std.specs.Prelude.{is_some}
use Rattle.std.proofs.lemmas.List.Splits.{length-slice_split}
use Rattle.ely_base.specs.Parts.{parts_at, parts_left}
use Rattle.ely_plain.specs.Messages.{of_parts, plain_of}
use Rattle.ely_plain.specs.declared.message.PlainFault.TheVariants.{NoNul}

-- a fourth part is behind a third NUL
four : (bytes a n p : List ℕ) (rest : List (List ℕ)) → 0 < length rest → of_parts bytes (a ∷ n ∷ p ∷ rest) ≡ Err (NoNul (length (a ∷ n ∷ p ∷ rest) - 1))
four bytes a n p [] some = absurd (omega arith)
four bytes a n p (q ∷ rest) some = refl

module _ {X : Type 0} (view : X → List ℕ) (bytes last a n p : List ℕ) (count : ℕ) (counted : count + 1 ≡ length (parts_at 0 bytes)) (all : parts_at 0 bytes ≡ a ∷ n ∷ parts_at 0 last) where
  pub too_many : (more : Option X) → true ≡ is_some more → parts_at 0 last ≡ p ∷ parts_left 0 (option_map view more) → plain_of bytes ≡ Err (NoNul count)
  too_many None some is = absurd cc
  too_many (Some x) some is =
      let whole : parts_at 0 bytes ≡ a ∷ n ∷ p ∷ parts_at 0 (view x) = all ∙ ap (λ ps. a ∷ n ∷ ps) is in
      let behind : 0 < length (parts_at 0 (view x)) = omega (arith, length-slice_split (λ b. eqb b 0) (view x)) in
      let many : length (a ∷ n ∷ p ∷ parts_at 0 (view x)) - 1 ≡ count = omega (arith, counted, ap length whole) in
      ap (of_parts bytes) whole ∙ (four bytes a n p (parts_at 0 (view x)) behind ∙ ap (λ k. Err (NoNul k)) many)
