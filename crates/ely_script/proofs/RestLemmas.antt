-- The rest of a line, whose words are cut at its spaces.
use Rattle.std.proofs.Common.{◌≡◌, ℕ, ◌<◌, List, [], ◌∷◌, length, refl, ap, ◌∙◌, arith, eqb}
use Rattle.std.specs.Prelude.{Ok}
use Rattle.std.specs.List.{join_with_byte}
use Rattle.std.proofs.lemmas.List.Splits.{join_with_byte-slice_split, length-slice_split}
use Rattle.ely_base.specs.Parts.{parts_at}
use Rattle.ely_script.specs.Arguments.{rest_of}

-- where a word is left, the rest is the words with one space between them
rest_of_some : (words : List (List ℕ)) → 0 < length words → rest_of words ≡ Ok (join_with_byte 32 words)
rest_of_some [] h = absurd (omega arith)
rest_of_some (word ∷ words) h = refl

-- bytes that are cut at their spaces are the rest of their words
pub rest_of_parts : (bytes : List ℕ) → rest_of (parts_at 32 bytes) ≡ Ok bytes
rest_of_parts bytes =
    let long = length-slice_split (λ b. eqb b 32) bytes in
    rest_of_some (parts_at 32 bytes) (omega arith) ∙ ap Ok (join_with_byte-slice_split 32 bytes)
