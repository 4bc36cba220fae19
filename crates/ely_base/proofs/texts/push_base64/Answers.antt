use Rattle.std.proofs.Common.{◌≡◌, ◌∙◌, ℕ, List, ◌++◌, take, drop, length, sym, ap, arith, append_assoc}
use Rattle.std.proofs.lemmas.List.{take-append-drop, length-take}
use Rattle.base64.specs.Engines.{standard}
use Rattle.base64.proofs.EngineFacts.{encode_of-append}
use Rattle.ely_base.specs.Texts.{base64_text}
use Rattle.ely_base.proofs.AppendLemmas.{extends_more}
use Rattle.ely_base.proofs.texts.push_base64.Goals as goal

-- a piece of 48 bytes in front
cut : (xs : List ℕ) → length (take 48 xs) ≡ 48 → base64_text (take 48 xs) ++ base64_text (drop 48 xs) ≡ base64_text xs
cut xs h = sym (encode_of-append standard (take 48 xs) (drop 48 xs) (omega (arith, h))) ∙ ap base64_text (take-append-drop 48 xs)

pub loop-rest-preserved : goal.loop-rest-preserved
loop-rest-preserved c =
    let out = c.loop-rest.out.items in
    let rest = c.loop-rest.rest.now in
    let size : length (take 48 rest) ≡ 48 = omega (arith, length-take 48 rest, c.loop-rest-test.true) in (
      rw (c.in_ok-push_piece.ensures.ok, c.split_at.ensures.front, c.split_at.ensures.back, append_assoc) (ap (λ (xs : List ℕ). out ++ xs) (cut rest size) ∙ c.loop-rest.invariant.0),
      extends_more _ c.loop-rest.invariant.1 c.in_ok-push_piece.ensures.ok,
    )
