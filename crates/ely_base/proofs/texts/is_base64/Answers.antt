use Rattle.std.proofs.Common.{◌≡◌, ◌∙◌, ℕ, sym, ap, subst, take, length, get_or, ◌<◌, List, None, Some, Option}
use Rattle.std.specs.Prelude.{is_some}
use Rattle.std.specs.Option.{option_map}
use Rattle.std.specs.Result.{result_ok}
use Rattle.base64.specs.GeneralPurpose.{decode_of}
use Rattle.base64.specs.Engines.{standard}
use Rattle.ely_base.specs.Texts.{is_base64}
use Rattle.ely_base.proofs.Base64Lemmas.{rest_decides, piece_decides, found, no_length, other_length, some_length, IsBytes-drop}
use Rattle.ely_base.proofs.texts.is_base64.Goals as goal

abbrev length_of : List ℕ → Option ℕ
length_of s = option_map length (result_ok (decode_of standard s))

pub returns-in-None : goal.returns-in-None
returns-in-None c =
    let s = c.loop-rest.rest.now in
    let none : None ≡ length_of (take 64 s) = sym c.in-None.is ∙ (c.decoded_len.ensures ∙ ap length_of c.split_at.ensures.front) in
    piece_decides s c.loop-rest.invariant.1 c.loop-rest-test.true (λ x k size. no_length _ x none k) ∙ c.loop-rest.invariant.0

pub returns-then-len-ne48 : goal.returns-then-len-ne48
returns-then-len-ne48 c =
    let s = c.loop-rest.rest.now in
    let some : Some c.in-Some.len ≡ length_of (take 64 s) = sym c.in-Some.is ∙ (c.decoded_len.ensures ∙ ap length_of c.split_at.ensures.front) in
    piece_decides s c.loop-rest.invariant.1 c.loop-rest-test.true (λ x k size. other_length _ x c.in-Some.len some c.if-len-ne48.true k size) ∙ c.loop-rest.invariant.0

pub loop-rest-preserved : goal.loop-rest-preserved
loop-rest-preserved c =
    let s = c.loop-rest.rest.now in
    let some : Some c.in-Some.len ≡ length_of (take 64 s) = sym c.in-Some.is ∙ (c.decoded_len.ensures ∙ ap length_of c.split_at.ensures.front) in
    let f = found _ c.in-Some.len some in (
      ap is_base64 c.split_at.ensures.back ∙ (rest_decides s f.0 c.loop-rest.invariant.1 c.loop-rest-test.true f.1 (f.2 ∙ c.if-len-ne48.false) ∙ c.loop-rest.invariant.0),
      λ i. subst (λ (xs : List ℕ). get_or xs i 0 < 256) (sym c.split_at.ensures.back) (IsBytes-drop 64 s c.loop-rest.invariant.1 i),
    )

pub returns : goal.returns
returns c = c.is_some.ensures ∙ (ap is_some c.decoded_len-2.ensures ∙ (some_length c.loop-rest.rest.now ∙ c.loop-rest.invariant.0))
