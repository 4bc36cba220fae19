use Rattle.std.proofs.Common.{◌∙◌, sym, ap, ◌++◌, List, ℕ}
use Rattle.ely_base.proofs.WordLemmas.{word_text_same}
use Rattle.ely_base.proofs.word.push_word.Goals as goal

pub returns-clause-ok : goal.returns-clause-ok
returns-clause-ok c =
    let bytes = c.args.bytes.now in
    c.in_ok-extend_from_slice.ensures.items
    ∙ ap (λ (xs : List ℕ). c.args.out.now.items ++ xs) (sym (word_text_same bytes (sym c.has_special.ensures ∙ c.if-has_special.false)))
