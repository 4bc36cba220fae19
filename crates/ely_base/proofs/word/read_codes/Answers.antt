use Rattle.std.proofs.Common.{◌∙◌, ap, sym, ◌++◌}
use Rattle.std.specs.Option.{option_map}
use Rattle.ely_base.specs.Words.{word_of}
use Rattle.ely_base.proofs.WordLemmas.{pushed}
use Rattle.ely_base.proofs.word.read_codes.Goals as goal

pub loop-rest-preserved : goal.loop-rest-preserved
loop-rest-preserved c =
    let list = c.loop-rest.list.items in
    let next = c.in-Some.ensures.first in
    rw c.in_ok-push.ensures.items (pushed list c.in-Some.byte (word_of c.in-Some.after.now) ∙ (ap (λ o. option_map (λ bytes. list ++ bytes) o) (sym next) ∙ c.loop-rest.invariant))
