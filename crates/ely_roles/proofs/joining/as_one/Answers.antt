use Rattle.std.proofs.Common.{◌∙◌, ap, subst, sym, arith}
use Rattle.std.specs.Prelude.{◌++◌}
use Rattle.ely_base.specs.Names.{IsName}
use Rattle.ely_roles.proofs.Joins.{IsName-append}
use Rattle.ely_roles.proofs.joining.as_one.Goals as goal

pub of-requires : goal.of-requires
of-requires c =
    let front = c.bytes-front.result.now in
    let back = c.bytes-back.result.now in
    let first = c.in_ok-extend_from_slice.ensures.items ∙ ap (λ list. list ++ front) c.in_ok-list.ensures.items in
    let made = c.in_ok-extend_from_slice-2.ensures.items ∙ ap (λ list. list ++ back) first in
    subst IsName (sym made) (IsName-append front back c.bytes-front.ensures.name c.bytes-back.ensures.name (omega arith))
