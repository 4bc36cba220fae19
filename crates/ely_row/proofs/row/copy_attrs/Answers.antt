use Rattle.std.proofs.lemmas.Cmp.{nat_list_cmp_total}
use Rattle.std.proofs.lemmas.Map.Iter.{rest_more}
use Rattle.std.specs.Map.Iter.{deref_pair}
use Rattle.ely_row.proofs.Appended.{copied_more}
use Rattle.ely_row.proofs.row.copy_attrs.Goals as goal

pub loop-attr-preserved-in_ok-insert : goal.loop-attr-preserved-in_ok-insert
loop-attr-preserved-in_ok-insert c =
    let kept = c.loop-attr.invariant in
    let first = rest_more deref_pair c.loop-attr.attr-iterator c.next.new.self c.next.result (c.in-Some.attr, c.in-Some.values) c.in-Some.is c.next.ensures.steps in
    (copied_more nat_list_cmp_total _ _ _ _ _ _ _ _ _ kept.0 first kept.2 c.in_ok-copy.ensures c.in_ok-copy-2.ensures c.in_ok-insert.ensures.entries, c.insert.ensures.ordered, kept.2)

pub loop-attr-preserved : goal.loop-attr-preserved
loop-attr-preserved c =
    let kept = c.loop-attr.invariant in
    let first = rest_more deref_pair c.loop-attr.attr-iterator c.next.new.self c.next.result (c.in-Some.attr, c.in-Some.values) c.in-Some.is c.next.ensures.steps in
    (copied_more nat_list_cmp_total _ _ _ _ _ _ _ _ _ kept.0 first kept.2 c.in_ok-copy.ensures c.in_ok-copy-2.ensures c.in_ok-insert.ensures.entries, c.insert.ensures.ordered, kept.2)
