use Rattle.std.proofs.Common.{refl}
use Rattle.std.proofs.lemmas.Cmp.{nat_cmp_total}
use Rattle.std.proofs.lemmas.Map.Iter.{rest_more}
use Rattle.std.specs.Map.Iter.{deref_pair}
use Rattle.ely_row.proofs.Appended.{copied_more}
use Rattle.ely_row.proofs.row.copy_creds.Goals as goal

pub loop-slot-preserved : goal.loop-slot-preserved
loop-slot-preserved c =
    let kept = c.loop-slot.invariant in
    let first = rest_more deref_pair c.loop-slot.slot-iterator c.next.new.self c.next.result (c.in-Some.slot, c.in-Some.cred) c.in-Some.is c.next.ensures.steps in
    (copied_more nat_cmp_total _ _ _ _ _ _ _ _ _ kept.0 first kept.2 refl c.in_ok-copy.ensures c.in_ok-put_cred.ensures.entries, c.put_cred.ensures.rise, kept.2)
