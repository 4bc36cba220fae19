use Rattle.std.proofs.Common.{arith}
use Rattle.ely_aggregate.proofs.Merging.{merged-more}
use Rattle.ely_aggregate.proofs.assembling.merged.Goals as goal

pub loop-left-preserved : goal.loop-left-preserved
loop-left-preserved g c =
    let so_far = c.loop-left.invariant in
    record {
      within = omega (arith, so_far.within);
      so_far = merged-more _ c.args.realms.now c.loop-left.left c.index-realms-left.result c.in-Some.row.now _ _ (omega (arith, c.loop-left-test.true)) so_far.within c.index-realms-left.is c.in-Some.ensures so_far.so_far c.in_ok-put_attrs.ensures;
    }
