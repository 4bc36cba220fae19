use Rattle.std.proofs.Common.{◌∙◌, sym}
use Rattle.ely_cache.specs.Tied.{IsAtEnd, entries_of}
use Rattle.ely_cache.proofs.Rests.{all_stay}
use Rattle.ely_cache.proofs.slots.drop_all.Goals as goal

pub returns-clause-entries : goal.returns-clause-entries
returns-clause-entries c =
    let end : IsAtEnd c.args.start.now.items (entries_of c.loop.slots.order.entries) (entries_of c.drop_one.new.slots.order.entries) = rw c.loop-test.false at c.drop_one.ensures.step in
    end.same ∙ sym (all_stay (entries_of c.loop.slots.order.entries) c.args.start.now.items end.none) ∙ c.loop.invariant.entries
