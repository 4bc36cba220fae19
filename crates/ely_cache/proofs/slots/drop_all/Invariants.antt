use Rattle.std.proofs.Common.{◌≡◌, length}
use Rattle.ely_cache.specs.Tied.{IsTied, entries_of, not_resting_under}
use Rattle.ely_cache.proofs.slots.drop_all.Given as goal

-- what went rested on such a place
abbrev pub invariant-loop : goal.invariant-loop
invariant-loop l = record {
  tied : IsTied l.slots;
  cap : l.slots.order.cap ≡ l.fn.slots.order.cap;
  entries : not_resting_under l.start.items (entries_of l.slots.order.entries) ≡ not_resting_under l.start.items (entries_of l.fn.slots.order.entries);
}

abbrev pub decreases-loop : goal.decreases-loop
decreases-loop l = length (entries_of l.slots.order.entries)
