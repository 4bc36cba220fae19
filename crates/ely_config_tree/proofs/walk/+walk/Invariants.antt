-- The walk ends, since each shape inside another has a lower rank.
use Rattle.std.proofs.Common.{◌≡◌, ◌+◌, ◌*◌, ◌≤◌, drop, max}
use Rattle.serde_json.specs.View.{items_view, members_view}
use Rattle.ely_config_tree.specs.Ranks.{rank}
use Rattle.ely_config_tree.specs.Tree.{items_fault, members_fault}
use Rattle.ely_config_tree.proofs.walk.+walk.Given as goal

-- a step of the walk is below its caller's
abbrev pub decreases-fault : goal.decreases-fault
decreases-fault l = 4 * rank l.shape + 3

abbrev pub decreases-list_fault : goal.decreases-list_fault
decreases-list_fault l = 4 * max (rank l.list.first) (rank l.list.later) + 5

abbrev pub decreases-items_fault : goal.decreases-items_fault
decreases-items_fault l = 4 * max (rank l.first) (rank l.later) + 4

abbrev pub decreases-object_fault : goal.decreases-object_fault
decreases-object_fault l = 4 * rank l.shape + 2

abbrev pub decreases-members_fault : goal.decreases-members_fault
decreases-members_fault l = 4 * rank l.shape + 1

abbrev pub decreases-member_fault : goal.decreases-member_fault
decreases-member_fault l = 4 * rank l.shape

-- no item so far has a fault
abbrev pub invariant-items_fault-loop-item : goal.invariant-items_fault-loop-item
invariant-items_fault-loop-item l = record {
  at : l.index ≡ l.item-index;
  left : items_fault l.shape l.later l.index (items_view (drop l.item-index l.items)) ≡ items_fault l.fn.first l.later 0 (items_view l.items);
  low : rank l.shape ≤ max (rank l.fn.first) (rank l.later);
}

-- no member so far has a fault
abbrev pub invariant-members_fault-loop-key : goal.invariant-members_fault-loop-key
invariant-members_fault-loop-key l = members_fault l.shape l.word (members_view l.key-iterator) ≡ members_fault l.shape l.word (members_view l.members.entries)
