-- The loop over the names.
use Rattle.std.proofs.Common.{◌≡◌, drop, map}
use Rattle.serde_json.specs.View.{members_view}
use Rattle.ely_config_tree.specs.Tree.{missing_fault}
use Rattle.ely_config_tree.proofs.walk.missing_fault.Given as goal

-- of each name so far there is a member
abbrev pub invariant-loop-name : goal.invariant-loop-name
invariant-loop-name l = missing_fault (map (λ name. name.now) (drop l.name-index l.names)) (members_view l.members.entries)
    ≡ missing_fault (map (λ name. name.now) l.names) (members_view l.members.entries)
