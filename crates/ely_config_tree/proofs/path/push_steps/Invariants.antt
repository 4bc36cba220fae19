-- The loop over the steps.
use Rattle.std.proofs.Common.{◌≡◌, ◌++◌, ◌≤◌, drop, length}
use Rattle.ely_config_tree.specs.Paths.{steps_text}
use Rattle.ely_config_tree.proofs.path.push_steps.Given as goal

-- the steps from an index on are written
abbrev pub invariant-loop-at : goal.invariant-loop-at
invariant-loop-at l = record {
  within : l.at ≤ length l.steps;
  written : l.out.items ≡ l.initial.out.items ++ steps_text (drop l.at l.steps);
}

-- how many steps are left
abbrev pub decreases-loop-at : goal.decreases-loop-at
decreases-loop-at l = l.at
