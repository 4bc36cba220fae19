-- Faults with their places, and which of two counts.
use Rattle.std.specs.Prelude.{List, [], ◌∷◌, ◌++◌, Option, Some, None}
use Rattle.ely_config_tree.specs.declared.step.Step.{Step}
use Rattle.ely_config_tree.specs.declared.step.FaultKind.{FaultKind}

-- a kind, and the steps from the faulty value up to the root
pub record Fault : Type 0 where
  pub steps : List Step
  pub kind : FaultKind

-- a fault of the value itself
abbrev pub here : FaultKind → Fault
here kind = record { steps = []; kind = kind }

-- a fault as it is seen from one level higher
abbrev pub under : Step → Fault → Fault
under step f = record { steps = f.steps ++ step ∷ []; kind = f.kind }

-- the first fault, or else the second
abbrev pub or_else : Option Fault → Option Fault → Option Fault
or_else None next = next
or_else (Some f) next = Some f
