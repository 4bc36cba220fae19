use Rattle.std.proofs.Common.{◌≡◌, drop}
use Rattle.ely_config.specs.Realms.{first_reference}
use Rattle.ely_config.proofs.references.first_reference.Given as goal

-- the fault is the first of the references that are left
abbrev pub invariant-loop-at : goal.invariant-loop-at
invariant-loop-at l = first_reference l.all l.at (drop l.at l.names) ≡ first_reference l.all 0 l.names
