use Rattle.std.proofs.Common.{◌≡◌}
use Rattle.std.specs.Prelude.{find}
use Rattle.ely_cred.specs.Keys.{serves, chosen}
use Rattle.ely_cred.proofs.choosing.chosen_entry.Given as goal

-- what is chosen stands among what is left
abbrev pub invariant-loop-slot : goal.invariant-loop-slot
invariant-loop-slot l = find (λ p. serves l.mech p.1) l.slot-iterator ≡ chosen l.mech l.row
