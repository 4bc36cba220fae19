use Rattle.ely_perm.proofs.Families.{implied, implies_all}
use Rattle.ely_perm.proofs.laws.families_are_by_their_front.Goals as goal

pub returns : goal.returns
returns c = record { only = implied; all = implies_all }
