use Rattle.ely_perm.proofs.Families.{implies_itself}
use Rattle.ely_perm.proofs.laws.grants_otherwise.Goals as goal

pub returns-clause-itself : goal.returns-clause-itself
returns-clause-itself c = implies_itself
