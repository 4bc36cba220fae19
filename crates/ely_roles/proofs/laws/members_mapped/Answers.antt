use Rattle.ely_roles.proofs.Members.{members_mapped, members_given}
use Rattle.ely_roles.proofs.laws.members_mapped.Goals as goal

pub returns : goal.returns
returns c = record { set = members_mapped; role = members_given }
