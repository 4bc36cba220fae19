-- The order of the members in the table.
use Rattle.ely_config_tree.proofs.NameOrder.{members_order}
use Rattle.ely_config_tree.proofs.laws.members_stand_in_order.Goals as goal

pub returns : goal.returns
returns c = members_order
