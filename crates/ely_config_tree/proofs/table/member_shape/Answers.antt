-- The shape of a member is below its object's.
use Rattle.std.proofs.Common.{◌<◌, IfSome, Option, sym, subst}
use Rattle.ely_config_tree.specs.declared.shape.Shape.{Shape}
use Rattle.ely_config_tree.specs.Ranks.{rank}
use Rattle.ely_config_tree.proofs.LowerRanks.{listed_low}
use Rattle.ely_config_tree.proofs.table.member_shape.Goals as goal

pub returns-clause-lower : goal.returns-clause-lower
returns-clause-lower c = subst (λ (o : Option Shape). IfSome o (λ found. rank found < rank c.args.shape)) (sym c.listed_shape.ensures) (listed_low c.args.shape c.args.word.now c.args.name.now c.requires)
