use Rattle.ely_base.proofs.NameLemmas.{no_fault}
use Rattle.ely_base.proofs.name.Name.read_list.Goals as goal

pub invariant_of-result : goal.invariant_of-result
invariant_of-result c = no_fault c.args.list.items (cc)
