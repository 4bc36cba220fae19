use Rattle.ely_front.proofs.CheckLemmas.{has_totalled}
use Rattle.ely_front.proofs.check.CheckMode.finish.Goals as goal

pub returns-in-Ok-clause-finished : goal.returns-in-Ok-clause-finished
returns-in-Ok-clause-finished c = λ given lines said cost. has_totalled given c.args.self.now lines said cost c.args.out.now.items c.push_total.new.out.items c.in-Ok.ensures.ok
