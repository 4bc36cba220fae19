use Rattle.ely_front.proofs.AnswerLemmas.{has_finished}
use Rattle.ely_front.proofs.replay.ReplayMode.finish.Goals as goal

pub returns-clause-finished : goal.returns-clause-finished
returns-clause-finished c = λ given lines said cost. has_finished given c.args.self.now lines said cost c.args._out.now.items
