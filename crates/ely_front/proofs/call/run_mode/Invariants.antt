use Rattle.ely_front.specs.Moments.{at}
use Rattle.ely_front.proofs.call.run_mode.Given as goal

abbrev pub ghost-run_script : goal.ghost-run_script
ghost-run_script g a = at (g.S.Source.seen a.source.now) (g.K.Sink.seen a.sink.now) a.steps.now
