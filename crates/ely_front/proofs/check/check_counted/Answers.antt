use Rattle.ely_front.proofs.CheckLemmas.{runs_any, complete_any}
use Rattle.ely_front.proofs.check.check_counted.Goals as goal

pub returns-clause-history : goal.returns-clause-history
returns-clause-history g c = λ steps.
    runs_any (g.S.Source.seen c.args.source.now) (g.S.Source.seen c.run_mode.new.source) (g.K.Sink.seen c.args.sink.now) (g.K.Sink.seen c.run_mode.new.sink) _ c.run_mode.new.steps steps c.run_mode.result c.run_mode.ensures.history

pub returns-clause-causes : goal.returns-clause-causes
returns-clause-causes g c = λ steps. record { read = c.run_mode.ensures.causes.read; write = c.run_mode.ensures.causes.write }

pub returns-clause-complete : goal.returns-clause-complete
returns-clause-complete g c = λ steps.
    complete_any (g.S.Source.seen c.args.source.now) (g.S.Source.seen c.run_mode.new.source) (g.K.Sink.seen c.args.sink.now) (g.K.Sink.seen c.run_mode.new.sink) _ c.run_mode.new.steps steps c.run_mode.result c.run_mode.ensures.complete
