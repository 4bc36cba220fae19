use Rattle.ely_front.specs.Moments.{at}
use Rattle.ely_front.specs.Replayed.{IsTextOf, IsPaidTextOf}
use Rattle.ely_front.proofs.AnswerLemmas.{replayed}
use Rattle.ely_front.proofs.CompleteLemmas.{done_by}
use Rattle.ely_front.proofs.replay.replay_call.Goals as goal

pub returns-clause-replayed : goal.returns-clause-replayed
returns-clause-replayed g c = λ zero.
    let before = at (g.S.Source.seen c.args.source.now) (g.K.Sink.seen c.args.sink.now) c.args.steps.now in
    let after = at (g.S.Source.seen c.run_mode.new.source) (g.K.Sink.seen c.run_mode.new.sink) c.run_mode.new.steps in
    let done = done_by IsTextOf IsPaidTextOf before after c.run_mode.result c.run_mode.ensures.history zero in
    (done.0, done.1, replayed done.0 before after done.2)
