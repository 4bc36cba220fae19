use Rattle.ely_front.specs.Moments.{at}
use Rattle.ely_front.specs.Check.{TellsBad, TellsTotal}
use Rattle.ely_front.proofs.CheckLemmas.{checked}
use Rattle.ely_front.proofs.CompleteLemmas.{done_by}
use Rattle.ely_front.proofs.check.check_call.Goals as goal

pub returns-clause-checked : goal.returns-clause-checked
returns-clause-checked g c = λ steps zero.
    let before = at (g.S.Source.seen c.args.source.now) (g.K.Sink.seen c.args.sink.now) steps in
    let after = at (g.S.Source.seen c.check_counted.new.source) (g.K.Sink.seen c.check_counted.new.sink) steps in
    let done = done_by TellsBad TellsTotal before after c.check_counted.result (c.check_counted.ensures.history steps) zero in
    (done.0, done.1, checked done.0 before after done.2)
