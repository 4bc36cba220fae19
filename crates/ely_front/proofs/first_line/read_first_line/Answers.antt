use Rattle.std.proofs.Common.{◌≡◌, None, ap, ⊎_elim}
use Rattle.ely_io.specs.Reading.{Reader}
use Rattle.ely_front.specs.declared.ending.Ending.TheVariants as ending
use Rattle.ely_front.proofs.FirstLemmas.{begins, stopped_first, refused_first, unwritten_first}
use Rattle.ely_front.proofs.first_line.read_first_line.Goals as goal

pub returns-in-Err-next-clause-ended : goal.returns-in-Err-next-clause-ended
returns-in-Err-next-clause-ended g c =
    let none : c.in-Ok.reader.mark ≡ None = ap (λ (r : Reader). r.mark) c.in-Ok.ensures in
    λ steps. stopped_first g.M.Mode.told g.M.Mode.at_end (g.S.Source.seen c.args.source.now) (g.S.Source.seen c.next.new.source) (g.K.Sink.seen c.args.sink.now) (g.K.Sink.seen c.stop.new.sink) steps c.in-Ok.reader c.next.new.self c.in-Err-next.refused c.stop.result
    c.in-Ok.ensures (c.in-Err-next.ensures.line none) c.in-Err-next.ensures.counts c.stop.ensures.ends

pub returns-in-Err-Fault-clause-ended : goal.returns-in-Err-Fault-clause-ended
returns-in-Err-Fault-clause-ended g c =
    let none : c.in-Ok.reader.mark ≡ None = ap (λ (r : Reader). r.mark) c.in-Ok.ensures in
    λ steps. ⊎_elim
    (λ (h : (c.refuse_first.result ≡ ending.NoMemory) × (g.K.Sink.seen c.refuse_first.new.sink ≡ g.K.Sink.seen c.args.sink.now)).
    rw (h.0, h.1) (unwritten_first g.M.Mode.told g.M.Mode.at_end (g.S.Source.seen c.args.source.now) (g.S.Source.seen c.next.new.source) (g.K.Sink.seen c.args.sink.now) steps c.in-Ok.reader c.next.new.self c.in-Ok-next.line c.in-Ok.ensures (c.in-Ok-next.ensures.line none)
    c.in-Ok-next.ensures.counts))
    (refused_first g.M.Mode.told g.M.Mode.at_end (g.S.Source.seen c.args.source.now) (g.S.Source.seen c.next.new.source) (g.K.Sink.seen c.args.sink.now) (g.K.Sink.seen c.refuse_first.new.sink) steps c.in-Ok.reader c.next.new.self c.in-Ok-next.line c.in-Err-Fault.fault c.refuse_first.result
    c.in-Ok.ensures (c.in-Ok-next.ensures.line none) c.in-Ok-next.ensures.counts (rw c.in-Err-Fault.field-0-is at c.in-Err-Fault.ensures))
    c.refuse_first.ensures.ends

pub returns-in-Ok-judge_first-clause-begun : goal.returns-in-Ok-judge_first-clause-begun
returns-in-Ok-judge_first-clause-begun g c =
    let none : c.in-Ok.reader.mark ≡ None = ap (λ (r : Reader). r.mark) c.in-Ok.ensures in
    begins (g.S.Source.seen c.args.source.now) (g.S.Source.seen c.next.new.source) c.in-Ok.reader c.next.new.self c.in-Ok-next.line c.in-Ok-judge_first.setup c.in-Ok.ensures (c.in-Ok-next.ensures.line none) c.in-Ok-next.ensures.counts
    c.in-Ok-judge_first.ensures
