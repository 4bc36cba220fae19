use Rattle.std.proofs.Common.{◌-◌, ◌≤◌}
use Rattle.ely_io.specs.Reading.{most}
use Rattle.ely_front.specs.Moments.{at}
use Rattle.ely_front.specs.Loop.{IsUnderWay}
use Rattle.ely_front.proofs.lines.run_lines.Given as goal

abbrev pub invariant-loop-line : goal.invariant-loop-line
invariant-loop-line g l = record {
  under_way : IsUnderWay g.M.Mode.stands g.start (at (g.S.Source.seen l.source) (g.K.Sink.seen l.sink) l.steps) l.reader l.mode l.out.items;
  source : (g.S.Source.seen l.fn.source).faults ≤ (g.S.Source.seen l.source).faults;
  sink : (g.K.Sink.seen l.fn.sink).faults ≤ (g.K.Sink.seen l.sink).faults;
}

abbrev pub decreases-loop-line : goal.decreases-loop-line
decreases-loop-line g l = most - l.reader.given
