use Rattle.std.proofs.Common.{◌≡◌, true, false, arith, Ok}
use Rattle.ely_front.specs.Lines.{script_of}
use Rattle.ely_front.proofs.LoopLemmas.{stopped, out_of_memory}
use Rattle.ely_front.proofs.RunningLemmas.{has_room, rises, goes_on, is_done, broke}
use Rattle.ely_front.proofs.lines.run_lines.Goals as goal

pub answer_line-requires : goal.answer_line-requires
answer_line-requires g c = has_room g.M.Mode.stands _ _ _ _ _ c.loop-line.invariant.under_way

pub returns-in-Err-clause-ends : goal.returns-in-Err-clause-ends
returns-in-Err-clause-ends g c =
    let s = c.loop-line.invariant.under_way in
    stopped g.M.Mode.told g.M.Mode.at_end g.met.M.Mode.in_order g.start _ _ c.next.new.self s.given s.lines s.said _ (g.S.Source.seen c.next.new.source) (g.K.Sink.seen c.stop.new.sink) c.in-Err.refused c.stop.result s.has_read
    (g.met.M.Mode.tells s.given _ (script_of s.lines) s.said s.cost s.stood) (c.in-Err.ensures.line s.has_read.mark) c.in-Err.ensures.counts (rw c.deref.ensures.value at c.stop.ensures.ends)

pub returns-in-Err-answer_line-clause-ends : goal.returns-in-Err-answer_line-clause-ends
returns-in-Err-answer_line-clause-ends g c =
    let s = c.loop-line.invariant.under_way in
    let closes = rw (c.deref-in-Err-answer_line.ensures.value, c.in-Err-answer_line.ensures.kept) at c.stop-in-Err-answer_line.ensures.ends in
    out_of_memory g.M.Mode.told g.M.Mode.at_end g.met.M.Mode.in_order g.start _ _ c.next.new.self s.given s.lines s.said _ (g.S.Source.seen c.next.new.source) (Ok c.in-Ok.line) s.has_read
    (g.met.M.Mode.tells s.given _ (script_of s.lines) s.said s.cost s.stood) (c.in-Ok.ensures.line s.has_read.mark) c.in-Ok.ensures.counts (g.K.Sink.seen c.stop-in-Err-answer_line.new.sink) c.answer_line.new.steps c.stop-in-Err-answer_line.result closes

pub returns-then-ended-clause-ends : goal.returns-then-ended-clause-ends
returns-then-ended-clause-ends g c =
    let s = c.loop-line.invariant.under_way in
    let ended : c.next.new.self.ended ≡ true = cc in
    let a = c.in_default.ensures.answered s.given (script_of s.lines) s.said s.cost s.stood in
    is_done g.M.Mode.stands g.M.Mode.told g.M.Mode.at_end g.met.M.Mode.in_order g.met.M.Mode.tells g.start _ _ c.next.new.self _ c.answer_line.new.mode _ c.answer_line.new.out.items (g.S.Source.seen c.next.new.source) c.in-Ok.line c.answer_line.new.steps s
    (c.in-Ok.ensures.line s.has_read.mark) c.in-Ok.ensures.counts a (g.K.Sink.seen c.end_lines.new.sink) c.end_lines.result ended (c.end_lines.ensures.ends s.given _ _ _ a.is)

pub returns-in-Err-write_on-clause-ends : goal.returns-in-Err-write_on-clause-ends
returns-in-Err-write_on-clause-ends g c =
    let s = c.loop-line.invariant.under_way in
    let open_still : c.next.new.self.ended ≡ false = cc in
    let a = c.in_default.ensures.answered s.given (script_of s.lines) s.said s.cost s.stood in
    broke g.M.Mode.stands g.M.Mode.told g.M.Mode.at_end g.met.M.Mode.in_order g.met.M.Mode.tells g.start _ _ c.next.new.self _ c.answer_line.new.mode _ c.answer_line.new.out.items (g.S.Source.seen c.next.new.source) c.in-Ok.line c.answer_line.new.steps s
    (c.in-Ok.ensures.line s.has_read.mark) c.in-Ok.ensures.counts a (g.K.Sink.seen c.write_on.new.sink) open_still c.in-Err-write_on.ensures.bytes

pub loop-line-smaller : goal.loop-line-smaller
loop-line-smaller g c =
    let s = c.loop-line.invariant.under_way in
    let open_still : c.next.new.self.ended ≡ false = cc in
    let a = c.in_default.ensures.answered s.given (script_of s.lines) s.said s.cost s.stood in
    let more = rises g.M.Mode.stands g.M.Mode.told g.M.Mode.at_end g.met.M.Mode.in_order g.met.M.Mode.tells g.start _ _ c.next.new.self _ c.answer_line.new.mode _ c.answer_line.new.out.items (g.S.Source.seen c.next.new.source) c.in-Ok.line c.answer_line.new.steps s
    (c.in-Ok.ensures.line s.has_read.mark) c.in-Ok.ensures.counts a open_still in
    let on = goes_on g.M.Mode.stands g.M.Mode.told g.M.Mode.at_end g.met.M.Mode.in_order g.met.M.Mode.tells g.start _ _ c.next.new.self _ c.answer_line.new.mode _ c.answer_line.new.out.items (g.S.Source.seen c.next.new.source) c.in-Ok.line c.answer_line.new.steps s
    (c.in-Ok.ensures.line s.has_read.mark) c.in-Ok.ensures.counts a (g.K.Sink.seen c.write_on.new.sink) c.write_on.new.out.items c.has_line.result open_still c.in_default-write_on.ensures.bytes in
    rw c.hand_back.ensures (omega (arith, more, on.has_read.counts.0, on.has_read.counts.1 on.has_read.mark))

pub loop-line-preserved : goal.loop-line-preserved
loop-line-preserved g c =
    let s = c.loop-line.invariant.under_way in
    let open_still : c.next.new.self.ended ≡ false = cc in
    let a = c.in_default.ensures.answered s.given (script_of s.lines) s.said s.cost s.stood in
    record {
      under_way = rw c.hand_back.ensures (goes_on g.M.Mode.stands g.M.Mode.told g.M.Mode.at_end g.met.M.Mode.in_order g.met.M.Mode.tells g.start _ _ c.next.new.self _ c.answer_line.new.mode _ c.answer_line.new.out.items (g.S.Source.seen c.next.new.source) c.in-Ok.line c.answer_line.new.steps s
          (c.in-Ok.ensures.line s.has_read.mark) c.in-Ok.ensures.counts a (g.K.Sink.seen c.write_on.new.sink) c.write_on.new.out.items c.has_line.result open_still c.in_default-write_on.ensures.bytes);
      source = omega (arith, c.loop-line.invariant.source, c.in-Ok.ensures.later);
      sink = omega (arith, c.loop-line.invariant.sink, c.write_on.ensures.cause.later);
    }
