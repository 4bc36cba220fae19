use Rattle.std.proofs.Common.{◌≡◌, true, false, [], sym, ap, subst}
use Rattle.ely_front.specs.declared.ending.Ending.TheVariants as ending
use Rattle.ely_front.specs.Moments.{Moment, at}
use Rattle.ely_front.specs.Loop.{IsUnderWay}
use Rattle.ely_front.specs.Ending.{EndsAs}
use Rattle.ely_front.proofs.FirstLemmas.{nothing_behind, unmade, under_way}
use Rattle.ely_front.proofs.call.run_script.Goals as goal

pub returns-in-Err-clause-ends : goal.returns-in-Err-clause-ends
returns-in-Err-clause-ends g c =
    subst (λ (m : Moment). EndsAs g.M.Mode.told g.M.Mode.at_end m (at (g.S.Source.seen c.read_first_line.new.source) (g.K.Sink.seen c.read_first_line.new.sink) c.args.steps.now) c.in-Err.ending) (sym c.requires.1.1.1.1) (c.in-Err.ensures.ended c.args.steps.now)

pub returns-in-Err-begin-clause-ends : goal.returns-in-Err-begin-clause-ends
returns-in-Err-begin-clause-ends g c =
    let same = ap g.K.Sink.seen c.in-Ok.ensures.unwritten in
    subst (λ (m : Moment). EndsAs g.M.Mode.told g.M.Mode.at_end m (at (g.S.Source.seen c.read_first_line.new.source) (g.K.Sink.seen c.read_first_line.new.sink) c.args.steps.now) ending.NoMemory) (sym c.requires.1.1.1.1)
    (unmade (g.S.Source.seen c.args.source.now) (g.S.Source.seen c.read_first_line.new.source) (g.K.Sink.seen c.args.sink.now) (g.K.Sink.seen c.read_first_line.new.sink) c.args.steps.now c.in-Ok.begun.reader c.in-Ok.begun.setup c.in-Ok.ensures.begun same g.M.Mode.told g.M.Mode.at_end)

pub returns-then-ended-clause-ends : goal.returns-then-ended-clause-ends
returns-then-ended-clause-ends g c =
    let same = ap g.K.Sink.seen c.in-Ok.ensures.unwritten in
    let ended : c.in-Ok.begun.reader.ended ≡ true = cc in
    let told = g.met.M.Mode.tells c.in-Ok.begun.setup c.in-Ok-begin.mode [] [] 0 c.in-Ok-begin.ensures in
    let closes = rw c.new.ensures.items at (c.end_lines.ensures.ends c.in-Ok.begun.setup [] [] 0 c.in-Ok-begin.ensures) in
    subst (λ (m : Moment). EndsAs g.M.Mode.told g.M.Mode.at_end m (at (g.S.Source.seen c.read_first_line.new.source) (g.K.Sink.seen c.end_lines.new.sink) c.args.steps.now) c.end_lines.result) (sym c.requires.1.1.1.1)
    (nothing_behind (g.S.Source.seen c.args.source.now) (g.S.Source.seen c.read_first_line.new.source) (g.K.Sink.seen c.args.sink.now) (g.K.Sink.seen c.read_first_line.new.sink) c.args.steps.now c.in-Ok.begun.reader c.in-Ok.begun.setup c.in-Ok.ensures.begun same
    g.M.Mode.told g.M.Mode.at_end g.met.M.Mode.in_order (g.K.Sink.seen c.end_lines.new.sink) c.end_lines.result ended told closes)

pub run_lines-ending-requires : goal.run_lines-ending-requires
run_lines-ending-requires g c κs within =
    let same = ap g.K.Sink.seen c.in-Ok.ensures.unwritten in
    let open_still : c.in-Ok.begun.reader.ended ≡ false = cc in
    let now = under_way (g.S.Source.seen c.args.source.now) (g.S.Source.seen c.read_first_line.new.source) (g.K.Sink.seen c.args.sink.now) (g.K.Sink.seen c.read_first_line.new.sink) c.args.steps.now c.in-Ok.begun.reader c.in-Ok.begun.setup c.in-Ok.ensures.begun same g.M.Mode.stands c.in-Ok-begin.mode open_still c.in-Ok-begin.ensures in (
      within.0,
      (
        within.1.0,
        (
          within.1.1.0,
          (
            within.1.1.1,
            subst (λ (m : Moment). IsUnderWay g.M.Mode.stands m (at (g.S.Source.seen c.read_first_line.new.source) (g.K.Sink.seen c.read_first_line.new.sink) c.args.steps.now) c.in-Ok.begun.reader c.in-Ok-begin.mode []) (sym c.requires.1.1.1.1) now,
          ),
        ),
      ),
    )
