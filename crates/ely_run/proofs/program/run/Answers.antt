use Rattle.std.proofs.Common.{◌≡◌, ◌∙◌, sym, subst}
use Rattle.ely_words.specs.declared.asked.Asked.{Asked}
use Rattle.ely_words.specs.declared.asked.Asked.TheVariants as modes
use Rattle.ely_front.specs.Moments.{at}
use Rattle.ely_run.specs.Run.{Does, DoesWhole}
use Rattle.ely_run.proofs.RunLemmas.{same_asked, nothing_done, out_of_memory}
use Rattle.ely_run.proofs.program.run.Goals as goal

pub returns-in-Ok-Replay-clause-history : goal.returns-in-Ok-Replay-clause-history
returns-in-Ok-Replay-clause-history g c = λ asked is.
    let same : modes.Replay ≡ asked = sym c.in-Ok-Replay.field-0-is ∙ same_asked _ c.in-Ok-Replay.field-0 asked c.in-Ok-Replay.ensures is in
    subst (λ (a : Asked). Does a (at (g.S.Source.seen c.args.source.now) (g.K.Sink.seen c.args.sink.now) c.args.steps.now) (at (g.S.Source.seen c.replay_call.new.source) (g.K.Sink.seen c.replay_call.new.sink) c.replay_call.new.steps) c.replay_call.result) same
    c.replay_call.ensures.history

pub returns-in-Ok-Replay-clause-complete : goal.returns-in-Ok-Replay-clause-complete
returns-in-Ok-Replay-clause-complete g c = λ asked is.
    let same : modes.Replay ≡ asked = sym c.in-Ok-Replay.field-0-is ∙ same_asked _ c.in-Ok-Replay.field-0 asked c.in-Ok-Replay.ensures is in
    subst (λ (a : Asked). DoesWhole a (at (g.S.Source.seen c.args.source.now) (g.K.Sink.seen c.args.sink.now) c.args.steps.now) (at (g.S.Source.seen c.replay_call.new.source) (g.K.Sink.seen c.replay_call.new.sink) c.replay_call.new.steps) c.replay_call.result) same
    c.replay_call.ensures.complete

pub returns-in-Ok-Check-clause-history : goal.returns-in-Ok-Check-clause-history
returns-in-Ok-Check-clause-history g c = λ asked is.
    let same : modes.Check ≡ asked = sym c.in-Ok-Check.field-0-is ∙ same_asked _ c.in-Ok-Check.field-0 asked c.in-Ok-Check.ensures is in
    subst (λ (a : Asked). Does a (at (g.S.Source.seen c.args.source.now) (g.K.Sink.seen c.args.sink.now) c.args.steps.now) (at (g.S.Source.seen c.check_call.new.source) (g.K.Sink.seen c.check_call.new.sink) c.args.steps.now) c.check_call.result) same
    (c.check_call.ensures.history c.args.steps.now)

pub returns-in-Ok-Check-clause-complete : goal.returns-in-Ok-Check-clause-complete
returns-in-Ok-Check-clause-complete g c = λ asked is.
    let same : modes.Check ≡ asked = sym c.in-Ok-Check.field-0-is ∙ same_asked _ c.in-Ok-Check.field-0 asked c.in-Ok-Check.ensures is in
    subst (λ (a : Asked). DoesWhole a (at (g.S.Source.seen c.args.source.now) (g.K.Sink.seen c.args.sink.now) c.args.steps.now) (at (g.S.Source.seen c.check_call.new.source) (g.K.Sink.seen c.check_call.new.sink) c.args.steps.now) c.check_call.result) same
    (c.check_call.ensures.complete c.args.steps.now)

pub returns-in-Err-NoMemory-clause-history : goal.returns-in-Err-NoMemory-clause-history
returns-in-Err-NoMemory-clause-history g c = λ asked is.
    nothing_done asked (at (g.S.Source.seen c.args.source.now) (g.K.Sink.seen c.args.sink.now) c.args.steps.now) c.status.result c.status.ensures

pub returns-in-Err-NoMemory-clause-complete : goal.returns-in-Err-NoMemory-clause-complete
returns-in-Err-NoMemory-clause-complete g c = λ asked is.
    out_of_memory asked (at (g.S.Source.seen c.args.source.now) (g.K.Sink.seen c.args.sink.now) c.args.steps.now) c.status.result c.status.ensures

pub returns-in-Err-Fault-clause-no_command : goal.returns-in-Err-Fault-clause-no_command
returns-in-Err-Fault-clause-no_command g c = λ none. c.refuse_words.ensures.written (g.S.Source.seen c.args.source.now) c.args.steps.now
