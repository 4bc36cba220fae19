use Rattle.std.proofs.Common.{◌∙◌, sym}
use Rattle.ely_front.specs.Moments.{at}
use Rattle.ely_front.proofs.CompleteLemmas.{is_read, is_write, complete}
use Rattle.ely_front.proofs.call.run_mode.Goals as goal

pub returns-clause-causes : goal.returns-clause-causes
returns-clause-causes g c = record {
  read = λ h. c.run_script.ensures.read (is_read c.run_script.result (sym c.status.ensures ∙ h));
  write = λ h. c.run_script.ensures.write (is_write c.run_script.result (sym c.status.ensures ∙ h));
}

pub returns-clause-complete : goal.returns-clause-complete
returns-clause-complete g c =
    complete g.M.Mode.told g.M.Mode.at_end
    (at (g.S.Source.seen c.args.source.now) (g.K.Sink.seen c.args.sink.now) c.args.steps.now)
    (at (g.S.Source.seen c.run_script.new.source) (g.K.Sink.seen c.run_script.new.sink) c.run_script.new.steps)
    c.status.result (c.run_script.result, c.status.ensures, c.run_script.ensures.ends) (returns-clause-causes g c)
