use Rattle.std.proofs.Common.{◌≡◌, sym, ◌∙◌}
use Rattle.ely_base.specs.declared.refused.Refused.{Refused}
use Rattle.ely_base.specs.declared.refused.Refused.TheVariants.{Fault, NoMemory}
use Rattle.ely_io.specs.declared.line.LineFault.{LineFault}
use Rattle.ely_io.specs.declared.line.LineFault.TheVariants.{Read, Spent}
use Rattle.ely_front.specs.declared.ending.Ending.TheVariants as ending
use Rattle.ely_front.specs.Ending.{stop_ending, stop_text}
use Rattle.ely_front.proofs.EndingLemmas.{closes_behind}
use Rattle.ely_front.proofs.ending.stop.Goals as goal

-- the sink is not to blame where the reader refused
not_write : (refused : Refused LineFault) → stop_ending refused ≡ ending.Write → ⊥
not_write NoMemory h = absurd (cc)
not_write (Fault Read) h = absurd (cc)
not_write (Fault Spent) h = absurd (cc)

pub close-requires : goal.close-requires
close-requires g c = λ h. not_write c.args.refused (sym c.stop_ending.ensures ∙ h)

pub returns-clause-ends : goal.returns-clause-ends
returns-clause-ends g c =
    closes_behind (g.K.Sink.seen c.args.sink.now) (g.K.Sink.seen c.write_all.new.sink) (g.K.Sink.seen c.close.new.sink) c.args.out.now (stop_text c.args.refused) (stop_ending c.args.refused) c.close.result
    c.in_default.ensures.bytes (rw (c.stop_text.ensures, c.stop_ending.ensures) at c.close.ensures.ends)
