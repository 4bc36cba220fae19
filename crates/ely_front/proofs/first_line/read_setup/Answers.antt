use Rattle.std.proofs.Common.{refl}
use Rattle.ely_front.specs.FirstLine.{conf}
use Rattle.ely_front.proofs.first_line.read_setup.Goals as goal

pub returns-in-Ok : goal.returns-in-Ok
unfolding conf
returns-in-Ok c = rw (c.in-Ok.ensures, c.of.ensures) refl

pub returns-in-Err-Fault : goal.returns-in-Err-Fault
unfolding conf
returns-in-Err-Fault c = rw (rw c.in-Err-Fault.field-0-is at c.in-Err-Fault.ensures) refl
