use Rattle.std.proofs.Common.{refl, ap, ◌∙◌}
use Rattle.ely_config_text.specs.Texts.{placed}
use Rattle.ely_config_text.proofs.reading.placed.Goals as goal

pub returns-in_ok-told-in-Err-Fault : goal.returns-in_ok-told-in-Err-Fault
returns-in_ok-told-in-Err-Fault c = ap (placed c.args.members) (rw c.in-Err-Fault.field-0-is at c.in-Err-Fault.ensures) ∙ rw (c.in_ok-told-in-Err-Fault.ensures, c.is_constant-constant.ensures) refl
