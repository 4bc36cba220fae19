use Rattle.std.proofs.Common.{rules, arith}
use Rattle.std.proofs.lemmas.Grind.{common_steps}
use Rattle.ely_base.proofs.HexTexts.{hex_read, hex_bad}
use Rattle.ely_base.proofs.texts.read_hex.Goals as goal

pub returns-in-Ok-clause-ok : goal.returns-in-Ok-clause-ok
returns-in-Ok-clause-ok c = hex_read c.args.text.now _ c.in-Ok.ensures.ok

pub returns-in-Err-clause-bad : goal.returns-in-Err-clause-bad
returns-in-Err-clause-bad c = λ is. hex_bad c.args.text.now (first_of (search rules, grind (arith, common_steps)))
