use Rattle.std.proofs.Common.{sym, subst}
use Rattle.ely_scram_msg.specs.ClientFirst.{first_parts}
use Rattle.ely_base.specs.Refused.{Reads}
use Rattle.ely_scram_msg.proofs.TextLemmas.{first_of_text}
use Rattle.ely_scram_msg.proofs.first.scan_client_first.Goals as goal

pub returns-in-Ok : goal.returns-in-Ok
returns-in-Ok c = subst (Reads first_parts c.read_first.result) (sym (first_of_text c.args.bytes.now c.in-Ok.ensures.cases.1)) c.read_first.ensures
