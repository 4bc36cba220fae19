use Rattle.std.proofs.Common.{sym, subst}
use Rattle.ely_scram_msg.specs.ClientLast.{last_parts}
use Rattle.ely_base.specs.Refused.{Reads}
use Rattle.ely_scram_msg.proofs.TextLemmas.{last_of_text}
use Rattle.ely_scram_msg.proofs.last.scan_client_last.Goals as goal

pub returns-in-Ok : goal.returns-in-Ok
returns-in-Ok c = subst (Reads last_parts c.read_last.result) (sym (last_of_text c.args.bytes.now c.in-Ok.ensures.cases.1)) c.read_last.ensures
