use Rattle.std.proofs.Common.{◌∙◌, sym}
use Rattle.ely_digest_msg.proofs.HeaderLemmas.{named}
use Rattle.ely_digest_msg.proofs.quoted_name.QuotedName.read.Goals as goal

pub invariant_of-result : goal.invariant_of-result
invariant_of-result c = named c.args.text (sym c.is_name.ensures ∙ c.if-is_name.true)

pub returns-then-is_name-clause-name : goal.returns-then-is_name-clause-name
returns-then-is_name-clause-name c = named c.args.text (sym c.is_name.ensures ∙ c.if-is_name.true)
