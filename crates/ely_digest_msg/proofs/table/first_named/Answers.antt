use Rattle.std.proofs.Common.{◌∙◌, rules, tests}
use Rattle.std.proofs.lemmas.Iterator.{YieldsList-from_slice}
use Rattle.std.proofs.lemmas.Iterator.Search.{find_from_yields_List}
use Rattle.ely_digest_msg.specs.Parts.{same_word}
use Rattle.ely_digest_msg.specs.Fields.{field_text}
use Rattle.ely_digest_msg.proofs.table.first_named.Goals as goal

pub returns : goal.returns
returns c = c.copied.ensures ∙ find_from_yields_List (λ field. same_word c.args.name.now (field_text field)) _ _ _ c.find.ensures.ran (YieldsList-from_slice c.args.fields.now cc) (λ x b q k. search (rules, tests))
