use Rattle.std.proofs.Common.{◌∙◌}
use Rattle.ely_domain.proofs.Working.{not_some}
use Rattle.ely_domain.proofs.checking.judge_by.Goals as goal

pub returns-in-Some-clause-value : goal.returns-in-Some-clause-value
returns-in-Some-clause-value g c = λ fits. c.told.ensures ∙ c.in-Some.ensures.value fits

pub returns-in-None-clause-brought : goal.returns-in-None-clause-brought
returns-in-None-clause-brought g c = λ fits brought. not_some (c.in-None.ensures.brought fits brought)
