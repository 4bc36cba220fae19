use Rattle.std.proofs.Common.{rules}
use Rattle.std.proofs.lemmas.List.{length-map}
use Rattle.std.proofs.lemmas.List.Folds.{list_all-map}
use Rattle.ely_pipeline.specs.declared.rule.Rule.{the_lemmas}
use Rattle.ely_pipeline.proofs.laws.bounds_by_their_forms.Goals as goal

pub returns-clause-none : goal.returns-clause-none
returns-clause-none c = λ rule. search (rules, the_lemmas)

pub returns-clause-chain : goal.returns-clause-chain
returns-clause-chain c = λ of left. search (rules, the_lemmas, length-map, list_all-map)

pub returns-clause-first : goal.returns-clause-first
returns-clause-first c = λ of left. search (rules, the_lemmas, length-map, list_all-map)
