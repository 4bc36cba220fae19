use Rattle.std.proofs.Common.{rules}
use Rattle.std.proofs.lemmas.List.{length-map}
use Rattle.std.proofs.lemmas.List.Folds.{list_all-map}
use Rattle.ely_roles.specs.declared.mapper.RoleMapper.{the_lemmas}
use Rattle.ely_roles.proofs.laws.bounds_by_their_forms.Goals as goal

pub returns-clause-none : goal.returns-clause-none
returns-clause-none c = λ mapper. search (rules, the_lemmas)

pub returns-clause-constant : goal.returns-clause-constant
returns-clause-constant c = λ roles levels. search (rules, the_lemmas)

pub returns-clause-prefix : goal.returns-clause-prefix
returns-clause-prefix c = λ text levels. search (rules, the_lemmas)

pub returns-clause-suffix : goal.returns-clause-suffix
returns-clause-suffix c = λ text levels. search (rules, the_lemmas)

pub returns-clause-aggregate : goal.returns-clause-aggregate
returns-clause-aggregate c = λ of levels. search (rules, the_lemmas, length-map, list_all-map)

pub returns-clause-logical : goal.returns-clause-logical
returns-clause-logical c = λ op left right levels. search (rules, the_lemmas)

pub returns-clause-pairs : goal.returns-clause-pairs
returns-clause-pairs c = λ pairs keep_mapped keep_non_mapped levels. search (rules, the_lemmas)
