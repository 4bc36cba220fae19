use Rattle.std.proofs.Common.{rules}
use Rattle.ely_pipeline.specs.declared.rule.Rule.{the_lemmas}
use Rattle.ely_pipeline.proofs.laws.rules_by_their_forms.Goals as goal

pub returns : goal.returns
returns c = record {
  constant = λ to name. search (rules, the_lemmas);
  prefix = λ text name. search (rules, the_lemmas);
  suffix = λ text name. search (rules, the_lemmas);
  strip_prefix = λ text name. search (rules, the_lemmas);
  strip_suffix = λ text name. search (rules, the_lemmas);
  before = λ text name. search (rules, the_lemmas);
  after = λ text name. search (rules, the_lemmas);
  mapped = λ pairs name. search (rules, the_lemmas);
  required = λ names name. search (rules, the_lemmas);
  chain = λ of name. search (rules, the_lemmas);
  first = λ of name. search (rules, the_lemmas);
}
