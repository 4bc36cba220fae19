use Rattle.std.proofs.Common.{rules, ◌∙◌, ℕ, List, bytes_eq}
use Rattle.std.specs.Prelude.{Option}
use Rattle.std.proofs.lemmas.Iterator.{YieldsList-from_slice, YieldsList-from_zip}
use Rattle.std.proofs.lemmas.Iterator.Search.{all_from_yields_List}
use Rattle.ely_pipeline.specs.declared.rule.Rule.{Rule}
use Rattle.ely_config.specs.declared.realm.RealmConfig.{RealmConfig}
use Rattle.ely_config.proofs.RealmNames.{by_pairs}
use Rattle.ely_config.proofs.bounds.knows.Goals as goal

pub returns-then-are_as_many : goal.returns-then-are_as_many
returns-then-are_as_many c =
    all_from_yields_List (λ (pair : (List ℕ × Option Rule) × RealmConfig). bytes_eq pair.0.0 pair.1.name) c.all.new.self _ _ c.all.ensures.ran
    (YieldsList-from_zip (YieldsList-from_slice c.args.pipe.now.realms cc) (YieldsList-from_slice c.args.realms.now cc))
    (λ x b q k. search rules)
    ∙ by_pairs _ _ c.args.pipe.now.realms c.args.realms.now (search rules)
