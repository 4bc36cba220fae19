use Rattle.std.proofs.Common.{ap, sym, ◌∙◌, not}
use Rattle.std.specs.Prelude.{position}
use Rattle.ely_config.specs.Realms.{is_named}
use Rattle.ely_config.specs.Configs.{missing_realm}
use Rattle.ely_config.proofs.bounds.missing_realm.Goals as goal

pub returns-in-MapAfter : goal.returns-in-MapAfter
returns-in-MapAfter c =
    c.missing_pair.ensures
    ∙ ap (position (λ pair. not (is_named c.args.realms.now pair.1))) c.all.ensures
    ∙ ap (missing_realm c.args.realms.now) (sym c.in-MapAfter.is)
