use Rattle.std.proofs.Common.{ap, ◌∙◌}
use Rattle.ely_row.specs.Sets.{is_among}
use Rattle.ely_row.proofs.Searches.{found}
use Rattle.ely_row.proofs.roles.Roles.has.Goals as goal

pub returns : goal.returns
returns c =
    c.is_ok.ensures.value
    ∙ found c.all.result.now c.all.ensures.set c.args.name.now c.binary_search.result c.binary_search.ensures.bound c.binary_search.ensures.position
    ∙ ap (λ names. is_among names c.args.name.now) c.all.ensures.value
