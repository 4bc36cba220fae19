use Rattle.std.proofs.Common.{ap, ◌∙◌}
use Rattle.ely_context.specs.Logins.{without_login}
use Rattle.ely_context.proofs.LoginLemmas.{remove_entry-without_login}
use Rattle.ely_domain.proofs.handouts.Handouts.take.Goals as goal

pub returns-clause-left : goal.returns-clause-left
returns-clause-left c =
    c.remove.ensures.entries ∙ remove_entry-without_login c.self.inside.prepared.entries c.args.id c.self.invariant
    ∙ ap (λ entries. without_login entries c.args.id) c.self.view_is
