use Rattle.std.proofs.Common.{◌∙◌}
use Rattle.ely_context.proofs.LoginLemmas.{remove_entry-without_login}
use Rattle.ely_context.proofs.logins.remove.Goals as goal

pub returns-clause-removed : goal.returns-clause-removed
returns-clause-removed g c = c.remove.ensures.entries ∙ remove_entry-without_login c.args.logins.now.entries c.args.id c.requires
