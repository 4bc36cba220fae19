use Rattle.std.proofs.Common.{codes}
use Rattle.std.specs.Fmt.{decimal}
use Rattle.ely_base.specs.Words.{word_text}
use Rattle.ely_script.specs.OutcomeTexts.{roles_text}
use Rattle.ely_script.proofs.Joins.{established_joined}
use Rattle.ely_script.proofs.print_outcome.push_established.Goals as goal

pub returns-clause-ok : goal.returns-clause-ok
returns-clause-ok c =
    rw (c.in_ok-push_roles.ensures.ok, c.in_ok-push_text.ensures.ok, c.in_ok-push_worded-2.ensures.ok, c.in_ok-push_worded.ensures.ok, c.in_ok-push_counted.ensures.ok, c.bytes.ensures.value, c.bytes-2.ensures.value)
    (established_joined c.args.out.now.items (codes "established ") (decimal c.args.version) (word_text c.args.place.now.realm) (word_text c.args.place.now.name) (codes " roles=") (roles_text c.args.roles.now) (codes " "))
