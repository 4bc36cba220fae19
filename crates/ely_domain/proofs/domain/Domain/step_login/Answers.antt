use Rattle.std.proofs.Common.{◌≡◌, subst, IfOk}
use Rattle.ely_domain.specs.Caches.{kept_in}
use Rattle.ely_domain.specs.Domains.{Seen}
use Rattle.ely_domain.specs.Keeping.{kept_on, word_on}
use Rattle.ely_domain.specs.KeptKeys.{stands_for}
use Rattle.ely_domain.specs.Machine.{known}
use Rattle.ely_domain.proofs.domain.Domain.step_login.Goals as goal

pub returns-clause-word : goal.returns-clause-word
returns-clause-word g c =
    subst (λ (s : Seen). IfOk c.login_step.result (λ said. stands_for said.1
    ≡ word_on (known s.given s.machine) s.machine.live s.kept c.args.id c.args.event said.0)) c.self.view_is c.login_step.ensures.word

pub returns-clause-kept : goal.returns-clause-kept
returns-clause-kept g c =
    subst (λ (s : Seen). IfOk c.login_step.result (λ said. kept_in c.login_step.new.caches c.login_step.new.logins
    ≡ kept_on (known s.given s.machine) s.machine.live s.kept c.args.id c.args.event said.0 said.1)) c.self.view_is c.login_step.ensures.kept
