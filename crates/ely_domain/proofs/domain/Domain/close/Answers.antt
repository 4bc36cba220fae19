use Rattle.std.proofs.Common.{◌≡◌, ap, refl, subst, ◌∙◌}
use Rattle.ely_context.specs.Logins.{without_login}
use Rattle.ely_domain.specs.Caches.{kept_in}
use Rattle.ely_domain.specs.Domains.{Seen}
use Rattle.ely_domain.specs.Keeping.{with_founds}
use Rattle.ely_domain.proofs.Founds.{founds_closed}
use Rattle.ely_domain.specs.Contexts.{read_of}
use Rattle.ely_domain.proofs.Moving.{closed_stays}
use Rattle.ely_domain.proofs.Openings.{closed_is}
use Rattle.ely_domain.proofs.domain.Domain.close.Goals as goal
use Rattle.ely_domain.proofs.domain.Domain.close.Goals.{then-close, else-close}

pub invariant_of-self : goal.invariant_of-self
invariant_of-self c =
    let kept = c.self.invariant in
    rw (c.close.ensures.closed, c.take.ensures.left)
    (kept.0, closed_stays (read_of c.self.inside.planned c.self.inside.tables) c.self.inside.logins c.self.inside.handouts c.args.id kept.1, kept.2)

pub returns-clause-ok : goal.returns-clause-ok
returns-clause-ok c =
    let is = closed_is c.self.inside.logins c.self.inside.nonces c.args.id c.self.inside.tables.journal c.self.inside.opened c.close.result in
    rw (← c.self.view_is, c.close.ensures.closed) (elim c.if-close.branch [
      | then-close w ↦ is c.if-close.result c.close.ensures.there (w.result-is ∙ rw w.if-close.true refl)
      | else-close w ↦ is c.if-close.result c.close.ensures.there (w.result-is ∙ rw w.if-close.false refl)
    ])

pub returns-clause-kept : goal.returns-clause-kept
returns-clause-kept c =
    subst (λ (s : Seen). kept_in c.self.inside.caches c.close.new.self ≡ with_founds s.kept (without_login s.kept.founds c.args.id)) c.self.view_is
    (rw c.close.ensures.closed (ap (with_founds (kept_in c.self.inside.caches c.self.inside.logins)) (founds_closed c.self.inside.logins c.args.id)))
