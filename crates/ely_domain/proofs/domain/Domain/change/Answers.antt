use Rattle.std.proofs.Common.{◌≡◌, ap, subst, ◌∙◌}
use Rattle.ely_login.specs.declared.outcome.Outcome.TheVariants as outcomes
use Rattle.ely_domain.specs.Caches.{founds_of, kept_in, lists_of}
use Rattle.ely_domain.specs.Contexts.{read_of}
use Rattle.ely_domain.specs.Domains.{Seen}
use Rattle.ely_domain.specs.Keeping.{Kept, kept_changed}
use Rattle.ely_domain.proofs.CacheLists.{current_stays, last_is, lists_dropped}
use Rattle.ely_domain.proofs.Growing.{sound_stays}
use Rattle.ely_domain.proofs.domain.Domain.change.Goals as goal

pub invariant_of-self-in-Err-NoMemory : goal.invariant_of-self-in-Err-NoMemory
invariant_of-self-in-Err-NoMemory c = rw c.in-Err-NoMemory.ensures.err c.self.invariant

pub invariant_of-self-in-Err-Fault : goal.invariant_of-self-in-Err-Fault
invariant_of-self-in-Err-Fault c = rw c.in-Err-Fault.ensures.err c.self.invariant

pub invariant_of-self : goal.invariant_of-self
invariant_of-self c =
    let known = read_of c.self.inside.planned c.self.inside.tables in
    let kept = c.self.invariant in
    let dropped = c.drop_last.ensures c.args.edit (rw c.in-Ok.ensures.after (last_is c.self.inside.tables.journal c.args.edit)) in
    rw (c.in-Ok.ensures.after, dropped) (
      kept.0,
      sound_stays known c.args.edit c.self.inside.logins c.self.inside.handouts kept.1,
      current_stays known c.args.edit c.self.inside.caches kept.2,
    )

pub returns-in-Ok-clause-kept : goal.returns-in-Ok-clause-kept
returns-in-Ok-clause-kept c =
    let known = read_of c.self.inside.planned c.self.inside.tables in
    let logins = c.self.inside.logins in
    let dropped = c.drop_last.ensures c.args.edit (rw c.in-Ok.ensures.after (last_is c.self.inside.tables.journal c.args.edit)) in
    subst (λ (s : Seen). kept_in c.drop_last.new.caches logins ≡ kept_changed s.given s.kept c.args.edit (outcomes.Changed c.in-Ok.version)) c.self.view_is
    (ap (λ lists. (let kept : Kept = record { lists = lists; founds = founds_of logins } in kept))
    (ap lists_of dropped ∙ lists_dropped known c.args.edit c.self.inside.caches c.self.invariant.2))
