use Rattle.std.proofs.Common.{◌≡◌, ◌+◌, sym, refl, ap, subst, ◌∙◌}
use Rattle.ely_login.specs.declared.outcome.Outcome.TheVariants as outcomes
use Rattle.ely_domain.specs.Contexts.{read_of, seen_live}
use Rattle.ely_domain.specs.Domains.{Seen}
use Rattle.ely_domain.specs.Given.{Given}
use Rattle.ely_domain.specs.Machine.{Stepped, alg_of, challenge, opening_fault, begin}
use Rattle.ely_context.specs.Logins.{with_login}
use Rattle.ely_login.specs.declared.word.CacheWord.TheVariants as words
use Rattle.ely_domain.specs.Caches.{kept_in}
use Rattle.ely_domain.specs.Keeping.{kept_opened, with_founds}
use Rattle.ely_domain.proofs.Founds.{founds_moved}
use Rattle.ely_domain.proofs.Moving.{moved_stays}
use Rattle.ely_domain.proofs.Openings.{none_there, unused, begun}
use Rattle.ely_domain.proofs.domain.Domain.begin.Goals as goal

pub open-requires-clause-absent : goal.open-requires-clause-absent
open-requires-clause-absent c =
    let logins = c.self.inside.logins in
    let nonces = c.self.inside.nonces in
    let nonce = c.in_ok-nonce.nonce in
    none_there logins nonces c.args.id nonce (alg_of c.args.mech)
    (ap (λ a. opening_fault (seen_live logins nonces) c.args.id nonce a) (sym c.alg_of-alg.ensures) ∙ sym c.opening_fault.ensures ∙ c.in_default.is)

pub open-requires-clause-unused : goal.open-requires-clause-unused
open-requires-clause-unused c =
    let logins = c.self.inside.logins in
    let nonces = c.self.inside.nonces in
    let nonce = c.in_ok-nonce.nonce in
    unused logins nonces c.args.id nonce (alg_of c.args.mech)
    (ap (λ a. opening_fault (seen_live logins nonces) c.args.id nonce a) (sym c.alg_of-alg.ensures) ∙ sym c.opening_fault.ensures ∙ c.in_default.is)

pub invariant_of-self : goal.invariant_of-self
invariant_of-self c = rw c.in_err-open.ensures.err.0 c.self.invariant

pub invariant_of-self-2 : goal.invariant_of-self-2
invariant_of-self-2 c =
    let kept = c.self.invariant in
    rw c.in_ok-open.ensures.opened
    (kept.0, moved_stays (read_of c.self.inside.planned c.self.inside.tables) c.self.inside.logins c.self.inside.handouts c.self.inside.handouts c.args.id _ kept.1 (λ other apart. refl) (tt, tt), kept.2)

pub returns-clause-ok : goal.returns-clause-ok
returns-clause-ok c =
    let given : Given = record { config = c.self.inside.planned; limit = c.self.inside.tables.limit } in
    let logins = c.self.inside.logins in
    let nonces = c.self.inside.nonces in
    let nonce = c.in_ok-nonce.nonce in
    let none = ap (λ a. opening_fault (seen_live logins nonces) c.args.id nonce a) (sym c.alg_of-alg.ensures) ∙ sym c.opening_fault.ensures ∙ c.in_default.is in
    let text = rw c.config-config.ensures at (c.in_ok-challenge.ensures given.limit) ∙ ap (λ a. challenge given nonce a) c.alg_of-alg.ensures in
    let opens = begun logins nonces c.args.id given c.self.inside.tables.journal c.self.inside.opened c.args.mech c.args.brought nonce
    c.in_ok-challenge.challenge c.open.new.logins c.open.new.nonces (rw c.config-config.ensures at (c.in_ok-nonce.ensures given.limit)) none text
    c.in_ok-open.ensures.opened c.in_ok-open.ensures.issued in
    subst (λ (s : Seen). ◌≡◌ {A = Stepped} (
      outcomes.Opened (c.self.inside.opened + 1) c.in_ok-challenge.challenge,
      record {
        edits = c.self.inside.tables.journal;
        live = seen_live c.open.new.logins c.open.new.nonces;
        opened = c.self.inside.opened + 1;
      },
    ) (begin s.given s.machine c.args.id c.args.mech c.args.brought)) c.self.view_is opens

pub returns-clause-kept : goal.returns-clause-kept
returns-clause-kept c =
    subst (λ (s : Seen). kept_in c.self.inside.caches c.open.new.logins
    ≡ kept_opened s.kept (with_login s.kept.founds c.args.id words.None) (outcomes.Opened (c.self.inside.opened + 1) c.in_ok-challenge.challenge)) c.self.view_is
    (rw c.in_ok-open.ensures.opened (ap (with_founds (kept_in c.self.inside.caches c.self.inside.logins)) (founds_moved c.self.inside.logins c.args.id _)))
