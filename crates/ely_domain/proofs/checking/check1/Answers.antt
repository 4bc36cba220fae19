use Rattle.std.proofs.Common.{sym, ap, ◌∙◌}
use Rattle.ely_domain.specs.Steps.{is_evidence_of}
use Rattle.ely_domain.proofs.Sounds.{shown_sound}
use Rattle.ely_domain.proofs.checking.check1.Goals as goal

pub returns-in-Ok-clause-sound : goal.returns-in-Ok-clause-sound
returns-in-Ok-clause-sound c = λ known.
    let login = c.args.context.now in
    shown_sound known login.serial login.mech login.nonce login.stage c.check1.new.self c.args.evidence
    (ap (λ m. is_evidence_of m c.args.evidence) (sym c.mech.ensures) ∙ sym c.is_evidence_of.ensures ∙ c.if-not-is_evidence_of.false)
    c.in-Ok.ensures.moved
