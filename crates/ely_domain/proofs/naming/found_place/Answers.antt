use Rattle.std.proofs.Common.{sym, ◌∙◌}
use Rattle.ely_domain.specs.Contexts.{read_of}
use Rattle.ely_domain.proofs.Finding.{naming_lost, naming_found, naming_refused}
use Rattle.ely_domain.proofs.naming.found_place.Goals as goal

pub returns-in-Err-Fault : goal.returns-in-Err-Fault
returns-in-Err-Fault c =
    let known = read_of c.args.planned.now c.args.tables.now in
    let lost = naming_lost known c.args.mech c.args.claim.now c.in-Err-Fault.field-0 c.in-Err-Fault.fault
    (sym c.is_claim_of.ensures ∙ c.if-not-is_claim_of.false) (sym c.is_other.ensures ∙ c.if-is_other.false) c.in-Err-Fault.field-0-is
    (rw (c.pipeline.ensures, c.config.ensures, c.claimed_name.ensures) at c.in-Err-Fault.ensures) in
    rw c.in-Err-Fault.field-0-is lost

pub returns-in-Ok-2 : goal.returns-in-Ok-2
returns-in-Ok-2 c =
    let known = read_of c.args.planned.now c.args.tables.now in
    naming_found known c.args.mech c.args.claim.now c.in-Ok.place (sym c.is_claim_of.ensures ∙ c.if-not-is_claim_of.false) (sym c.is_other.ensures ∙ c.if-is_other.false)
    (rw (c.pipeline.ensures, c.config.ensures, c.claimed_name.ensures) at c.in-Ok.ensures) c.in-Ok-2.row (sym c.in_ok-row.ensures ∙ c.in-Ok-2.is)

pub returns-in-Err : goal.returns-in-Err
returns-in-Err c =
    let known = read_of c.args.planned.now c.args.tables.now in
    naming_refused known c.args.mech c.args.claim.now c.in-Ok.place (sym c.is_claim_of.ensures ∙ c.if-not-is_claim_of.false) (sym c.is_other.ensures ∙ c.if-is_other.false)
    (rw (c.pipeline.ensures, c.config.ensures, c.claimed_name.ensures) at c.in-Ok.ensures) c.in-Err.refusal (sym c.in_ok-row.ensures ∙ c.in-Err.is)
