use Rattle.std.proofs.Common.{◌∙◌, ◌<◌, ◌-◌, ◌^◌, sym}
use Rattle.ely_history.specs.PartViews.{seen_part}
use Rattle.ely_history.specs.Parts.{parts_of}
use Rattle.ely_front.proofs.RunLemmas.{at_any_rate, no_part, no_event, breaks, ends, leads, not_false, part_here, room_next}
use Rattle.ely_front.proofs.line.run_into.Goals as goal

pub take_step-requires : goal.take_step-requires
take_step-requires g c =
    rw (part_here (parts_of c.args.line.now) c.loop-part.index (seen_part c.in-Some.part) c.in-Some.ensures) at c.loop-part.invariant.room

pub returns-clause-made : goal.returns-clause-made
returns-clause-made g c = no_part _ _ _ c.args.line.now _ _ _ _ _ c.loop-part.carried c.loop-part.index c.loop-part.invariant.leads_on c.in_default.ensures

pub returns-in_default-2-clause-made : goal.returns-in_default-2-clause-made
returns-in_default-2-clause-made g c =
    no_event _ _ _ c.args.line.now _ _ _ _ _ c.loop-part.carried c.loop-part.index c.loop-part.invariant.leads_on (seen_part c.in-Some.part) c.in-Some.ensures (sym c.in_ok-event.ensures ∙ c.in_default-2.is)

pub returns-in_err-went-clause-err : goal.returns-in_err-went-clause-err
returns-in_err-went-clause-err g c =
    at_any_rate c.from_residual-in_err-went.result _
    (breaks _ _ _ c.args.line.now _ _ _ _ _ c.loop-part.carried c.loop-part.index c.loop-part.invariant.leads_on (seen_part c.in-Some.part) c.in-Some.ensures c.in-Some-2.event (sym c.in_ok-event.ensures ∙ c.in-Some-2.is)
    c.take_step.new.domain.machine c.in_err-went.ensures.err)

pub returns-then-not-went-clause-made : goal.returns-then-not-went-clause-made
returns-then-not-went-clause-made g c =
    ends _ _ _ c.args.line.now _ _ _ _ _ c.loop-part.carried c.loop-part.index c.loop-part.invariant.leads_on (seen_part c.in-Some.part) c.in-Some.ensures c.in-Some-2.event (sym c.in_ok-event.ensures ∙ c.in-Some-2.is)
    c.take_step.new.domain c.take_step.new.entries.items c.take_step.new.steps c.in_ok-went.went.accepted c.in_ok-went.ensures.accepted c.if-not-went.true (rw c.actor_of-actor.ensures at c.in_ok-went.ensures.made)
    c.take_step.ensures.cost

pub loop-part-preserved : goal.loop-part-preserved
loop-part-preserved g c =
    let is = sym c.in_ok-event.ensures ∙ c.in-Some-2.is in
    let here = part_here (parts_of c.args.line.now) c.loop-part.index (seen_part c.in-Some.part) c.in-Some.ensures in
    let room : c.loop-part.domain.machine.opened < 2 ^ 64 - 1 = rw here at c.loop-part.invariant.room in
    record {
      leads_on = leads _ _ _ c.args.line.now _ _ _ _ _ c.loop-part.carried c.loop-part.index c.loop-part.invariant.leads_on (seen_part c.in-Some.part) c.in-Some.ensures c.in-Some-2.event is
          c.take_step.new.domain c.take_step.new.entries.items c.take_step.new.steps c.in_ok-went.went.carried c.take_step.ensures.given (sym c.in_ok-went.ensures.accepted ∙ not_false c.in_ok-went.went.accepted c.if-not-went.false)
          (rw c.actor_of-actor.ensures at c.in_ok-went.ensures.made) c.take_step.ensures.cost c.in_ok-went.ensures.carried;
      given = c.take_step.ensures.given ∙ c.loop-part.invariant.given;
      room = rw c.in_ok-went.ensures.made.machine (room_next c.loop-part.domain.given c.loop-part.domain.machine c.args.line.now c.loop-part.carried c.loop-part.index (seen_part c.in-Some.part) c.in-Some-2.event _ here is room);
    }
