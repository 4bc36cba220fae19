use Rattle.std.proofs.Common.{sym, refl, ◌∙◌}
use Rattle.ely_cache.specs.Resting.{get_by_bytes}
use Rattle.ely_cache.proofs.Drops.{rested}
use Rattle.ely_cache.proofs.Rests.{resting-none, resting-under}
use Rattle.ely_cache.proofs.slots.drop_one.Goals as goal

pub drop_slot-requires-clause-there : goal.drop_slot-requires-clause-there
drop_slot-requires-clause-there c =
    let s = c.args.slots.now in
    (rested s.order.cap (get_by_bytes s.index) s.free.items s.order.entries c.args.start.now.items c.in-Some.slot c.requires.tied.numbers (resting-under s c.args.start.now.items c.in-Some.slot c.requires.tied c.in-Some.ensures.some)).0

pub returns-in-None-clause-step : goal.returns-in-None-clause-step
returns-in-None-clause-step c =
    let s = c.args.slots.now in
    record { same = refl; none = resting-none s.order.entries c.args.start.now.items (λ place n begun. sym (c.requires.tied.rests place n) ∙ c.in-None.ensures.none place n begun) }

pub returns-in-Some-clause-step : goal.returns-in-Some-clause-step
returns-in-Some-clause-step c =
    let s = c.args.slots.now in
    rw c.drop_slot.ensures.order (rested s.order.cap (get_by_bytes s.index) s.free.items s.order.entries c.args.start.now.items c.in-Some.slot c.requires.tied.numbers (resting-under s c.args.start.now.items c.in-Some.slot c.requires.tied c.in-Some.ensures.some)).1
