use Rattle.std.proofs.Common.{◌≡◌, ◌∷◌, [], false, sym, subst}
use Rattle.std.specs.Map.Iter.{deref_pair}
use Rattle.std.proofs.lemmas.Map.Iter.{rest_more}
use Rattle.ely_cache.specs.Codes.{begins_with}
use Rattle.ely_cache.proofs.Ranges.{IsLeft, left-empty, left-past, left-range, no_first}
use Rattle.ely_cache.proofs.resting.first_under.Goals as goal

pub loop-code-init : goal.loop-code-init
loop-code-init c =
    let range = c.range-code-items.ensures in
    subst (IsLeft c.args.start.now.items c.args.resting.now) (sym c.into_iter-code-iterator.ensures.into_iter_gives)
    (left-range c.args.start.now c.args.resting.now c.range-code-items.result (range.in_range tt) (range.between tt) range.ordered)

pub returns-then-not-starts_with-clause-none : goal.returns-then-not-starts_with-clause-none
returns-then-not-starts_with-clause-none c =
    let is : c.loop-code.code-iterator ≡ (c.in-Some.code.now, c.in-Some.slots.now) ∷ c.next.new.self = rest_more deref_pair _ _ _ _ c.in-Some.is c.next.ensures.steps in
    let value = c.starts_with.ensures.value in
    let past = c.if-not-starts_with.true in
    let other : begins_with c.args.start.now.items c.in-Some.code.now.items ≡ false = cc (c.as_slice.ensures.value, c.as_slice-in-loop-code.ensures.value) in
    left-past c.args.start.now.items c.args.resting.now (c.in-Some.code.now, c.in-Some.slots.now) c.next.new.self (subst (IsLeft c.args.start.now.items c.args.resting.now) is c.loop-code.invariant) other

pub loop-code-preserved : goal.loop-code-preserved
loop-code-preserved c =
    let is : c.loop-code.code-iterator ≡ (c.in-Some.code.now, c.in-Some.slots.now) ∷ c.next.new.self = rest_more deref_pair _ _ _ _ c.in-Some.is c.next.ensures.steps in
    let empty : c.in-Some.slots.now.items ≡ [] = no_first c.in-Some.slots.now.items (rw c.deref.ensures.value at (sym c.in_default.ensures.value)) in
    left-empty c.args.start.now.items c.args.resting.now (c.in-Some.code.now, c.in-Some.slots.now) c.next.new.self (subst (IsLeft c.args.start.now.items c.args.resting.now) is c.loop-code.invariant) empty
