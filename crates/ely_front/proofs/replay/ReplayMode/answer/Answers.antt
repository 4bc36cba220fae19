use Rattle.std.proofs.Common.{ℕ, List, map, refl, arith}
use Rattle.ely_script.specs.Text.{text_from, numbered}
use Rattle.ely_front.specs.declared.replay.Replay.{Replay}
use Rattle.ely_front.proofs.AnswerLemmas.{IsAnswered, line_answered, has_space, few_entries}
use Rattle.ely_front.proofs.replay.ReplayMode.answer.Given.{Over}
use Rattle.ely_front.proofs.replay.ReplayMode.answer.Goals as goal

pub next_line-requires : goal.next_line-requires
next_line-requires g c =
    let space = has_space c.args.self.now c.requires in
    omega (arith, space.counted c.actor_of.result)

pub run_into-requires : goal.run_into-requires
run_into-requires g c =
    let space = has_space c.args.self.now c.requires in
    omega (arith, space.opened)

pub push_entries-requires : goal.push_entries-requires
push_entries-requires g c =
    let space = has_space c.args.self.now c.requires in
    let few = few_entries _ _ _ _ _ _ _ (rw c.clear.ensures.items at c.in_ok-run_into.ensures.made) in
    rw c.deref.ensures.value (omega (arith, space.number, few))

new : (g : Over) → goal.After-self-1 g → Replay
new g c = record { domain = c.run_into.new.domain; counts = c.next_line.new.counts; entries = c.run_into.new.entries; number = c.in-Ok.next }

-- the text of its steps
abbrev said : (g : Over) → goal.After-self-1 g → List ℕ
said g c = text_from c.args.self.now.number (map (numbered c.in_ok-number.number) c.run_into.new.entries.items)

answered : (g : Over) (c : goal.After-self-1 g) → IsAnswered c.args.self.now (new g c) c.args.line.now c.in_ok-number.number c.run_into.new.entries.items (said g c) c.args.steps.now c.run_into.new.steps
unfolding new
answered g c = record {
  makes = rw c.clear.ensures.items at c.in_ok-run_into.ensures.made;
  given_is = c.run_into.ensures.given;
  line_is = rw c.actor_of.ensures at c.in_ok-number.ensures.number;
  here = rw c.actor_of.ensures at c.in_ok-number.ensures.counted;
  others = rw c.actor_of.ensures at c.in_ok-number.ensures.others;
  number_is = rw c.deref.ensures.value at c.in-Ok.ensures.number;
  said_is = refl;
}

pub returns-in-Ok-clause-answered : goal.returns-in-Ok-clause-answered
unfolding new
returns-in-Ok-clause-answered g c =
    line_answered c.args.self.now (new g c) c.args.line.now c.in_ok-number.number c.run_into.new.entries.items (said g c) c.args.steps.now c.run_into.new.steps c.args.out.now.items c.push_entries.new.out.items (answered g c) (rw c.deref.ensures.value at c.in-Ok.ensures.text)
