use Rattle.std.proofs.Common.{◌≡◌, ◌-◌, drop, length}
use Rattle.ely_history.specs.Lines.{ran, run_parts}
use Rattle.ely_history.specs.Parts.{actor_of, parts_of}
use Rattle.ely_front.specs.Line.{HasRoomFor}
use Rattle.ely_front.proofs.RunLemmas.{LeadsOn}
use Rattle.ely_front.proofs.line.run_into.Given as goal

-- what is made from here on, behind what was made, is the whole line
abbrev pub invariant-loop-part : goal.invariant-loop-part
invariant-loop-part g l = record {
  leads_on : LeadsOn l.fn.domain l.domain (actor_of l.line) (ran l.fn.domain.given l.fn.domain.machine l.line) (run_parts l.domain.given l.domain.machine l.carried (drop l.index (parts_of l.line))) l.fn.entries.items l.entries.items l.fn.steps l.steps;
  given : l.domain.given ≡ l.fn.domain.given;
  room : HasRoomFor l.domain.machine (drop l.index (parts_of l.line));
}

abbrev pub decreases-loop-part : goal.decreases-loop-part
decreases-loop-part g l = length (parts_of l.line) - l.index
