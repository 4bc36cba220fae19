-- The parts so far and those of the values left are those of all.
use Rattle.std.proofs.Common.{◌≡◌, ◌++◌, drop, option_map}
use Rattle.serde_json.specs.View.{items_view}
use Rattle.ely_config_json.specs.Parts.{each_of}
use Rattle.ely_config_json.proofs.parts.each_of.Given as goal

abbrev pub invariant-loop-value : goal.invariant-loop-value
invariant-loop-value g l = option_map (λ parts. l.parts.items ++ parts) (each_of g.P.Part.of (items_view (drop l.value-index l.values))) ≡ each_of g.P.Part.of (items_view l.values)
