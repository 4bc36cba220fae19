use Rattle.std.proofs.Common.{◌≡◌, drop, map}
use Rattle.std.specs.Prelude.{unwrap_or}
use Rattle.ely_roles.specs.Mappers.{mapped_by, in_turn}
use Rattle.ely_roles.proofs.apply.+mappers.Given as goal

-- the mappers that are left, on what those before made
abbrev pub invariant-in_turn-loop-mapper : goal.invariant-in_turn-loop-mapper
invariant-in_turn-loop-mapper l =
    in_turn (map mapped_by (drop l.mapper-index l.mappers)) (unwrap_or l.made l.roles) ≡ in_turn (map mapped_by l.mappers) l.roles
