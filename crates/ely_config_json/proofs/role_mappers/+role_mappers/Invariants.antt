-- Each mapper in a mapper nests a level less deep.
use Rattle.std.proofs.Common.{◌≡◌, ◌+◌, ◌*◌, ◌++◌, List, drop, option_map}
use Rattle.serde_json.specs.View.{items_view}
use Rattle.ely_roles.specs.declared.mapper.RoleMapper.{RoleMapper}
use Rattle.ely_config_json.specs.Parts.{each_of}
use Rattle.ely_config_json.specs.RoleMappers.{role_mapper_of}
use Rattle.ely_config_json.proofs.role_mappers.+role_mappers.Given as goal

abbrev pub decreases-read_role_mapper : goal.decreases-read_role_mapper
decreases-read_role_mapper l = 4 * l.levels

abbrev pub decreases-role_mapper_in : goal.decreases-role_mapper_in
decreases-role_mapper_in l = 4 * l.below + 3

abbrev pub decreases-aggregate : goal.decreases-aggregate
decreases-aggregate l = 4 * l.below + 2

abbrev pub decreases-logical : goal.decreases-logical
decreases-logical l = 4 * l.below + 2

abbrev pub decreases-side : goal.decreases-side
decreases-side l = 4 * l.below + 1

abbrev pub decreases-each_role_mapper : goal.decreases-each_role_mapper
decreases-each_role_mapper l = 4 * l.below + 1

-- the mappers so far and those of the values left are those of all
abbrev pub invariant-each_role_mapper-loop-value : goal.invariant-each_role_mapper-loop-value
invariant-each_role_mapper-loop-value l =
    option_map (λ (mappers : List RoleMapper). l.mappers ++ mappers) (each_of (role_mapper_of l.below) (items_view (drop l.value-index l.values)))
    ≡ each_of (role_mapper_of l.below) (items_view l.values)
