use Rattle.std.proofs.Common.{◌≡◌, ◌∙◌, ap, sym, rules, List, [], ◌∷◌, map}
use Rattle.ely_row.specs.Sets.{is_among}
use Rattle.ely_roles.specs.declared.mapper.RoleMapper.{RoleMapper, the_lemmas}
use Rattle.ely_roles.specs.declared.mapper.RoleMapper.TheVariants.{Aggregate}
use Rattle.ely_roles.specs.Mappers.{Names, in_turn, mapped_by}
use Rattle.ely_roles.proofs.laws.members_in_turn.Goals as goal

of_all : (of : List RoleMapper) (set : Names) → mapped_by (Aggregate of) set ≡ in_turn (map mapped_by of) set
of_all of set = search (rules, the_lemmas)

pub returns-clause-none : goal.returns-clause-none
returns-clause-none c = λ set name. ap (λ (names : Names). is_among names name) (of_all [] set)

pub returns-clause-first : goal.returns-clause-first
returns-clause-first c = λ first others set name.
    ap (λ (names : Names). is_among names name) (of_all (first ∷ others) set ∙ sym (of_all others (mapped_by first set)))
