use Rattle.std.proofs.Common.{◌≡◌, ◌∙◌, ap, rules}
use Rattle.ely_row.specs.Sets.{as_set, is_among}
use Rattle.ely_row.proofs.SetLemmas.{is_among-as_set}
use Rattle.ely_roles.specs.declared.mapper.RoleMapper.{the_lemmas}
use Rattle.ely_roles.specs.declared.mapper.RoleMapper.TheVariants.{Constant}
use Rattle.ely_roles.specs.Mappers.{Names, mapped_by}
use Rattle.ely_roles.proofs.laws.members_constant.Goals as goal

pub returns : goal.returns
returns c = λ roles set name.
    let made : mapped_by (Constant roles) set ≡ as_set roles = search (rules, the_lemmas) in
    ap (λ (names : Names). is_among names name) made ∙ is_among-as_set roles name
