use Rattle.std.proofs.Common.{◌≡◌, [], Option, Some, None, unwrap_or, false, refl}
use Rattle.std.specs.Option.{option_map_or}
use Rattle.ely_row.specs.Rows.{attr_at}
use Rattle.ely_row.specs.Sets.{as_set, is_among}
use Rattle.ely_row.proofs.SetLemmas.{is_among-as_set}
use Rattle.ely_roles.specs.Mappers.{Name, Names}
use Rattle.ely_roles.proofs.laws.roles_by_their_mappers.Goals as goal

by_values : (values : Option Names) (name : Name) → is_among (as_set (unwrap_or values [])) name ≡ option_map_or (λ values. is_among values name) values false
by_values None name = refl
by_values (Some values) name = is_among-as_set values name

pub returns-clause-none : goal.returns-clause-none
returns-clause-none c = λ attr row name. by_values (attr_at attr row) name
