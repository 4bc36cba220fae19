-- The roles of an identity.
use Rattle.std.specs.Prelude.{Bool, false, [], Option, Some, None, unwrap_or}
use Rattle.std.specs.Option.{option_map_or}
use Rattle.ely_row.specs.Rows.{Row, attr_at}
use Rattle.ely_row.specs.Sets.{as_set, is_among}
use Rattle.ely_roles.specs.declared.mapper.RoleMapper.{RoleMapper}
use Rattle.ely_roles.specs.Mappers.{Name, Names, mapped_by}

-- the values of the attribute as a set, the empty set without the attribute
abbrev pub values_of : Name → Row → Names
values_of attr row = as_set (unwrap_or (attr_at attr row) [])

-- what the mapper makes of the set, and the set itself without a mapper
abbrev pub through : Option RoleMapper → Names → Names
through None set = set
through (Some mapper) set = mapped_by mapper set

-- the values of the attribute, through the realm's mapper and then the domain's
abbrev pub roles_of : Name → Option RoleMapper → Option RoleMapper → Row → Names
roles_of attr realm_mapper domain_mapper row = through domain_mapper (through realm_mapper (values_of attr row))

-- the identity has the attribute, and the name is one of its values
abbrev pub is_value : Name → Row → Name → Bool
is_value attr row name = option_map_or (λ values. is_among values name) (attr_at attr row) false
