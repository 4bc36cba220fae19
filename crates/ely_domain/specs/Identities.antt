-- What the edits of a journal say of a place at a version: its identity, its key, its roles and its permissions.
use Rattle.std.specs.Prelude.{ℕ, Bool, List, [], take, Option, Some, None, codes}
use Rattle.std.specs.Option.{option_and_then}
use Rattle.ely_row.specs.declared.edit.Edit.{Edit}
use Rattle.ely_row.specs.declared.mech.Mech.{Mech}
use Rattle.ely_pipeline.specs.declared.place.Place.{Place}
use Rattle.ely_row.specs.Edits.{row}
use Rattle.ely_row.specs.Rows.{Row}
use Rattle.ely_table.specs.Faults.{texts_of}
use Rattle.ely_cred.specs.Keys.{Ready, ready_of}
use Rattle.ely_roles.specs.declared.mapper.RoleMapper.{RoleMapper}
use Rattle.ely_roles.specs.RolesOf.{roles_of}
use Rattle.ely_perm.specs.Grants.{granted}
use Rattle.ely_config.specs.declared.realm.RealmConfig.{RealmConfig}
use Rattle.ely_aggregate.specs.Plans.{identity_of}
use Rattle.ely_config.specs.Configs.{Config}
use Rattle.ely_config.specs.Realms.{realm_named}
use Rattle.ely_domain.specs.Given.{Given, realms}
use Rattle.ely_domain.specs.Plans.{plan_of, deps_in}

-- what a step may read: what the domain was made with, and the accepted edits
pub record Known : Type 0 where
  pub given : Given
  pub edits : List Edit

-- the identity of a name in a realm, as these edits made it: by the realm's plan, of the rows of its places
unfoldable pub identity_after : Given → List Edit → List ℕ → List ℕ → Option Row
identity_after given edits r name =
    option_and_then (λ plan. identity_of (row (texts_of (realms given)) edits) plan name) (plan_of given.config.realms r)

-- the identity of a place, as the edits up to that version made it
abbrev pub ident : Known → ℕ → Place → Option Row
ident known version place = identity_after known.given (take version known.edits) place.realm place.name

-- the places whose rows that identity is made of
abbrev pub deps : Known → Place → List (List ℕ × List ℕ)
deps known place = deps_in known.given.config.realms place.realm place.name

-- the key that this identity has for a mechanism
unfoldable pub key_at : Known → Mech → ℕ → Place → Option Ready
key_at known mech version place =
    option_and_then (ready_of known.given.config.params place.realm place.name mech) (ident known version place)

-- the roles that a realm and the domain make of an identity; a realm that isn't there makes none
abbrev pub roles_by : Option RealmConfig → Option RoleMapper → Row → List (List ℕ)
roles_by None domain_mapper identity = []
roles_by (Some realm) domain_mapper identity = roles_of realm.role_attribute realm.role_mapper domain_mapper identity

-- the roles of an identity of that realm, where there is one
unfoldable pub roles_in : Config → List ℕ → Option Row → List (List ℕ)
roles_in config realm None = []
roles_in config realm (Some identity) = roles_by (realm_named config.realms realm) config.role_mapper identity

-- the roles of a place at a version
abbrev pub roles : Known → ℕ → Place → List (List ℕ)
roles known version place = roles_in known.given.config place.realm (ident known version place)

-- the place has the permission at that version: the rows grant it to the name with the roles of that version
unfoldable pub grants : Known → ℕ → Place → List ℕ → Bool
grants known version place wanted =
    granted known.given.config.permissions place.name (roles known version place) wanted

-- the permission to log in
abbrev pub to_log_in : List ℕ
to_log_in = codes "login"
