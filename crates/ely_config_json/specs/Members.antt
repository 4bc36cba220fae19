-- The members of a configuration that a JSON value stands for.
use Rattle.std.specs.Prelude.{ℕ, List, codes, Option, option_map, option_and_then}
use Rattle.serde_json.specs.Data.{Data, Members as Object}
use Rattle.serde_json.specs.Find.{as_object}
use Rattle.ely_row.specs.Salts.{Params}
use Rattle.ely_pipeline.specs.declared.pipeline.Pipeline.{Pipeline}
use Rattle.ely_roles.specs.declared.mapper.RoleMapper.{RoleMapper}
use Rattle.ely_perm.specs.declared.permissions.Permissions.{Permissions}
use Rattle.ely_perm.specs.Grants.{login_for_all}
use Rattle.ely_config.specs.declared.realm.RealmConfig.{RealmConfig}
use Rattle.ely_config.specs.declared.members.Members.{Members}
use Rattle.ely_config_json.specs.Names.{text_of}
use Rattle.ely_config_json.specs.Params.{params_in}
use Rattle.ely_config_json.specs.Parts.{both, given, optional}
use Rattle.ely_config_json.specs.Permissions.{permissions_of}
use Rattle.ely_config_json.specs.Pipelines.{pipeline_in}
use Rattle.ely_config_json.specs.Realms.{realms_in}
use Rattle.ely_config_json.specs.RoleMappers.{role_mapper_of}

-- the realm of Digest, `ManagementRealm` where it isn't said, and what derives keys
abbrev pub keys_in : Object → Option (List ℕ × Params)
keys_in object = both (given text_of (codes "ManagementRealm") (codes "digest-realm") object) (params_in object)

-- the way of names, and the realms
abbrev pub places_in : Object → Option (Pipeline × List RealmConfig)
places_in object = both (pipeline_in object) (realms_in object)

-- the mapper of roles, and the permissions: `login` for everybody where they aren't said
abbrev pub rights_in : Object → Option (Option RoleMapper × Permissions)
rights_in object = both (optional (role_mapper_of 8) (codes "role-mapper") object) (given permissions_of login_for_all (codes "permissions") object)

-- the members of an object
abbrev pub members_in : Object → Option Members
members_in object = option_map (λ made. record {
  digest_realm = made.0.0;
  params = made.0.1;
  pipeline = made.1.0.0;
  realms = made.1.0.1;
  role_mapper = made.1.1.0;
  permissions = made.1.1.1;
})
    (both (keys_in object) (both (places_in object) (rights_in object)))

-- the members of a value
abbrev pub members_of : Data → Option Members
members_of value = option_and_then members_in (as_object value)
