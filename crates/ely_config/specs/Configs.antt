-- Configurations, and the first reason why there is none of some members.
use Rattle.std.specs.Prelude.{ℕ, ◌≡◌, ◌&&◌, Bool, not, List, [], ◌∷◌, map, position, codes, Option, Some, None, option_and_then, Result, Ok, Err}
use Rattle.std.specs.Option.{option_or, option_map}
use Rattle.std.specs.Str.{bytes_eq}
use lib.Pointwise.{pointwise}
use Rattle.ely_row.specs.Salts.{plain_params, is_realm}
use Rattle.ely_pipeline.specs.declared.mapper.RealmMapper.{RealmMapper}
use Rattle.ely_pipeline.specs.declared.mapper.RealmMapper.TheVariants.{Constant, MapAfter, TakeAfter}
use Rattle.ely_pipeline.specs.declared.pipeline.Pipeline.{Pipeline}
use Rattle.ely_pipeline.specs.Bounds.{pipeline_fits}
use Rattle.ely_perm.specs.Grants.{login_for_all}
use Rattle.ely_perm.specs.Bounds as perms
use Rattle.ely_config.specs.declared.members.Members.{Members}
use Rattle.ely_config.specs.declared.realm.RealmKind.TheVariants.{Modifiable}
use Rattle.ely_config.specs.declared.realm.RealmConfig.{RealmConfig}
use Rattle.ely_config.specs.declared.fault.ConfigFault.{ConfigFault}
use Rattle.ely_config.specs.declared.fault.ConfigFault.TheVariants as faults
use Rattle.ely_config.specs.Realms.{unless, are_few, is_named, mapper_fits, realms_fault}

-- what a domain is told: its members
abbrev pub Config : Type 0
Config = Members

-- the names of realms, in order
abbrev pub names_of : List RealmConfig → List (List ℕ)
names_of realms = map (λ realm. realm.name) realms

-- the realms that the pipeline knows are these by their names, in the same order
abbrev pub knows : Pipeline → List RealmConfig → Bool
knows pipe realms = pointwise bytes_eq (map (λ known. known.0) pipe.realms) (names_of realms)

-- the first of the members that doesn't keep to its bounds, whatever the texts of the realms are
abbrev pub bounds_fault : Members → Option ConfigFault
bounds_fault members =
    option_or (unless (is_realm members.digest_realm) faults.DigestRealm)
    (option_or (unless (are_few members.realms) faults.Realms)
    (option_or (unless (pipeline_fits members.pipeline && knows members.pipeline members.realms) faults.Pipeline)
    (option_or (unless (mapper_fits members.role_mapper) faults.RoleMapper)
    (unless (perms.fits members.permissions) faults.Permissions))))

-- the index of the first pair whose realm isn't among these; a mapper that always gives one realm counts as one pair
abbrev pub missing_realm : List RealmConfig → RealmMapper → Option ℕ
missing_realm realms (Constant realm) = unless (is_named realms realm) 0
missing_realm realms (MapAfter mark pairs) = position (λ pair. not (is_named realms pair.1)) pairs
missing_realm realms (TakeAfter mark) = None

-- why the pipeline leads to a realm that isn't among these: the default one before those of its mapper
abbrev pub target_fault : List RealmConfig → Pipeline → Option ConfigFault
target_fault realms pipe =
    option_or (unless (is_named realms pipe.default_realm) faults.DefaultRealm)
    (option_map faults.MappedRealm (option_and_then (missing_realm realms) pipe.mapper))

-- why there is no configuration of these members, the first reason
unfoldable pub config_fault : Members → Option ConfigFault
config_fault members =
    option_or (bounds_fault members)
    (option_or (realms_fault members.digest_realm members.realms [] members.realms)
    (target_fault members.realms members.pipeline))

-- nothing stands against a configuration of these members
abbrev pub IsSound : Members → Type 0
IsSound members = config_fault members ≡ None

-- the configuration that this fault leaves
abbrev pub unless_faulty : Option ConfigFault → Config → Result Config ConfigFault
unless_faulty None config = Ok config
unless_faulty (Some fault) config = Err fault

-- the configuration of these members, or the first reason why there is none
abbrev pub config_of : Members → Result Config ConfigFault
config_of members = unless_faulty (config_fault members) members

-- the realm whose identities are changed one by one, where nothing else is said
abbrev pub main_realm : RealmConfig
main_realm = record { name = codes "main"; kind = Modifiable; role_attribute = codes "groups"; role_mapper = None }

-- the pipeline that leads each name, as it is, to that realm
abbrev pub plain_pipeline : Pipeline
plain_pipeline = record {
  decoder = None;
  pre = None;
  mapper = None;
  default_realm = codes "main";
  post = None;
  realms = (codes "main", None) ∷ [];
}

-- the configuration of an empty object: everything has its default
abbrev pub plain_config : Config
plain_config = record {
  digest_realm = codes "ManagementRealm";
  params = plain_params;
  pipeline = plain_pipeline;
  realms = main_realm ∷ [];
  role_mapper = None;
  permissions = login_for_all;
}
