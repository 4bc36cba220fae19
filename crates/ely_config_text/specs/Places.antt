-- The paths of faults that lie between members, and what is wrong there.
use Rattle.std.specs.Prelude.{ℕ, Bool, true, false, if◌then◌else◌, List, ◌++◌, codes, Option, Some, None}
use Rattle.std.specs.Fmt.{decimal}
use Rattle.ely_pipeline.specs.declared.mapper.RealmMapper.{RealmMapper}
use Rattle.ely_pipeline.specs.declared.mapper.RealmMapper.TheVariants.{Constant, MapAfter, TakeAfter}
use Rattle.ely_config.specs.declared.fault.Reference.{Reference}
use Rattle.ely_config.specs.declared.fault.Reference.TheVariants as references
use Rattle.ely_config.specs.declared.fault.RealmFault.{RealmFault}
use Rattle.ely_config.specs.declared.fault.RealmFault.TheVariants as realm_faults
use Rattle.ely_config.specs.declared.fault.ConfigFault.{ConfigFault}
use Rattle.ely_config.specs.declared.fault.ConfigFault.TheVariants as faults
use Rattle.ely_config_tree.specs.declared.step.FaultKind.{FaultKind}
use Rattle.ely_config_tree.specs.declared.step.FaultKind.TheVariants as kinds
use Rattle.ely_config_text.specs.declared.fault.Wrong.{Wrong}
use Rattle.ely_config_text.specs.declared.fault.Wrong.TheVariants as wrongs

-- what the kind of a tree's fault says
abbrev pub wrong_of : FaultKind → Wrong
wrong_of kinds.Missing = wrongs.Missing
wrong_of kinds.Kind = wrongs.Kind
wrong_of kinds.Range = wrongs.Range
wrong_of kinds.Unknown = wrongs.Unknown

-- the path of a reference within its realm
abbrev pub reference_path : Reference → List ℕ
reference_path references.Authentication = codes "/authentication"
reference_path (references.Authorization at) = codes "/authorization/" ++ decimal at
reference_path references.Of = codes "/of"

-- the path of a realm's fault within the realm
abbrev pub within_realm : RealmFault → List ℕ
within_realm realm_faults.Twice = codes "/name"
within_realm realm_faults.RoleMapper = codes "/role-mapper"
within_realm realm_faults.Authorization = codes "/authorization"
within_realm realm_faults.Limit = codes "/max-entries"
within_realm (realm_faults.Unknown reference) = reference_path reference
within_realm (realm_faults.Nested reference) = reference_path reference
within_realm (realm_faults.Users fault) = codes "/users"
within_realm (realm_faults.Groups fault) = codes "/groups"

-- what is wrong with a realm
abbrev pub wrong_realm : RealmFault → Wrong
wrong_realm realm_faults.Twice = wrongs.Twice
wrong_realm realm_faults.RoleMapper = wrongs.Range
wrong_realm realm_faults.Authorization = wrongs.Range
wrong_realm realm_faults.Limit = wrongs.Range
wrong_realm (realm_faults.Unknown reference) = wrongs.Unknown
wrong_realm (realm_faults.Nested reference) = wrongs.Nested
wrong_realm (realm_faults.Users fault) = wrongs.Text fault
wrong_realm (realm_faults.Groups fault) = wrongs.Text fault

-- the mapper leads always to one realm
abbrev pub is_constant : Option RealmMapper → Bool
is_constant (Some (Constant realm)) = true
is_constant (Some (MapAfter mark pairs)) = false
is_constant (Some (TakeAfter mark)) = false
is_constant None = false

-- the path of the realm of a mapper: the one of a constant mapper, or that of a pair
abbrev pub mapped_path : Bool → ℕ → List ℕ
mapped_path constant at = if constant then codes "/realm-mapper/realm" else codes "/realm-mapper/pairs/" ++ (decimal at ++ codes "/1")

-- the path of a fault between members, where the realm mapper is a constant one or not
abbrev pub fault_path : Bool → ConfigFault → List ℕ
fault_path constant faults.DigestRealm = codes "/digest-realm"
fault_path constant faults.Realms = codes "/realms"
fault_path constant faults.Pipeline = codes "/"
fault_path constant faults.RoleMapper = codes "/role-mapper"
fault_path constant faults.Permissions = codes "/permissions"
fault_path constant (faults.Realm at fault) = codes "/realms/" ++ (decimal at ++ within_realm fault)
fault_path constant faults.DefaultRealm = codes "/default-realm"
fault_path constant (faults.MappedRealm at) = mapped_path constant at

-- what is wrong there
abbrev pub wrong_between : ConfigFault → Wrong
wrong_between faults.DigestRealm = wrongs.Range
wrong_between faults.Realms = wrongs.Range
wrong_between faults.Pipeline = wrongs.Range
wrong_between faults.RoleMapper = wrongs.Range
wrong_between faults.Permissions = wrongs.Range
wrong_between (faults.Realm at fault) = wrong_realm fault
wrong_between faults.DefaultRealm = wrongs.Unknown
wrong_between (faults.MappedRealm at) = wrongs.Unknown
