-- Realms, and the first reason why one of them isn't taken.
use Rattle.std.specs.Prelude.{ℕ, ◌+◌, ◌≡◌, ◌&&◌, Bool, true, false, not, if◌then◌else◌, nat_le, List, [], ◌∷◌, ◌++◌, length, find, Option, Some, None, Result, Ok, Err}
use Rattle.std.specs.List.{list_any}
use Rattle.std.specs.Option.{option_or, option_map_or}
use Rattle.std.specs.Str.{bytes_eq}
use Rattle.ely_row.specs.declared.edit.PropFault.{PropFault}
use Rattle.ely_row.specs.Salts.{is_realm}
use Rattle.ely_propfile.specs.Users.{users_of}
use Rattle.ely_propfile.specs.Groups.{groups_of}
use Rattle.ely_roles.specs.declared.mapper.RoleMapper.{RoleMapper}
use Rattle.ely_roles.specs.Bounds as roles
use Rattle.ely_config.specs.declared.realm.RealmKind.{RealmKind}
use Rattle.ely_config.specs.declared.realm.RealmKind.TheVariants.{Modifiable, Properties, Aggregate, Caching}
use Rattle.ely_config.specs.declared.realm.RealmConfig.{RealmConfig}
use Rattle.ely_config.specs.declared.fault.Reference.{Reference}
use Rattle.ely_config.specs.declared.fault.Reference.TheVariants as references
use Rattle.ely_config.specs.declared.fault.RealmFault.{RealmFault}
use Rattle.ely_config.specs.declared.fault.RealmFault.TheVariants as realm_faults
use Rattle.ely_config.specs.declared.fault.ConfigFault.{ConfigFault}
use Rattle.ely_config.specs.declared.fault.ConfigFault.TheVariants as faults

-- the fault, where the test isn't passed
abbrev pub unless : {F : Type 0} → Bool → F → Option F
unless passed fault = if passed then None else Some fault

-- there are 1 to 16 realms
abbrev pub are_few : List RealmConfig → Bool
are_few realms = nat_le 1 (length realms) && nat_le (length realms) 16

-- one of the realms has this name
abbrev pub is_named : List RealmConfig → List ℕ → Bool
is_named realms name = list_any (λ realm. bytes_eq realm.name name) realms

-- the first realm of this name
abbrev pub realm_named : List RealmConfig → List ℕ → Option RealmConfig
realm_named realms name = find (λ realm. bytes_eq realm.name name) realms

-- a role mapper keeps to its bounds, where there is one
abbrev pub mapper_fits : Option RoleMapper → Bool
mapper_fits mapper = option_map_or roles.fits mapper true

-- ---- texts

-- the first fault of what was read: that of the users before that of the groups
abbrev pub read_fault : {A B : Type 0} → Result A PropFault → Result B PropFault → Option RealmFault
read_fault (Err fault) groups = Some (realm_faults.Users fault)
read_fault (Ok users) (Err fault) = Some (realm_faults.Groups fault)
read_fault (Ok users) (Ok groups) = None

-- why these texts aren't taken; the realm of hashes is the users' own, or else the one that Digest announces
abbrev pub texts_fault : List ℕ → Bool → List ℕ → List ℕ → Option RealmFault
texts_fault digest_realm plain users groups = read_fault (users_of plain digest_realm users) (groups_of groups)

-- ---- references of a realm to others

-- realms of this kind have identities of their own
abbrev pub is_basic : RealmKind → Bool
is_basic Modifiable = true
is_basic (Properties plain users groups) = true
is_basic (Aggregate authentication authorization) = false
is_basic (Caching of limit) = false

-- realms of this kind keep no keys
abbrev pub is_uncached : RealmKind → Bool
is_uncached Modifiable = true
is_uncached (Properties plain users groups) = true
is_uncached (Aggregate authentication authorization) = true
is_uncached (Caching of limit) = false

-- a realm of this kind can stand at this reference: an aggregate is of realms with identities of their own, and no caching realm is of a caching one
abbrev pub stands_at : Reference → RealmKind → Bool
stands_at references.Authentication kind = is_basic kind
stands_at (references.Authorization at) kind = is_basic kind
stands_at references.Of kind = is_uncached kind

-- why it isn't this realm that can stand at the reference
abbrev pub found_fault : Reference → Option RealmConfig → Option RealmFault
found_fault reference None = Some (realm_faults.Unknown reference)
found_fault reference (Some realm) = unless (stands_at reference realm.kind) (realm_faults.Nested reference)

-- why a reference by this name isn't taken among these realms, of which the first that has the name is meant
abbrev pub reference_fault : List RealmConfig → Reference → List ℕ → Option RealmFault
reference_fault all reference name = found_fault reference (realm_named all name)

-- the first fault of references for attributes by these names, which are counted from this number on
abbrev pub first_reference : List RealmConfig → ℕ → List (List ℕ) → Option RealmFault
first_reference all at [] = None
first_reference all at (name ∷ names) = option_or (reference_fault all (references.Authorization at) name) (first_reference all (at + 1) names)

-- why an aggregate of the realms with these names isn't taken: it names 1 to 15 for attributes
abbrev pub aggregate_fault : List RealmConfig → List ℕ → List (List ℕ) → Option RealmFault
aggregate_fault all authentication authorization =
    option_or (unless (nat_le 1 (length authorization) && nat_le (length authorization) 15) realm_faults.Authorization)
    (option_or (reference_fault all references.Authentication authentication)
    (first_reference all 0 authorization))

-- why a cache of so many keys for the realm with this name isn't taken: it keeps 1 to 65,536
abbrev pub caching_fault : List RealmConfig → List ℕ → ℕ → Option RealmFault
caching_fault all of limit =
    option_or (unless (nat_le 1 limit && nat_le limit 65536) realm_faults.Limit)
    (reference_fault all references.Of of)

-- ---- realms

-- why a realm of this kind isn't taken among all these
abbrev pub kind_fault : List ℕ → List RealmConfig → RealmKind → Option RealmFault
kind_fault digest_realm all Modifiable = None
kind_fault digest_realm all (Properties plain users groups) = texts_fault digest_realm plain users groups
kind_fault digest_realm all (Aggregate authentication authorization) = aggregate_fault all authentication authorization
kind_fault digest_realm all (Caching of limit) = caching_fault all of limit

-- why a realm isn't taken among all these and behind those before it
abbrev pub realm_fault : List ℕ → List RealmConfig → List RealmConfig → RealmConfig → Option RealmFault
realm_fault digest_realm all before realm =
    option_or (unless (not (is_named before realm.name)) realm_faults.Twice)
    (option_or (unless (mapper_fits realm.role_mapper) realm_faults.RoleMapper)
    (kind_fault digest_realm all realm.kind))

-- the fault of the realm behind so many, or else the later one
abbrev pub at_realm : ℕ → Option RealmFault → Option ConfigFault → Option ConfigFault
at_realm count (Some fault) later = Some (faults.Realm count fault)
at_realm count None later = later

-- why one of the realms isn't taken that stand behind those before them, the first of them; all is what their references are looked up in
unfoldable pub realms_fault : List ℕ → List RealmConfig → List RealmConfig → List RealmConfig → Option ConfigFault
realms_fault digest_realm all before [] = None
realms_fault digest_realm all before (realm ∷ realms) =
    at_realm (length before) (realm_fault digest_realm all before realm) (realms_fault digest_realm all (before ++ realm ∷ []) realms)

-- the realm of Digest can be announced, there are 1 to 16 realms, no two have one name, each can be read, and references are to realms that are there
pub record AreSound (digest_realm : List ℕ) (realms : List RealmConfig) : Type 0 where
  pub announced : is_realm digest_realm ≡ true
  pub few : are_few realms ≡ true
  pub none : realms_fault digest_realm realms [] realms ≡ None

-- the first realm of this name is there, and of a kind that passes the test
abbrev pub RefersTo : (RealmKind → Bool) → List RealmConfig → List ℕ → Type 0
RefersTo test realms name = (found : RealmConfig) × (realm_named realms name ≡ Some found) × (test found.kind ≡ true)
