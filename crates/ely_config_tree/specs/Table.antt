-- The table of a configuration: for each object the members that it may have, and the shapes of their values. The members
-- stand in the order of their names' bytes.
use Rattle.std.specs.Prelude.{ℕ, ◌-◌, Bool, true, false, if◌then◌else◌, List, [], ◌∷◌, Option, Some, None, codes}
use Rattle.std.specs.Str.{bytes_eq}
use Rattle.ely_config_tree.specs.declared.shape.Shape.{Shape}
use Rattle.ely_config_tree.specs.declared.shape.Shape.TheVariants.{Root, Scram, Permissions, PermRow, PermRows, Realm, Realms, Rule, Rules, RealmMapper, RoleMapper, RoleMappers, Pairs, RolePairs, Names, Grants, Name, AnyText, Text, DigestRealm, Salt, Number, Flag, KindWord, RuleWord, RealmMapperWord, RoleMapperWord, ModeWord, OpWord}

-- a member of an object: its name, whether it must be there, and the shape of its value
pub record Member : Type 0 where
  pub name : List ℕ
  pub required : Bool
  pub shape : Shape

-- a member that must be there
abbrev pub needs : List ℕ → Shape → Member
needs name shape = record { name = name; required = true; shape = shape }

-- a member that may be there
abbrev pub may : List ℕ → Shape → Member
may name shape = record { name = name; required = false; shape = shape }

-- the members of the configuration
abbrev pub root_members : List Member
root_members =
    may (codes "decoder") (Rule 8) ∷
    may (codes "default-realm") Name ∷
    may (codes "digest-realm") DigestRealm ∷
    may (codes "permissions") Permissions ∷
    may (codes "post-realm") (Rule 8) ∷
    may (codes "pre-realm") (Rule 8) ∷
    may (codes "realm-mapper") RealmMapper ∷
    may (codes "realms") Realms ∷
    may (codes "role-mapper") (RoleMapper 8) ∷
    may (codes "scram") Scram ∷
    may (codes "seed") (Text 0 255) ∷
    may (codes "version") (Number 1 1) ∷
    []

-- the members of the object of SCRAM
abbrev pub scram_members : List Member
scram_members =
    may (codes "salt") Salt ∷
    may (codes "turns") (Number 1 1000000) ∷
    []

-- the members of the permissions
abbrev pub permissions_members : List Member
permissions_members =
    needs (codes "mode") ModeWord ∷
    needs (codes "rows") PermRows ∷
    []

-- the members of a row of the permissions
abbrev pub perm_row_members : List Member
perm_row_members =
    needs (codes "grant") Grants ∷
    may (codes "match-all") Flag ∷
    may (codes "principals") (Names 0 64) ∷
    may (codes "roles") (Names 0 64) ∷
    []

-- the members of a modifiable realm beside its kind
abbrev pub modifiable_members : List Member
modifiable_members =
    needs (codes "name") Name ∷
    may (codes "role-attribute") Name ∷
    may (codes "role-mapper") (RoleMapper 8) ∷
    may (codes "transformer") (Rule 8) ∷
    []

-- the members of a realm of properties texts beside its kind
abbrev pub properties_members : List Member
properties_members =
    may (codes "groups") AnyText ∷
    needs (codes "name") Name ∷
    may (codes "plain-text") Flag ∷
    may (codes "role-attribute") Name ∷
    may (codes "role-mapper") (RoleMapper 8) ∷
    may (codes "transformer") (Rule 8) ∷
    may (codes "users") AnyText ∷
    []

-- the members of an aggregate realm beside its kind
abbrev pub aggregate_members : List Member
aggregate_members =
    needs (codes "authentication") Name ∷
    needs (codes "authorization") (Names 1 15) ∷
    needs (codes "name") Name ∷
    may (codes "role-attribute") Name ∷
    may (codes "role-mapper") (RoleMapper 8) ∷
    may (codes "transformer") (Rule 8) ∷
    []

-- the members of a caching realm beside its kind
abbrev pub caching_members : List Member
caching_members =
    may (codes "max-entries") (Number 1 65536) ∷
    needs (codes "name") Name ∷
    needs (codes "of") Name ∷
    may (codes "role-attribute") Name ∷
    may (codes "role-mapper") (RoleMapper 8) ∷
    may (codes "transformer") (Rule 8) ∷
    []

-- the members of a realm beside its kind, by its kind
abbrev pub realm_table : List (List ℕ × List Member)
realm_table =
    (codes "modifiable", modifiable_members) ∷
    (codes "properties", properties_members) ∷
    (codes "aggregate", aggregate_members) ∷
    (codes "caching", caching_members) ∷
    []

-- the members of a rule of names beside its word, by its word; the rules in it may nest that many levels deep
abbrev pub rule_table : ℕ → List (List ℕ × List Member)
rule_table below =
    (codes "constant", needs (codes "to") Name ∷ []) ∷
    (codes "add-prefix", needs (codes "text") Name ∷ []) ∷
    (codes "add-suffix", needs (codes "text") Name ∷ []) ∷
    (codes "strip-prefix", needs (codes "text") Name ∷ []) ∷
    (codes "strip-suffix", needs (codes "text") Name ∷ []) ∷
    (codes "before", needs (codes "text") Name ∷ []) ∷
    (codes "after", needs (codes "text") Name ∷ []) ∷
    (codes "map", needs (codes "pairs") Pairs ∷ []) ∷
    (codes "require", needs (codes "names") (Names 1 64) ∷ []) ∷
    (codes "chain", needs (codes "of") (Rules below) ∷ []) ∷
    (codes "first", needs (codes "of") (Rules below) ∷ []) ∷
    []

-- the members of a realm mapper beside its word, by its word
abbrev pub realm_mapper_table : List (List ℕ × List Member)
realm_mapper_table =
    (codes "constant", needs (codes "realm") Name ∷ []) ∷
    (codes "map-after", needs (codes "mark") Name ∷ needs (codes "pairs") Pairs ∷ []) ∷
    (codes "take-after", needs (codes "mark") Name ∷ []) ∷
    []

-- the members of a logical role mapper beside its word; its mappers may nest that many levels deep
abbrev pub logical_members : ℕ → List Member
logical_members below =
    may (codes "left") (RoleMapper below) ∷
    needs (codes "op") OpWord ∷
    may (codes "right") (RoleMapper below) ∷
    []

-- the members of a role mapper that maps roles, beside its word
abbrev pub mapped_members : List Member
mapped_members =
    may (codes "keep-mapped") Flag ∷
    may (codes "keep-non-mapped") Flag ∷
    needs (codes "map") RolePairs ∷
    []

-- the members of a role mapper beside its word, by its word; the mappers in it may nest that many levels deep
abbrev pub role_mapper_table : ℕ → List (List ℕ × List Member)
role_mapper_table below =
    (codes "constant", needs (codes "roles") (Names 0 64) ∷ []) ∷
    (codes "add-prefix", needs (codes "text") Name ∷ []) ∷
    (codes "add-suffix", needs (codes "text") Name ∷ []) ∷
    (codes "aggregate", needs (codes "of") (RoleMappers below) ∷ []) ∷
    (codes "logical", logical_members below) ∷
    (codes "mapped", mapped_members) ∷
    []

-- the members that a table has under a word
abbrev pub members_in : List (List ℕ × List Member) → List ℕ → List Member
members_in [] word = []
members_in (choice ∷ choices) word = if bytes_eq word choice.0 then choice.1 else members_in choices word

-- the members of an object of the shape, beside its discriminator, which has that word
abbrev pub members_of : Shape → List ℕ → List Member
members_of Root word = root_members
members_of Scram word = scram_members
members_of Permissions word = permissions_members
members_of PermRow word = perm_row_members
members_of Realm word = members_in realm_table word
members_of (Rule levels) word = members_in (rule_table (levels - 1)) word
members_of RealmMapper word = members_in realm_mapper_table word
members_of (RoleMapper levels) word = members_in (role_mapper_table (levels - 1)) word
members_of shape word = []

-- the discriminator of an object, the member whose word says which others it has; and the shape of the word
abbrev pub discriminator_of : Shape → Option (List ℕ × Shape)
discriminator_of Realm = Some (codes "kind", KindWord)
discriminator_of (Rule levels) = Some (codes "rule", RuleWord)
discriminator_of RealmMapper = Some (codes "rule", RealmMapperWord)
discriminator_of (RoleMapper levels) = Some (codes "rule", RoleMapperWord)
discriminator_of shape = None

-- the shape of a member's value, where the members have that name
abbrev pub shape_in : List Member → List ℕ → Option Shape
shape_in [] name = None
shape_in (m ∷ ms) name = if bytes_eq name m.name then Some m.shape else shape_in ms name

-- the names of the members that must be there
abbrev pub required_in : List Member → List (List ℕ)
required_in [] = []
required_in (m ∷ ms) = if m.required then m.name ∷ required_in ms else required_in ms

-- the words of a table
abbrev pub words_in : List (List ℕ × List Member) → List (List ℕ)
words_in [] = []
words_in (choice ∷ choices) = choice.0 ∷ words_in choices

-- the words that a value may have where a word is asked
abbrev pub words_of : Shape → List (List ℕ)
words_of KindWord = words_in realm_table
words_of RuleWord = words_in (rule_table 0)
words_of RealmMapperWord = words_in realm_mapper_table
words_of RoleMapperWord = words_in (role_mapper_table 0)
words_of ModeWord = codes "first" ∷ codes "and" ∷ codes "or" ∷ codes "xor" ∷ codes "unless" ∷ []
words_of OpWord = codes "and" ∷ codes "or" ∷ codes "minus" ∷ codes "xor" ∷ []
words_of shape = []
