-- How far each shape is above those that have no parts, so that a walk from shape to shape ends.
use Rattle.std.specs.Prelude.{ℕ, ◌+◌, ◌*◌, ◌<◌, ⊤}
use Rattle.ely_config_tree.specs.declared.shape.Shape.{Shape}
use Rattle.ely_config_tree.specs.declared.shape.Shape.TheVariants.{Root, Scram, Permissions, PermRow, PermRows, Realm, Realms, Rule, Rules, RealmMapper, RoleMapper, RoleMappers, Pair, Pairs, RolePair, RolePairs, Names, Grants, Name, AnyText, Text, DigestRealm, Salt, Number, Flag, KindWord, RuleWord, RealmMapperWord, RoleMapperWord, ModeWord, OpWord}
use Rattle.ely_config_tree.specs.declared.shape.Form.{Form}
use Rattle.ely_config_tree.specs.declared.shape.Form.TheVariants.{Leaf, List, Object}

-- the rank of a shape: the shapes of what stands in it have lower ranks
abbrev pub rank : Shape → ℕ
rank Root = 25
rank Scram = 1
rank Permissions = 4
rank PermRow = 2
rank PermRows = 3
rank Realm = 23
rank Realms = 24
rank (Rule levels) = 2 * levels + 3
rank (Rules levels) = 2 * levels + 4
rank RealmMapper = 3
rank (RoleMapper levels) = 2 * levels + 4
rank (RoleMappers levels) = 2 * levels + 5
rank Pair = 1
rank Pairs = 2
rank RolePair = 2
rank RolePairs = 3
rank (Names least most) = 1
rank Grants = 1
rank Name = 0
rank AnyText = 0
rank (Text least most) = 0
rank DigestRealm = 0
rank Salt = 0
rank (Number least most) = 0
rank Flag = 0
rank KindWord = 0
rank RuleWord = 0
rank RealmMapperWord = 0
rank RoleMapperWord = 0
rank ModeWord = 0
rank OpWord = 0

-- the items of an array have lower ranks than the array
abbrev pub IsLower : Shape → Form → Type 0
IsLower s Leaf = ⊤
IsLower s (List list) = (rank list.first < rank s) × (rank list.later < rank s)
IsLower s Object = ⊤
