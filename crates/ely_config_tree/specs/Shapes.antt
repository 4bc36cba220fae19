-- What each shape of a value asks for: an array, an object, or a value without parts.
use Rattle.std.specs.Prelude.{ℕ, ◌==◌, if◌then◌else◌}
use Rattle.ely_config_tree.specs.declared.shape.Shape.{Shape}
use Rattle.ely_config_tree.specs.declared.shape.Shape.TheVariants.{Root, Scram, Permissions, PermRow, PermRows, Realm, Realms, Rule, Rules, RealmMapper, RoleMapper, RoleMappers, Pair, Pairs, RolePair, RolePairs, Names, Grants, Name, AnyText, Text, DigestRealm, Salt, Number, Flag, KindWord, RuleWord, RealmMapperWord, RoleMapperWord, ModeWord, OpWord}
use Rattle.ely_config_tree.specs.declared.shape.Form.{Form}
use Rattle.ely_config_tree.specs.declared.shape.Form.TheVariants.{Leaf, List, Object}

-- an array of least to most items of one shape
abbrev pub list_of : ℕ → ℕ → Shape → Form
list_of least most item = List (record { least = least; most = most; first = item; later = item })

-- an array of two items
abbrev pub pair_of : Shape → Shape → Form
pair_of first later = List (record { least = 2; most = 2; first = first; later = later })

-- an object, where a level is left for it
abbrev pub object_within : ℕ → Form
object_within levels = if levels == 0 then Leaf else Object

-- what the shape asks for
abbrev pub form_of : Shape → Form
form_of Root = Object
form_of Scram = Object
form_of Permissions = Object
form_of PermRow = Object
form_of PermRows = list_of 0 64 PermRow
form_of Realm = Object
form_of Realms = list_of 1 16 Realm
form_of (Rule levels) = object_within levels
form_of (Rules levels) = list_of 1 64 (Rule levels)
form_of RealmMapper = Object
form_of (RoleMapper levels) = object_within levels
form_of (RoleMappers levels) = list_of 0 64 (RoleMapper levels)
form_of Pair = pair_of Name Name
form_of Pairs = list_of 1 64 Pair
form_of RolePair = pair_of Name (Names 0 64)
form_of RolePairs = list_of 0 64 RolePair
form_of (Names least most) = list_of least most Name
form_of Grants = list_of 0 64 (Text 1 255)
form_of Name = Leaf
form_of AnyText = Leaf
form_of (Text least most) = Leaf
form_of DigestRealm = Leaf
form_of Salt = Leaf
form_of (Number least most) = Leaf
form_of Flag = Leaf
form_of KindWord = Leaf
form_of RuleWord = Leaf
form_of RealmMapperWord = Leaf
form_of RoleMapperWord = Leaf
form_of ModeWord = Leaf
form_of OpWord = Leaf
