-- The shapes of an object's members have lower ranks than the object's.
use Rattle.std.proofs.Common.{◌≡◌, ◌<◌, ◌-◌, ◌+◌, ◌*◌, ℕ, zero, suc, Bool, true, false, List, [], ◌∷◌, Option, Some, IfSome, arith, if◌then◌else◌, rules}
use Rattle.std.specs.List.{AllByRecursion}
use Rattle.std.specs.Str.{bytes_eq}
use Rattle.ely_config_tree.specs.declared.shape.Shape.{Shape}
use Rattle.ely_config_tree.specs.declared.shape.Shape.TheVariants.{Root, Scram, Permissions, PermRow, Realm, Rule, RealmMapper, RoleMapper}
use Rattle.ely_config_tree.specs.declared.shape.Form.TheVariants.{Leaf, Object}
use Rattle.ely_config_tree.specs.Ranks.{rank}
use Rattle.ely_config_tree.specs.Shapes.{form_of}
use Rattle.ely_config_tree.proofs.Tables.{in_table}
use Rattle.ely_config_tree.specs.Table.{Member, members_in, members_of, realm_mapper_table, realm_table, role_mapper_table, rule_table, shape_in}

-- each member's shape is below a rank
abbrev AreLow : ℕ → List Member → Type 0
AreLow n ms = AllByRecursion (λ m. rank m.shape < n) ms

-- a shape that was found is below it
abbrev IsLowIn : ℕ → Option Shape → Type 0
IsLowIn n found = IfSome found (λ t. rank t < n)

either_low : (n : ℕ) (b : Bool) (s : Shape) (other : Option Shape) → rank s < n → IsLowIn n other → IsLowIn n (if b then Some s else other)
either_low n true s other h hs = h
either_low n false s other h hs = hs

shape_in_low : (n : ℕ) (ms : List Member) (name : List ℕ) → AreLow n ms → IsLowIn n (shape_in ms name)
shape_in_low n [] name h = tt
shape_in_low n (m ∷ ms) name h = either_low n (bytes_eq name m.name) m.shape (shape_in ms name) h.0 (shape_in_low n ms name h.1)

realm_low : AllByRecursion (λ choice. AreLow 23 choice.1) realm_table
realm_low = search rules

rule_low : (n below : ℕ) → n ≡ 2 * below + 5 → AllByRecursion (λ choice. AreLow n choice.1) (rule_table below)
rule_low n below e = search (rules, arith)

realm_mapper_low : AllByRecursion (λ choice. AreLow 3 choice.1) realm_mapper_table
realm_mapper_low = search rules

role_mapper_low : (n below : ℕ) → n ≡ 2 * below + 6 → AllByRecursion (λ choice. AreLow n choice.1) (role_mapper_table below)
role_mapper_low n below e = search (rules, arith)

rule_members_low : (levels : ℕ) (word : List ℕ) → form_of (Rule levels) ≡ Object → AreLow (rank (Rule levels)) (members_in (rule_table (levels - 1)) word)
rule_members_low zero word e = absurd (let bad : Leaf ≡ Object = e in (cc))
rule_members_low (suc n) word e = in_table (AreLow (rank (Rule (suc n)))) tt (rule_table (suc n - 1)) word (rule_low _ (suc n - 1) (omega arith))

role_mapper_members_low : (levels : ℕ) (word : List ℕ) → form_of (RoleMapper levels) ≡ Object → AreLow (rank (RoleMapper levels)) (members_in (role_mapper_table (levels - 1)) word)
role_mapper_members_low zero word e = absurd (let bad : Leaf ≡ Object = e in (cc))
role_mapper_members_low (suc n) word e = in_table (AreLow (rank (RoleMapper (suc n)))) tt (role_mapper_table (suc n - 1)) word (role_mapper_low _ (suc n - 1) (omega arith))

-- the members that an object may have are below it
members_low : (shape : Shape) (word : List ℕ) → form_of shape ≡ Object → AreLow (rank shape) (members_of shape word)
members_low Root word e = search rules
members_low Scram word e = search rules
members_low Permissions word e = search rules
members_low PermRow word e = search rules
members_low Realm word e = in_table (AreLow 23) tt realm_table word realm_low
members_low (Rule levels) word e = rule_members_low levels word e
members_low RealmMapper word e = in_table (AreLow 3) tt realm_mapper_table word realm_mapper_low
members_low (RoleMapper levels) word e = role_mapper_members_low levels word e
members_low shape word e = tt

-- what stands beside the discriminator is below the object
pub listed_low : (shape : Shape) (word name : List ℕ) → form_of shape ≡ Object → IfSome (shape_in (members_of shape word) name) (λ t. rank t < rank shape)
listed_low shape word name e = shape_in_low (rank shape) (members_of shape word) name (members_low shape word e)
