-- The members of each object stand in the order of their names' bytes.
use Rattle.std.proofs.Common.{ℕ, ◌-◌, List, map, rules}
use Rattle.std.specs.Cmp.Lexicographic.{slice_cmp}
use Rattle.std.specs.List.{AllByRecursion}
use Rattle.std.specs.List.Sorted.{IsStrictlySortedBy}
use Rattle.std.specs.Ordering.{nat_cmp}
use Rattle.ely_config_tree.specs.declared.shape.Shape.{Shape}
use Rattle.ely_config_tree.specs.declared.shape.Shape.TheVariants.{Root, Scram, Permissions, PermRow, Realm, Rule, RealmMapper, RoleMapper}
use Rattle.ely_config_tree.specs.Table.{Member, members_of, realm_mapper_table, realm_table, role_mapper_table, rule_table}
use Rattle.ely_config_tree.proofs.Tables.{in_table}

abbrev AreInOrder : List Member → Type 0
AreInOrder ms = IsStrictlySortedBy (slice_cmp nat_cmp) (map (λ m. m.name) ms)

realm_order : AllByRecursion (λ choice. AreInOrder choice.1) realm_table
unfolding IsStrictlySortedBy
realm_order = search rules

rule_order : (below : ℕ) → AllByRecursion (λ choice. AreInOrder choice.1) (rule_table below)
unfolding IsStrictlySortedBy
rule_order below = search rules

realm_mapper_order : AllByRecursion (λ choice. AreInOrder choice.1) realm_mapper_table
unfolding IsStrictlySortedBy
realm_mapper_order = search rules

role_mapper_order : (below : ℕ) → AllByRecursion (λ choice. AreInOrder choice.1) (role_mapper_table below)
unfolding IsStrictlySortedBy
role_mapper_order below = search rules

-- no member stands before one whose name is smaller or the same
pub members_order : (s : Shape) (word : List ℕ) → IsStrictlySortedBy (slice_cmp nat_cmp) (map (λ m. m.name) (members_of s word))
unfolding IsStrictlySortedBy
members_order Root word = search rules
members_order Scram word = search rules
members_order Permissions word = search rules
members_order PermRow word = search rules
members_order Realm word = in_table AreInOrder tt realm_table word realm_order
members_order (Rule levels) word = in_table AreInOrder tt (rule_table (levels - 1)) word (rule_order (levels - 1))
members_order RealmMapper word = in_table AreInOrder tt realm_mapper_table word realm_mapper_order
members_order (RoleMapper levels) word = in_table AreInOrder tt (role_mapper_table (levels - 1)) word (role_mapper_order (levels - 1))
members_order s word = tt
