-- What a role mapper makes of a set of roles.
use Rattle.std.specs.Prelude.{ℕ, ◌&&◌, ◌||◌, Bool, not, if◌then◌else◌, nat_le, List, [], ◌∷◌, ◌++◌, length, map, filter, Option, Some, None}
use Rattle.std.specs.List.{list_any, flat_map}
use Rattle.std.specs.Str.{bytes_eq}
use Rattle.ely_row.specs.Sets.{as_set, is_among}
use Rattle.ely_roles.specs.declared.mapper.SetOp.{SetOp}
use Rattle.ely_roles.specs.declared.mapper.SetOp.TheVariants.{And, Or, Minus, Xor}
use Rattle.ely_roles.specs.declared.mapper.RoleMapper.{RoleMapper, fold-RoleMapper}
use Rattle.ely_roles.specs.declared.mapper.RoleMapper.TheOpen.{RoleMapper-F}
use Rattle.ely_roles.specs.declared.mapper.RoleMapper.TheOpen.RoleMapper-F.{Constant, AddPrefix, AddSuffix, Aggregate, Logical, Mapped}

-- a name, by its bytes
abbrev pub Name : Type 0
Name = List ℕ

-- names, which are a set where they rise and none stands twice
abbrev pub Names : Type 0
Names = List Name

-- a role and its targets
abbrev pub Pair : Type 0
Pair = Name × Names

-- ---- texts before and behind

-- no longer than a name may be
abbrev pub is_short : Name → Bool
is_short name = nat_le (length name) 255

-- each role with the text before it; a role that would be too long is left out
abbrev pub with_prefix : Name → Names → Names
with_prefix text set = as_set (filter is_short (map (λ role. text ++ role) set))

-- each role with the text behind it; a role that would be too long is left out
abbrev pub with_suffix : Name → Names → Names
with_suffix text set = as_set (filter is_short (map (λ role. role ++ text) set))

-- ---- two sets

-- a role is kept, by whether the left and the right have it
abbrev pub keeps : SetOp → Bool → Bool → Bool
keeps And left right = left && right
keeps Or left right = left || right
keeps Minus left right = left && not right
keeps Xor left right = if left then not right else right

-- the roles of either set that are kept
abbrev pub joined : SetOp → Names → Names → Names
joined op left right = filter (λ role. keeps op (is_among left role) (is_among right role)) (as_set (left ++ right))

-- ---- pairs

-- the role has a pair
abbrev pub is_paired : List Pair → Name → Bool
is_paired pairs role = list_any (λ pair. bytes_eq pair.0 role) pairs

-- a pair of the role has the name as a target
abbrev pub is_target : List Pair → Name → Name → Bool
is_target pairs role name = list_any (λ pair. bytes_eq pair.0 role && is_among pair.1 name) pairs

-- the targets of all pairs of the role
abbrev pub targets : List Pair → Name → Names
targets pairs role = flat_map (λ pair. pair.1) (filter (λ pair. bytes_eq pair.0 role) pairs)

-- the role itself is kept, as roles with a pair or roles without one are
abbrev pub is_kept : List Pair → Bool → Bool → Name → Bool
is_kept pairs keep_mapped keep_non_mapped role =
    if is_paired pairs role then keep_mapped else keep_non_mapped

-- what is given for one role: its targets, and the role itself where it is kept
abbrev pub given : List Pair → Bool → Bool → Name → Names
given pairs keep_mapped keep_non_mapped role =
    targets pairs role ++ (if is_kept pairs keep_mapped keep_non_mapped role then role ∷ [] else [])

-- what is given for the roles of a set
abbrev pub mapped : List Pair → Bool → Bool → Names → Names
mapped pairs keep_mapped keep_non_mapped set = as_set (flat_map (given pairs keep_mapped keep_non_mapped) set)

-- ---- mappers

-- one after the other
abbrev pub in_turn : List (Names → Names) → Names → Names
in_turn [] set = set
in_turn (f ∷ fs) set = in_turn fs (f set)

-- the set itself where no mapper is there
abbrev pub or_same : Option (Names → Names) → Names → Names
or_same None set = set
or_same (Some f) set = f set

-- what a form makes of a set, each mapper inside already seen as what it makes of sets
abbrev pub mapped_by_form : RoleMapper-F (Names → Names) → Names → Names
mapped_by_form (Constant roles) set = as_set roles
mapped_by_form (AddPrefix text) set = with_prefix text set
mapped_by_form (AddSuffix text) set = with_suffix text set
mapped_by_form (Aggregate of) set = in_turn of set
mapped_by_form (Logical op left right) set = joined op (or_same left set) (or_same right set)
mapped_by_form (Mapped pairs keep_mapped keep_non_mapped) set = mapped pairs keep_mapped keep_non_mapped set

-- what a mapper makes of a set
abbrev pub mapped_by : RoleMapper → Names → Names
mapped_by = fold-RoleMapper (Names → Names) mapped_by_form
