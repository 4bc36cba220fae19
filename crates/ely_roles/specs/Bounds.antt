-- How deep role mappers nest, and how many members their lists have.
use Rattle.std.specs.Prelude.{ℕ, ◌-◌, ◌&&◌, Bool, true, nat_le, nat_lt, List, length, Option}
use Rattle.std.specs.List.{list_all}
use Rattle.std.specs.Option.{option_map_or}
use Rattle.ely_roles.specs.Mappers.{Pair}
use Rattle.ely_roles.specs.declared.mapper.RoleMapper.{RoleMapper, fold-RoleMapper}
use Rattle.ely_roles.specs.declared.mapper.RoleMapper.TheOpen.{RoleMapper-F}
use Rattle.ely_roles.specs.declared.mapper.RoleMapper.TheOpen.RoleMapper-F.{Constant, Aggregate, Logical, Mapped}

-- a list has 0 to 64 members
abbrev pub length_fits : {A : Type 0} → List A → Bool
length_fits members = nat_le (length members) 64

-- each pair has 0 to 64 targets
abbrev pub targets_fit : List Pair → Bool
targets_fit pairs = list_all (λ pair. length_fits pair.1) pairs

-- there are 0 to 64 pairs, each with 0 to 64 targets
abbrev pub pairs_fit : List Pair → Bool
pairs_fit pairs = length_fits pairs && targets_fit pairs

-- there are 0 to 64 mappers, and each passes its own test with the levels that are left for it
abbrev pub each_fits : List (ℕ → Bool) → ℕ → Bool
each_fits tests levels = length_fits tests && list_all (λ test. test levels) tests

-- a mapper on one side fits: where it is there, it passes its own test
abbrev pub side_fits : Option (ℕ → Bool) → ℕ → Bool
side_fits side levels = option_map_or (λ test. test levels) side true

-- what is in a form fits, with the levels that are left below it and each mapper inside already seen as its own test
abbrev pub members_fit : RoleMapper-F (ℕ → Bool) → ℕ → Bool
members_fit (Constant roles) levels = length_fits roles
members_fit (Aggregate of) levels = each_fits of levels
members_fit (Logical op left right) levels = side_fits left levels && side_fits right levels
members_fit (Mapped pairs keep_mapped keep_non_mapped) levels = pairs_fit pairs
members_fit _ levels = true

-- one level of the test, with the levels that are left: where none is left, nothing fits
abbrev pub fits_form : RoleMapper-F (ℕ → Bool) → ℕ → Bool
fits_form form levels = nat_lt 0 levels && members_fit form (levels - 1)

-- a mapper nests no deeper than so many levels, and its lists and those of the mappers in it have 0 to 64 members
abbrev pub fits_within : RoleMapper → ℕ → Bool
fits_within = fold-RoleMapper (ℕ → Bool) fits_form

-- a mapper keeps to the bounds: with those in it, it nests at most 8 deep
abbrev pub fits : RoleMapper → Bool
fits mapper = fits_within mapper 8
