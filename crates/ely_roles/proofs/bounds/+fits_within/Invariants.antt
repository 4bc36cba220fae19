use Rattle.std.proofs.Common.{◌≡◌, ℕ, Bool, drop, map}
use Rattle.std.specs.List.{list_all}
use Rattle.ely_roles.specs.Bounds.{fits_within}
use Rattle.ely_roles.proofs.bounds.+fits_within.Given as goal

-- the mappers that are left have the same answer as all of them
abbrev pub invariant-each_fits-loop-mapper : goal.invariant-each_fits-loop-mapper
invariant-each_fits-loop-mapper l =
    list_all (λ (test : ℕ → Bool). test l.levels) (map fits_within (drop l.mapper-index l.mappers))
    ≡ list_all (λ (test : ℕ → Bool). test l.levels) (map fits_within l.mappers)
