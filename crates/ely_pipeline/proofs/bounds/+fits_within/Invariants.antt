use Rattle.std.proofs.Common.{◌≡◌, ℕ, Bool, drop, map}
use Rattle.std.specs.List.{list_all}
use Rattle.ely_pipeline.specs.Bounds.{fits_within}
use Rattle.ely_pipeline.proofs.bounds.+fits_within.Given as goal

-- the rules that are left have the same answer
abbrev pub invariant-each_fits-loop-rule : goal.invariant-each_fits-loop-rule
invariant-each_fits-loop-rule l =
    list_all (λ (test : ℕ → Bool). test l.levels) (map fits_within (drop l.rule-index l.rules))
    ≡ list_all (λ (test : ℕ → Bool). test l.levels) (map fits_within l.rules)
