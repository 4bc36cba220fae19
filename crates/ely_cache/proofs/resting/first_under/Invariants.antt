use Rattle.ely_cache.proofs.Ranges.{IsLeft}
use Rattle.ely_cache.proofs.resting.first_under.Given as goal

-- what the range still gives
abbrev pub invariant-loop-code : goal.invariant-loop-code
invariant-loop-code l = IsLeft l.start.items l.resting l.code-iterator
