use Rattle.std.proofs.Common.{◌≡◌, ◌++◌, map, take, drop}
use Rattle.ely_cache.specs.Caches.{untouched_in}
use Rattle.ely_cache.proofs.caches.drop_in.Given as goal

-- the caches so far are changed, and those that are left aren't
abbrev pub invariant-loop-found : goal.invariant-loop-found
invariant-loop-found l = l.caches ≡ map (untouched_in l.edit) (take l.found-index l.initial.caches) ++ drop l.found-index l.initial.caches
