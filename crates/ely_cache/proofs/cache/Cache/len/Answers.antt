use Rattle.ely_cache.specs.Resting.{get_by_bytes}
use Rattle.ely_cache.proofs.Beginnings.{apart_of}
use Rattle.ely_cache.proofs.cache.Cache.len.Goals as goal

pub returns-clause-apart : goal.returns-clause-apart
returns-clause-apart c =
    let s = c.self.inside.slots in
    rw (← c.self.view_is) (apart_of s.order.entries (get_by_bytes s.index) c.self.invariant.tied.numbers.listed c.self.invariant.tied.numbers.numbered)
