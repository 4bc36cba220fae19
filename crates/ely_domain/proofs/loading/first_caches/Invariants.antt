use Rattle.std.proofs.Common.{◌≡◌, take}
use Rattle.ely_domain.specs.Caches.{AreCurrent, lists_of}
use Rattle.ely_domain.specs.Identities.{Known}
use Rattle.ely_domain.specs.KeptKeys.{first_lists}
use Rattle.ely_domain.proofs.loading.first_caches.Given as goal

-- the caches of the realms up to here are there, and nothing is in them
abbrev pub invariant-loop-realm : goal.invariant-loop-realm
invariant-loop-realm l = (lists_of l.caches ≡ first_lists (take l.realm-index l.realms)) × ((known : Known) → AreCurrent known l.caches)
