use Rattle.std.proofs.Common.{ap, refl}
use Rattle.ely_domain.specs.Contexts.{read_of}
use Rattle.ely_domain.proofs.Loadings.{caches_sized}
use Rattle.ely_domain.proofs.Moving.{nothing_sound}
use Rattle.ely_domain.proofs.domain.Domain.new.Goals as goal

pub first_caches-requires : goal.first_caches-requires
first_caches-requires c =
    let config = c.config-2.result.now in
    rw c.realms.ensures.value (caches_sized config.digest_realm config.realms c.realms.ensures.sound)

pub invariant_of-result : goal.invariant_of-result
invariant_of-result c =
    let known = read_of c.in_ok-planned.planned c.in_ok-tables.tables in (
      rw c.config.ensures at (ap (λ t. t.realms) c.in_ok-tables.ensures),
      nothing_sound known c.new-2.result c.new-3.result c.new-2.ensures,
      c.in_ok-caches.ensures.current known,
    )

pub returns : goal.returns
returns c =
    rw (
      c.in_ok-caches.ensures.lists,
      c.realms.ensures.value,
      c.config-2.ensures,
      c.in_ok-tables.ensures,
      c.config.ensures,
      c.in_ok-planned.ensures,
      c.new-2.ensures,
      c.in_ok-nonces.ensures,
    )
    refl
