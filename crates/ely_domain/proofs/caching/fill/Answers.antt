use Rattle.std.proofs.Common.{sym, ap, ap₂, subst, ◌∙◌}
use Rattle.ely_cache.specs.Caches.{at_cache}
use Rattle.ely_cache.specs.Entries.{offered}
use Rattle.ely_domain.specs.Caches.{AreCurrent, lists_of}
use Rattle.ely_domain.proofs.CacheLists.{entry, filled_current, lists_filled}
use Rattle.ely_domain.proofs.caching.fill.Goals as goal

pub returns-in-Kept-clause-lists : goal.returns-in-Kept-clause-lists
returns-in-Kept-clause-lists c =
    let place = c.args.place.now in
    let same = ap₂ (λ name ready. at_cache place.realm (λ limit. offered limit (entry name c.args.mech ready c.args.rests)) c.args.caches.now)
    c.in-Ok.ensures c.in-Ok-copy.ensures in
    ap lists_of (c.offer.ensures.kept c.in-Kept.is ∙ same)
    ∙ lists_filled place.realm (entry place.name c.args.mech c.args.ready.now c.args.rests) c.args.caches.now

pub returns-in-Kept-clause-current : goal.returns-in-Kept-clause-current
returns-in-Kept-clause-current c = λ known rests key are.
    let place = c.args.place.now in
    let same = ap₂ (λ name ready. at_cache place.realm (λ limit. offered limit (entry name c.args.mech ready c.args.rests)) c.args.caches.now)
    c.in-Ok.ensures c.in-Ok-copy.ensures in
    subst (AreCurrent known) (sym (c.offer.ensures.kept c.in-Kept.is ∙ same))
    (filled_current known c.args.caches.now are place c.args.mech c.args.ready.now c.args.rests rests key)
