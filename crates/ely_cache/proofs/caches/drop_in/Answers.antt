use Rattle.std.proofs.Common.{get_or, set, sym, ap, ◌∙◌}
use Rattle.std.proofs.lemmas.List.Edits.{map_over_more}
use Rattle.ely_cache.specs.declared.caches.RealmCache.{RealmCache}
use Rattle.ely_cache.specs.Entries.{Entries}
use Rattle.ely_cache.specs.Caches.{untouched_in}
use Rattle.ely_cache.proofs.caches.drop_in.Goals as goal

pub loop-found-preserved : goal.loop-found-preserved
loop-found-preserved c =
    let edit = c.args.edit.now in
    let cs = c.loop-found.caches in
    let i = c.loop-found.found-index in
    let old : RealmCache = get_or cs i c.found-item.result in
    ap (λ (x : RealmCache). set cs i x)
    (ap (λ (es : Entries). record { realm = old.realm; cache = es }) c.drop_touched.ensures ∙ ap (untouched_in edit) (sym c.found-item.is))
    ∙ map_over_more (untouched_in edit) c.args.caches.now cs i c.found-item.result c.loop-found-test.true c.loop-found.invariant c.found-item.is
