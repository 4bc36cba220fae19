use Rattle.std.proofs.Common.{List, [], ◌++◌, ap, ◌∙◌}
use Rattle.std.specs.List.{cons_option}
use Rattle.ely_domain.specs.KeptKeys.{RealmKeys, first_list}
use Rattle.ely_domain.proofs.Loadings.{lists_next}
use Rattle.ely_domain.proofs.loading.first_caches.Goals as goal

pub loop-realm-preserved : goal.loop-realm-preserved
loop-realm-preserved c =
    let realm = c.realm-item.result in (
      c.in_ok-add_cache.ensures.lists
          ∙ ap (λ (lists : List RealmKeys). lists ++ cons_option (first_list realm.name realm.kind) []) c.loop-realm.invariant.0
          ∙ lists_next [] c.args.realms.now c.loop-realm.realm-index realm c.loop-realm-test.true c.realm-item.is,
      λ known. c.in_ok-add_cache.ensures.current known (c.loop-realm.invariant.1 known),
    )
