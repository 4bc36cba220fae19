use Rattle.std.proofs.Common.{◌≡◌, ℕ, Some, None, sym, ◌∙◌, position}
use Rattle.std.specs.Str.{bytes_eq}
use Rattle.ely_cache.specs.declared.caches.RealmCache.{RealmCache}
use Rattle.ely_cache.specs.declared.entry.Entry.{Entry}
use Rattle.ely_cache.specs.Entries.{offered}
use Rattle.ely_cache.proofs.RealmCaches.{changed_at, unchanged}
use Rattle.ely_cache.proofs.caches.Caches.offer.Goals as goal

pub returns-in_default-clause-kept : goal.returns-in_default-clause-kept
returns-in_default-clause-kept c = λ kept.
    let e : Entry = record { name = c.args.name; mech = c.args.mech; ready = c.args.ready; deps = c.args.deps } in
    let place : position (λ (x : RealmCache). bytes_eq x.realm c.args.realm.now) c.self.inside.caches.items ≡ None = rw (← c.as_slice.ensures.value) (sym c.place_of.ensures ∙ c.in_default.is) in
    rw (← c.self.view_is) (unchanged c.args.realm.now (λ (limit : ℕ). offered limit e) c.self.inside.caches.items place)

pub returns-clause-kept : goal.returns-clause-kept
returns-clause-kept c = λ kept.
    let e : Entry = record { name = c.args.name; mech = c.args.mech; ready = c.args.ready; deps = c.args.deps } in
    let place : position (λ (x : RealmCache). bytes_eq x.realm c.args.realm.now) c.self.inside.caches.items ≡ Some c.in-Some.at = rw (← c.as_slice.ensures.value) (sym c.place_of.ensures ∙ c.in-Some.is) in
    rw (← c.self.view_is) (changed_at c.args.realm.now (λ (limit : ℕ). offered limit e) c.self.inside.caches.items c.in-Some.at
    c.index_mut-found.result.now c.offer.new.self place c.index_mut-found.ensures.value (c.offer.ensures.kept kept))
