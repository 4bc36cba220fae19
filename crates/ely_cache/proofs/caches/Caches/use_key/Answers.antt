use Rattle.std.proofs.Common.{◌≡◌, ℕ, Some, None, sym, ◌∙◌, position}
use Rattle.std.specs.Str.{bytes_eq}
use Rattle.ely_cache.specs.declared.caches.RealmCache.{RealmCache}
use Rattle.ely_cache.specs.Codes.{key_of}
use Rattle.ely_cache.specs.Entries.{promoted}
use Rattle.ely_cache.proofs.RealmCaches.{changed_at, unchanged}
use Rattle.ely_cache.proofs.caches.Caches.use_key.Goals as goal

pub returns-in_default : goal.returns-in_default
returns-in_default c =
    let key = key_of c.args.name.now c.args.mech in
    let place : position (λ (x : RealmCache). bytes_eq x.realm c.args.realm.now) c.self.inside.caches.items ≡ None = rw (← c.as_slice.ensures.value) (sym c.place_of.ensures ∙ c.in_default.is) in
    rw (← c.self.view_is) (unchanged c.args.realm.now (λ (limit : ℕ). promoted key) c.self.inside.caches.items place)

pub returns-in-Some : goal.returns-in-Some
returns-in-Some c =
    let key = key_of c.args.name.now c.args.mech in
    let place : position (λ (x : RealmCache). bytes_eq x.realm c.args.realm.now) c.self.inside.caches.items ≡ Some c.in-Some.at = rw (← c.as_slice.ensures.value) (sym c.place_of.ensures ∙ c.in-Some.is) in
    rw (← c.self.view_is) (changed_at c.args.realm.now (λ (limit : ℕ). promoted key) c.self.inside.caches.items c.in-Some.at
    c.index_mut-found.result.now c.find.new.self place c.index_mut-found.ensures.value c.find.ensures.entries)
