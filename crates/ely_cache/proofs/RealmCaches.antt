-- A write to the cache of a realm, at its place.
use Rattle.std.proofs.Common.{◌≡◌, ℕ, zero, suc, ◌<◌, ◌≤◌, Bool, true, false, cond, ltb, List, [], ◌∷◌, length, get_or, set, Option, Some, None, refl, sym, ap, ◌∙◌, ⊎_elim, arith, position}
use Rattle.std.specs.Prelude.{find}
use Rattle.std.specs.List.{position_or_len}
use Rattle.std.specs.Str.{bytes_eq}
use Rattle.std.proofs.lemmas.Bool.{cases_lt, lt-ltb}
use Rattle.std.proofs.lemmas.List.Folds.{find_at}
use Rattle.std.proofs.lemmas.List.Quantifiers.{position-Some}
use Rattle.std.proofs.lemmas.Option.{slice_get_past}
use Rattle.ely_cache.specs.declared.caches.RealmCache.{RealmCache}
use Rattle.ely_cache.specs.declared.entry.Entry.{Entry}
use Rattle.ely_cache.specs.Caches.{at_cache, cache_of, with_entries}
use Rattle.ely_cache.specs.Entries.{Entries}

none_past : (m n : ℕ) → ◌≡◌ {A = Option ℕ} None (cond (ltb m n) (Some m) None) → n ≤ m
none_past m n h = ⊎_elim (λ (l : m < n). absurd (grind (arith, lt-ltb m n l))) (λ (l : n ≤ m). l) (cases_lt m n)

-- nothing is found where there is no first place
none_at : {X : Type 0} (p : X → Bool) (xs : List X) → position p xs ≡ None → find p xs ≡ None
none_at p xs h = find_at p xs ∙ slice_get_past xs (position_or_len p xs) (none_past _ _ (sym h))

module _ (r : List ℕ) (change : ℕ → List Entry → List Entry) where
  unchanged_from : (cs : List RealmCache) → cache_of cs r ≡ None → cs ≡ at_cache r change cs
  unchanged_from [] none = refl
  unchanged_from (c ∷ cs) none = by_test (unchanged_from cs) (bytes_eq c.realm r) none
    where
      by_test : (cache_of cs r ≡ None → cs ≡ at_cache r change cs) → (b : Bool) → cond b (Some c) (cache_of cs r) ≡ None
          → c ∷ cs ≡ cond b (with_entries c (change c.cache.limit c.cache.entries) ∷ cs) (c ∷ at_cache r change cs)
      by_test later true e = absurd cc
      by_test later false e = ap (λ (ds : List RealmCache). c ∷ ds) (later e)

  -- nothing is changed where the realm has no cache
  pub unchanged : (caches : List RealmCache) → position (λ (c : RealmCache). bytes_eq c.realm r) caches ≡ None
      → caches ≡ at_cache r change caches
  unchanged caches none = unchanged_from caches (none_at (λ (c : RealmCache). bytes_eq c.realm r) caches none)

  set_from : (cs : List RealmCache) (at : ℕ) (d new : RealmCache) → at < length cs
      → bytes_eq (get_or cs at d).realm r ≡ true → ((k : ℕ) → k < at → bytes_eq (get_or cs k d).realm r ≡ false)
      → new ≡ with_entries (get_or cs at d) (change (get_or cs at d).cache.limit (get_or cs at d).cache.entries)
      → set cs at new ≡ at_cache r change cs
  set_from [] at d new less here before is = absurd (omega arith)
  set_from (c ∷ cs) zero d new less here before is = rw here (ap (λ (x : RealmCache). x ∷ cs) is)
  set_from (c ∷ cs) (suc at) d new less here before is =
      let first : bytes_eq c.realm r ≡ false = before 0 (omega arith) in
      rw first (ap (λ (ds : List RealmCache). c ∷ ds) (set_from cs at d new (omega arith) here (λ (k : ℕ) (h : k < at). before (suc k) (omega arith)) is))

  -- the cache of the realm is changed, and the others aren't
  pub changed_at : (caches : List RealmCache) (at : ℕ) (old : RealmCache) (cache : Entries)
      → position (λ (c : RealmCache). bytes_eq c.realm r) caches ≡ Some at → old ≡ get_or caches at old
      → cache ≡ record { limit = old.cache.limit; entries = change old.cache.limit old.cache.entries }
      → set caches at (record { realm = old.realm; cache = cache }) ≡ at_cache r change caches
  changed_at caches at old cache place read is =
      let first = position-Some (λ (c : RealmCache). bytes_eq c.realm r) caches at old place in
      set_from caches at old (record { realm = old.realm; cache = cache }) first.0 first.1 first.2
      (ap (λ (es : Entries). (let new : RealmCache = record { realm = old.realm; cache = es } in new)) is
      ∙ ap (λ (c : RealmCache). with_entries c (change c.cache.limit c.cache.entries)) read)
