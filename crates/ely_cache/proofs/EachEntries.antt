-- For the callers: what holds of each entry of each cache holds of each after a call, and of what is found.
use Rattle.std.proofs.Common.{◌≡◌, ℕ, Bool, true, false, cond, List, [], ◌∷◌, ◌++◌, map, refl, sym, subst, Option, Some, None}
use Rattle.std.specs.List.{AllByRecursion}
use Rattle.std.specs.Option.{option_map}
use Rattle.std.specs.Str.{bytes_eq}
use Rattle.std.proofs.lemmas.Slice.Eq.{bytes_eq-Decides}
use Rattle.ely_cred.specs.Keys.{Ready}
use Rattle.ely_row.specs.declared.edit.Edit.{Edit}
use Rattle.ely_row.specs.declared.mech.Mech.{Mech}
use Rattle.ely_cache.specs.declared.caches.RealmCache.{RealmCache}
use Rattle.ely_cache.specs.declared.entry.Entry.{Entry}
use Rattle.ely_cache.specs.Caches.{EachEntry, at_cache, cache_of, kept_for, untouched_in, with_entries}
use Rattle.ely_cache.specs.Codes.{key_of}
use Rattle.ely_cache.specs.Entries.{entry_key, entry_of, has_key, offered, promoted}
use Rattle.ely_cache.proofs.KeptFacts.{each-find, each-offered, each-promoted, each-untouched}
use Rattle.ely_cache.proofs.Places.{same_key_of}

module _ (Q : List ℕ → Entry → Type 0) where
  -- a change of the realm's cache after which it holds there
  each-at_cache : (r : List ℕ) (change : ℕ → List Entry → List Entry)
      → ((r' : List ℕ) → bytes_eq r' r ≡ true → (limit : ℕ) (es : List Entry) → AllByRecursion (Q r') es → AllByRecursion (Q r') (change limit es))
      → (caches : List RealmCache) → EachEntry Q caches → EachEntry Q (at_cache r change caches)
  each-at_cache r change stays [] each = tt
  each-at_cache r change stays (c ∷ cs) each = by_test (bytes_eq c.realm r) refl (each-at_cache r change stays cs each.1)
    where
      by_test : (b : Bool) → bytes_eq c.realm r ≡ b → EachEntry Q (at_cache r change cs)
          → EachEntry Q (cond b (with_entries c (change c.cache.limit c.cache.entries) ∷ cs) (c ∷ at_cache r change cs))
      by_test true here later = (stays c.realm here c.cache.limit c.cache.entries each.0, each.1)
      by_test false other later = (each.0, later)

  pub each-at_promoted : (r key : List ℕ) (caches : List RealmCache) → EachEntry Q caches → EachEntry Q (at_cache r (λ limit. promoted key) caches)
  each-at_promoted r key caches each = each-at_cache r (λ limit. promoted key) (λ r' here limit es. each-promoted (Q r') key es) caches each

  pub each-at_offered : (r : List ℕ) (e : Entry) → ((r' : List ℕ) → bytes_eq r' r ≡ true → Q r' e)
      → (caches : List RealmCache) → EachEntry Q caches → EachEntry Q (at_cache r (λ limit. offered limit e) caches)
  each-at_offered r e new caches each =
      each-at_cache r (λ limit. offered limit e) (λ r' here limit es. each-offered (Q r') limit e es (new r' here)) caches each

  pub each-untouched_in : (edit : Edit) (caches : List RealmCache) → EachEntry Q caches → EachEntry Q (map (untouched_in edit) caches)
  each-untouched_in edit [] each = tt
  each-untouched_in edit (c ∷ cs) each = (each-untouched (Q c.realm) edit c.cache.entries each.0, each-untouched_in edit cs each.1)

  -- a cache without entries is added
  pub each-added : (caches : List RealmCache) (c : RealmCache) → c.cache.entries ≡ [] → EachEntry Q caches → EachEntry Q (caches ++ c ∷ [])
  each-added [] c none each = (subst (AllByRecursion (Q c.realm)) (sym none) tt, tt)
  each-added (d ∷ ds) c none each = (each.0, each-added ds c none each.1)

  -- an entry that is found has the realm and the key that were asked for
  pub each-found : (caches : List RealmCache) (r key : List ℕ) (c : RealmCache) (e : Entry) → EachEntry Q caches
      → cache_of caches r ≡ Some c → entry_of key c.cache.entries ≡ Some e → Q r e × (c.realm ≡ r) × (entry_key e ≡ key)
  each-found caches r key c e each cache entry =
      let there = each-find (λ (d : RealmCache). AllByRecursion (Q d.realm) d.cache.entries) (λ (d : RealmCache). bytes_eq d.realm r) caches c cache each in
      let one = each-find (Q c.realm) (has_key key) c.cache.entries e entry there.0 in
      let realm : c.realm ≡ r = (bytes_eq-Decides c.realm r).0 there.1 in
      (subst (λ (s : List ℕ). Q s e) realm one.0, realm, sym ((bytes_eq-Decides key (entry_key e)).0 one.1))

  module _ (caches : List RealmCache) (r name : List ℕ) (mech : Mech) (ready : Ready) (each : EachEntry Q caches) where
    -- an entry of theirs with this key, of which it holds
    abbrev HasEntry : Type 0
    HasEntry = (e : Entry) × Q r e × (e.name ≡ name) × (e.mech ≡ mech) × (e.ready ≡ ready)

    in_cache : (c : RealmCache) → cache_of caches r ≡ Some c → (entry : Option Entry) → entry_of (key_of name mech) c.cache.entries ≡ entry
        → Some (option_map (λ (e : Entry). e.ready) entry) ≡ Some (Some ready) → HasEntry
    in_cache c cache None entry kept = absurd cc
    in_cache c cache (Some e) entry kept =
        let found = each-found caches r (key_of name mech) c e each cache entry in
        let same = same_key_of e.name name e.mech mech found.2 in
        let is : e.ready ≡ ready = cc in
        (e, found.0, same.0, same.1, is)

    -- what is kept for a name and a mechanism is the key of an entry of theirs
    pub each-kept : kept_for caches r (key_of name mech) ≡ Some (Some ready)
        → (e : Entry) × Q r e × (e.name ≡ name) × (e.mech ≡ mech) × (e.ready ≡ ready)
    each-kept kept = by_cache (cache_of caches r) refl kept
      where
        by_cache : (cache : Option RealmCache) → cache_of caches r ≡ cache
            → option_map (λ (c : RealmCache). option_map (λ (e : Entry). e.ready) (entry_of (key_of name mech) c.cache.entries)) cache ≡ Some (Some ready) → HasEntry
        by_cache None cache kept = absurd cc
        by_cache (Some c) cache kept = in_cache c cache (entry_of (key_of name mech) c.cache.entries) refl kept
