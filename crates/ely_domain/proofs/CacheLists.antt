-- The caches of all realms: their keys are the lists that are kept, and their entries are of now.
use Rattle.std.proofs.Common.{◌≡◌, ℕ, ◌+◌, ◌-◌, arith, Bool, true, false, cond, not, List, [], ◌∷◌, ◌++◌, map, length, Option, Some, None, refl, sym, ap, ap₂, subst, ◌∙◌}
use Rattle.std.specs.Prelude.{is_some, slice_get}
use Rattle.std.proofs.lemmas.Option.{slice_get-get_or}
use Rattle.std.proofs.Math.Seq.{get_or-append_seam}
use Rattle.std.specs.List.{AllByRecursion}
use Rattle.std.specs.Option.{option_map}
use Rattle.std.specs.Str.{bytes_eq}
use Rattle.std.proofs.lemmas.Slice.Eq.{bytes_eq-Decides}
use Rattle.std.proofs.lemmas.List.{length-append, map-append}
use Rattle.ely_cred.specs.Keys.{Ready}
use Rattle.ely_row.specs.declared.edit.Edit.{Edit}
use Rattle.ely_row.specs.declared.mech.Mech.{Mech}
use Rattle.ely_row.specs.Dependence.{touches}
use Rattle.ely_cache.specs.declared.caches.RealmCache.{RealmCache}
use Rattle.ely_cache.specs.declared.entry.Entry.{Entry}
use Rattle.ely_cache.specs.Caches.{at_cache, cache_of, kept_for, untouched_in}
use Rattle.ely_cache.specs.Codes.{key_of}
use Rattle.ely_cache.specs.Entries.{entry_of, promoted, offered, untouched}
use Rattle.ely_cache.proofs.EachEntries.{each-added, each-at_offered, each-at_promoted, each-kept}
use Rattle.ely_login.specs.declared.word.CacheWord.{CacheWord}
use Rattle.ely_login.specs.declared.word.CacheWord.TheVariants as words
use Rattle.ely_domain.specs.Caches.{AreCurrent, IsCurrent, key_in, keys_in, lists_of, place_in}
use Rattle.ely_pipeline.specs.declared.place.Place.{Place}
use Rattle.ely_domain.specs.Identities.{Known, deps, key_at}
use Rattle.ely_domain.specs.KeptKeys.{Key, RealmKeys, at_realm, dropped, filled, list_of, used, with_keys, word_in, untouched as untouched_keys}
use Rattle.ely_domain.proofs.KeyLists.{code_of, has_entry, keys_promoted, keys_offered}
use Rattle.ely_domain.proofs.Touching.{key_kept}

-- an entry of its parts
abbrev pub entry : List ℕ → Mech → Ready → List (List ℕ × List ℕ) → Entry
entry name mech ready places = record { name = name; mech = mech; ready = ready; deps = places }

-- the list of a realm is that of its cache
pub list_is : (caches : List RealmCache) (r : List ℕ) → list_of (lists_of caches) r ≡ option_map keys_in (cache_of caches r)
list_is [] r = refl
list_is (c ∷ cs) r = by_test (list_is cs r) (bytes_eq c.realm r)
  where
    by_test : list_of (lists_of cs) r ≡ option_map keys_in (cache_of cs r) → (b : Bool)
        → cond b (Some (keys_in c)) (list_of (lists_of cs) r) ≡ option_map keys_in (cond b (Some c) (cache_of cs r))
    by_test later true = refl
    by_test later false = later

-- a change of the entries of a realm's cache changes its keys, where it is one of keys
lists_at : (r : List ℕ) (change : ℕ → List Entry → List Entry) (by_keys : ℕ → List Key → List Key)
    → ((limit : ℕ) (es : List Entry) → map key_in (change limit es) ≡ by_keys limit (map key_in es))
    → (caches : List RealmCache) → lists_of (at_cache r change caches) ≡ at_realm r by_keys (lists_of caches)
lists_at r change by_keys same [] = refl
lists_at r change by_keys same (c ∷ cs) = by_test (lists_at r change by_keys same cs) (bytes_eq c.realm r)
  where
    by_test : lists_of (at_cache r change cs) ≡ at_realm r by_keys (lists_of cs) → (b : Bool)
        → lists_of (cond b ((record { realm = c.realm; cache = record { limit = c.cache.limit; entries = change c.cache.limit c.cache.entries } }) ∷ cs) (c ∷ at_cache r change cs))
        ≡ cond b (with_keys (keys_in c) (by_keys c.cache.limit (keys_in c).keys) ∷ lists_of cs) (keys_in c ∷ at_realm r by_keys (lists_of cs))
    by_test later true = ap (λ ks. (let l : RealmKeys = record { realm = c.realm; limit = c.cache.limit; keys = ks } in l) ∷ lists_of cs) (same c.cache.limit c.cache.entries)
    by_test later false = ap (λ ls. keys_in c ∷ ls) later

pub lists_used : (r : List ℕ) (key : Key) (caches : List RealmCache)
    → lists_of (at_cache r (λ limit. promoted (code_of key)) caches) ≡ at_realm r (λ limit. used key) (lists_of caches)
lists_used r key caches = lists_at r (λ limit. promoted (code_of key)) (λ limit. used key) (λ limit es. keys_promoted key es) caches

pub lists_filled : (r : List ℕ) (e : Entry) (caches : List RealmCache)
    → lists_of (at_cache r (λ limit. offered limit e) caches) ≡ at_realm r (λ limit. filled limit (key_in e)) (lists_of caches)
lists_filled r e caches = lists_at r (λ limit. offered limit e) (λ limit. filled limit (key_in e)) (λ limit es. keys_offered limit e es) caches

-- ---- what is found

-- the word of what is kept
abbrev pub word_found : Option (Option Ready) → CacheWord
word_found None = words.Dash
word_found (Some None) = words.Miss
word_found (Some (Some ready)) = words.Hit

pub word_is : (caches : List RealmCache) (r name : List ℕ) (mech : Mech)
    → word_found (kept_for caches r (key_of name mech)) ≡ word_in (list_of (lists_of caches) r) (record { name = name; mech = mech })
word_is caches r name mech = by (cache_of caches r) ∙ ap (λ l. word_in l (record { name = name; mech = mech })) (sym (list_is caches r))
  where
    by_entry : (entry : Option Entry) → word_found (Some (option_map (λ (e : Entry). e.ready) entry)) ≡ cond (is_some entry) words.Hit words.Miss
    by_entry None = refl
    by_entry (Some e) = refl

    by : (found : Option RealmCache)
        → word_found (option_map (λ (c : RealmCache). option_map (λ (e : Entry). e.ready) (entry_of (key_of name mech) c.cache.entries)) found)
        ≡ word_in (option_map keys_in found) (record { name = name; mech = mech })
    by None = refl
    by (Some c) =
        by_entry (entry_of (key_of name mech) c.cache.entries)
        ∙ ap (λ b. cond b words.Hit words.Miss) (sym (has_entry (record { name = name; mech = mech }) c.cache.entries))

module _ (known : Known) (caches : List RealmCache) (are : AreCurrent known caches) where
  -- a key that is found is the one of now
  pub found_current : (place : Place) (mech : Mech) (ready : Ready) → kept_for caches place.realm (key_of place.name mech) ≡ Some (Some ready)
      → key_at known mech (length known.edits) place ≡ Some ready
  found_current place mech ready kept =
      let found = each-kept (IsCurrent known) caches place.realm place.name mech ready are kept in
      subst (λ (n : List ℕ). key_at known mech (length known.edits) (place_in place.realm n) ≡ Some ready) found.2
      (subst (λ (m : Mech). key_at known m (length known.edits) (place_in place.realm found.0.name) ≡ Some ready) found.3 (found.1.ready_is ∙ ap Some found.4))

  -- the entries stay of now where one is used, and where one of now is added
  pub used_current : (r code : List ℕ) → AreCurrent known (at_cache r (λ limit. promoted code) caches)
  used_current r code = each-at_promoted (IsCurrent known) r code caches are

  pub filled_current : (place : Place) (mech : Mech) (ready : Ready) (places : List (List ℕ × List ℕ)) → places ≡ deps known place
      → key_at known mech (length known.edits) place ≡ Some ready
      → AreCurrent known (at_cache place.realm (λ limit. offered limit (record { name = place.name; mech = mech; ready = ready; deps = places })) caches)
  filled_current place mech ready places rests key =
      each-at_offered (IsCurrent known) place.realm (record { name = place.name; mech = mech; ready = ready; deps = places })
      (λ r here. subst (λ (s : List ℕ). IsCurrent known s (record { name = place.name; mech = mech; ready = ready; deps = places }))
      (sym ((bytes_eq-Decides r place.realm).0 here)) (record { deps_are = rests; ready_is = key })) caches are

  -- an empty cache is added
  pub added_current : (c : RealmCache) → c.cache.entries ≡ [] → AreCurrent known (caches ++ c ∷ [])
  added_current c none = each-added (IsCurrent known) caches c none are

pub lists_added : (caches : List RealmCache) (c : RealmCache) → lists_of (caches ++ c ∷ []) ≡ lists_of caches ++ keys_in c ∷ []
lists_added caches c = map-append keys_in caches (c ∷ [])

-- ---- an edit

module _ (known : Known) (edit : Edit) where
  abbrev more : Known
  more = record { given = known.given; edits = known.edits ++ edit ∷ [] }

  -- an entry that the edit doesn't touch stays of now
  entry_stays : (r : List ℕ) (e : Entry) → IsCurrent known r e → touches edit e.deps ≡ false → IsCurrent more r e
  entry_stays r e is apart =
      let none : touches edit (deps known (place_in r e.name)) ≡ false = ap (touches edit) (sym is.deps_are) ∙ apart in
      record { deps_are = is.deps_are; ready_is = key_kept known e.mech (place_in r e.name) edit none ∙ is.ready_is }

  entries_stay : (r : List ℕ) (es : List Entry) → AllByRecursion (IsCurrent known r) es → AllByRecursion (IsCurrent more r) (untouched edit es)
  entries_stay r [] are = tt
  entries_stay r (e ∷ es) are = by_test (touches edit e.deps) refl (entries_stay r es are.1)
    where
      by_test : (b : Bool) → touches edit e.deps ≡ b → AllByRecursion (IsCurrent more r) (untouched edit es)
          → AllByRecursion (IsCurrent more r) (cond (not b) (e ∷ untouched edit es) (untouched edit es))
      by_test true touched rest = rest
      by_test false apart rest = (entry_stays r e are.0 apart, rest)

  -- and so do the entries of all caches
  pub current_stays : (caches : List RealmCache) → AreCurrent known caches → AreCurrent more (map (untouched_in edit) caches)
  current_stays [] are = tt
  current_stays (c ∷ cs) are = (entries_stay c.realm c.cache.entries are.0, current_stays cs are.1)

  -- a key before others, where its entry isn't touched
  abbrev left : Bool → Entry → List Key → List Key
  left touched e keys = cond (not touched) (key_in e ∷ keys) keys

  keys_stay : (r : List ℕ) (es : List Entry) → AllByRecursion (IsCurrent known r) es
      → map key_in (untouched edit es) ≡ untouched_keys known.given.config.realms r edit (map key_in es)
  keys_stay r [] are = refl
  keys_stay r (e ∷ es) are =
      by_test (touches edit e.deps) (untouched_keys known.given.config.realms r edit (map key_in es)) (keys_stay r es are.1)
      ∙ ap (λ places. left (touches edit places) e (untouched_keys known.given.config.realms r edit (map key_in es))) are.0.deps_are
    where
      by_test : (b : Bool) (rest : List Key) → map key_in (untouched edit es) ≡ rest
          → map key_in (cond (not b) (e ∷ untouched edit es) (untouched edit es)) ≡ left b e rest
      by_test true rest later = later
      by_test false rest later = ap (λ ks. key_in e ∷ ks) later

  -- the keys that are left are those that the edit doesn't touch
  pub lists_dropped : (caches : List RealmCache) → AreCurrent known caches
      → lists_of (map (untouched_in edit) caches) ≡ dropped known.given.config.realms edit (lists_of caches)
  lists_dropped [] are = refl
  lists_dropped (c ∷ cs) are =
      ap₂ (λ ks ls. (let l : RealmKeys = record { realm = c.realm; limit = c.cache.limit; keys = ks } in l) ∷ ls)
      (keys_stay c.realm c.cache.entries are.0) (lists_dropped cs are.1)

-- the last of some edits
pub last_is : (edits : List Edit) (edit : Edit) → slice_get (edits ++ edit ∷ []) (length (edits ++ edit ∷ []) - 1) ≡ Some edit
last_is edits edit =
    let count : length (edits ++ edit ∷ []) - 1 ≡ length edits = omega (arith, length-append edits (edit ∷ [])) in
    subst (λ n. slice_get (edits ++ edit ∷ []) n ≡ Some edit) (sym count)
    (slice_get-get_or (edits ++ edit ∷ []) (length edits) edit (omega (arith, length-append edits (edit ∷ [])))
    ∙ ap Some (get_or-append_seam edits edit [] edit))
