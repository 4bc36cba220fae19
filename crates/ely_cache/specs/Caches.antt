-- The caches of all caching realms, and what the calls make of them.
use Rattle.std.specs.Prelude.{ℕ, if◌then◌else◌, List, [], ◌∷◌, find, Option, Some, None}
use Rattle.std.specs.List.{AllByRecursion}
use Rattle.std.specs.Option.{option_map}
use Rattle.std.specs.Str.{bytes_eq}
use Rattle.ely_row.specs.declared.edit.Edit.{Edit}
use Rattle.ely_cred.specs.Keys.{Ready}
use Rattle.ely_cache.specs.declared.caches.Peeked.{Peeked}
use Rattle.ely_cache.specs.declared.caches.Peeked.TheVariants as seen
use Rattle.ely_cache.specs.declared.caches.RealmCache.{RealmCache}
use Rattle.ely_cache.specs.declared.entry.Entry.{Entry}
use Rattle.ely_cache.specs.Entries.{entry_of, untouched}

-- the cache of the realm, the first of that name
abbrev pub cache_of : List RealmCache → List ℕ → Option RealmCache
cache_of caches r = find (λ c. bytes_eq c.realm r) caches

-- the same cache with other entries
abbrev pub with_entries : RealmCache → List Entry → RealmCache
with_entries c entries = record { realm = c.realm; cache = record { limit = c.cache.limit; entries = entries } }

-- the entries of the realm's cache, the first of that name, are changed so
abbrev pub at_cache : List ℕ → (ℕ → List Entry → List Entry) → List RealmCache → List RealmCache
at_cache r change [] = []
at_cache r change (c ∷ cs) =
    if bytes_eq c.realm r then with_entries c (change c.cache.limit c.cache.entries) ∷ cs else c ∷ at_cache r change cs

-- the cache keeps the entries that rest on no place that the edit touches
abbrev pub untouched_in : Edit → RealmCache → RealmCache
untouched_in edit c = with_entries c (untouched edit c.cache.entries)

-- what the realms' caches keep for the key: where the realm has no cache None, and inside where the cache has no entry
abbrev pub kept_for : List RealmCache → List ℕ → List ℕ → Option (Option Ready)
kept_for caches r key = option_map (λ c. option_map (λ e. e.ready) (entry_of key c.cache.entries)) (cache_of caches r)

-- what an answer says of that
abbrev pub peeked_key : Peeked → Option (Option Ready)
peeked_key seen.NoCache = None
peeked_key seen.Miss = Some None
peeked_key (seen.Hit ready) = Some (Some ready.now)

-- this holds of each entry of each cache, with the cache's realm
abbrev pub EachEntry : (List ℕ → Entry → Type 0) → List RealmCache → Type 0
EachEntry Q caches = AllByRecursion (λ c. AllByRecursion (Q c.realm) c.cache.entries) caches
