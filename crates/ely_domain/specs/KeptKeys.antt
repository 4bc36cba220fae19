-- The keys that caching realms keep: what a look-up finds, and what becomes of the lists.
use Rattle.std.specs.Prelude.{ℕ, ◌-◌, ◌&&◌, ◌==◌, Bool, true, false, if◌then◌else◌, nat_le, not, List, [], ◌∷◌, map, take, find, filter, Option, Some, None}
use Rattle.std.specs.List.{list_any, filter_map}
use Rattle.std.specs.Str.{bytes_eq}
use Rattle.ely_row.specs.declared.edit.Edit.{Edit}
use Rattle.ely_row.specs.declared.mech.Mech.{Mech}
use Rattle.ely_row.specs.Dependence.{touches}
use Rattle.ely_cache.specs.Codes.{mech_code}
use Rattle.ely_login.specs.declared.word.CacheWord.{CacheWord}
use Rattle.ely_login.specs.declared.word.CacheWord.TheVariants as words
use Rattle.ely_config.specs.declared.realm.RealmConfig.{RealmConfig}
use Rattle.ely_config.specs.declared.realm.RealmKind.{RealmKind}
use Rattle.ely_config.specs.declared.realm.RealmKind.TheVariants as kinds
use Rattle.ely_domain.specs.Plans.{deps_in}

-- whom a key is kept for, and for which mechanism
pub record Key : Type 0 where
  pub name : List ℕ
  pub mech : Mech

-- both are for the same name and mechanism
abbrev pub same_key : Key → Key → Bool
same_key key other = (mech_code key.mech == mech_code other.mech) && bytes_eq key.name other.name

-- a caching realm, how many keys it keeps at most, and those that it keeps, the last used first
pub record RealmKeys : Type 0 where
  pub realm : List ℕ
  pub limit : ℕ
  pub keys : List Key

-- a realm that keeps keys keeps 1 to 65,536
abbrev pub is_cache_sized : RealmKind → Bool
is_cache_sized (kinds.Caching of limit) = nat_le 1 limit && nat_le limit 65536
is_cache_sized _ = true

-- a caching realm keeps no key at first
abbrev pub first_list : List ℕ → RealmKind → Option RealmKeys
first_list r (kinds.Caching of limit) = Some (record { realm = r; limit = limit; keys = [] })
first_list r _ = None

abbrev pub first_lists : List RealmConfig → List RealmKeys
first_lists realms = filter_map (λ realm. first_list realm.name realm.kind) realms

-- ---- one list

abbrev pub has_key : Key → List Key → Bool
has_key key keys = list_any (same_key key) keys

abbrev pub without_key : Key → List Key → List Key
without_key key keys = filter (λ other. not (same_key key other)) keys

-- a key that is there comes to the front
abbrev pub used : Key → List Key → List Key
used key keys = if has_key key keys then key ∷ without_key key keys else keys

-- a key comes to the front, in place of an equal one, and the last goes that is past the limit
abbrev pub filled : ℕ → Key → List Key → List Key
filled limit key keys = key ∷ take (limit - 1) (without_key key keys)

-- the keys of this realm that rest on no place which the edit touches
abbrev pub untouched : List RealmConfig → List ℕ → Edit → List Key → List Key
untouched realms r edit keys = filter (λ key. not (touches edit (deps_in realms r key.name))) keys

-- ---- all lists

-- the list of the realm, where it is caching
abbrev pub list_of : List RealmKeys → List ℕ → Option RealmKeys
list_of lists r = find (λ l. bytes_eq l.realm r) lists

-- the same list with other keys
abbrev pub with_keys : RealmKeys → List Key → RealmKeys
with_keys l keys = record { realm = l.realm; limit = l.limit; keys = keys }

-- the keys of the realm are changed so, by its limit
abbrev pub at_realm : List ℕ → (ℕ → List Key → List Key) → List RealmKeys → List RealmKeys
at_realm r change [] = []
at_realm r change (l ∷ ls) = if bytes_eq l.realm r then with_keys l (change l.limit l.keys) ∷ ls else l ∷ at_realm r change ls

-- an edit takes away, in each realm, the keys that it touches
abbrev pub dropped : List RealmConfig → Edit → List RealmKeys → List RealmKeys
dropped realms edit lists = map (λ l. with_keys l (untouched realms l.realm edit l.keys)) lists

-- a fill that was kept puts its key in front; one that came late, or that found no memory, leaves the list
abbrev pub fill_by : CacheWord → List ℕ → Key → List RealmKeys → List RealmKeys
fill_by words.Kept r key lists = at_realm r (λ limit. filled limit key) lists
fill_by _ r key lists = lists

-- ---- words

-- what a naming finds: the realm keeps no keys, or it has the key, or it doesn't
abbrev pub word_in : Option RealmKeys → Key → CacheWord
word_in None key = words.Dash
word_in (Some l) key = if has_key key l.keys then words.Hit else words.Miss

-- the word is that of a hit
abbrev pub is_hit : CacheWord → Bool
is_hit words.Hit = true
is_hit _ = false

-- the word is that of a miss
abbrev pub is_miss : CacheWord → Bool
is_miss words.Miss = true
is_miss _ = false

-- after a miss the key is kept, or the fill is late, where an edit since touched a place that it rests on
abbrev pub word_after : CacheWord → Bool → CacheWord
word_after found touched = if is_miss found then (if touched then words.Late else words.Kept) else words.Dash

-- the word that a shown one stands for: a fill may want memory, and nothing else about it is free
abbrev pub stands_for : CacheWord → CacheWord
stands_for words.Unkept = words.Kept
stands_for word = word
