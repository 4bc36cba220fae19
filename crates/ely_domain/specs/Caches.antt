-- What the caches of a domain stand for, and what its type keeps of their entries.
use Rattle.std.specs.Prelude.{ℕ, ◌≡◌, Bool, true, false, List, length, map, Some, Result, Ok, Err}
use Rattle.ely_cache.specs.declared.caches.RealmCache.{RealmCache}
use Rattle.ely_cache.specs.declared.entry.Entry.{Entry}
use Rattle.ely_cache.specs.Caches.{EachEntry}
use Rattle.ely_pipeline.specs.declared.place.Place.{Place}
use Rattle.ely_login.specs.declared.outcome.Outcome.{Outcome}
use Rattle.ely_login.specs.declared.word.CacheWord.{CacheWord}
use Rattle.ely_login.specs.declared.word.CacheWord.TheVariants as words
use Rattle.ely_login.specs.Outcomes.{is_accepted}
use Rattle.ely_context.specs.declared.stage.Stage.TheVariants.{Loading}
use Rattle.ely_context.specs.Contexts.{ContextStage, ContextLogin}
use Rattle.ely_context.specs.Logins.{each_login}
use Rattle.ely_domain.specs.declared.event.Event.{Event}
use Rattle.ely_domain.specs.declared.event.Event.TheVariants as events
use Rattle.ely_domain.specs.Contexts.{seen_login}
use Rattle.ely_domain.specs.Identities.{Known, key_at, deps}
use Rattle.ely_domain.specs.Keeping.{Kept, Founds, Meaning, means, word_by, lists_by}
use Rattle.ely_domain.specs.KeptKeys.{Key, RealmKeys, stands_for}

-- the key of an entry
abbrev pub key_in : Entry → Key
key_in e = record { name = e.name; mech = e.mech }

-- the keys that a realm's cache holds
abbrev pub keys_in : RealmCache → RealmKeys
keys_in c = record { realm = c.realm; limit = c.cache.limit; keys = map key_in c.cache.entries }

abbrev pub lists_of : List RealmCache → List RealmKeys
lists_of caches = map keys_in caches

-- what the naming of a login found, while it is loading
abbrev pub found_by_stage : ContextStage → CacheWord
found_by_stage (Loading p) = p.found
found_by_stage stage = words.None

abbrev pub found_in : ContextLogin → CacheWord
found_in login = found_by_stage login.stage

-- the same of all live logins
abbrev pub founds_of : List (ℕ × ContextLogin) → Founds
founds_of logins = each_login found_in logins

-- what is kept, of the caches and the live logins
abbrev pub kept_in : List RealmCache → List (ℕ × ContextLogin) → Kept
kept_in caches logins = record { lists = lists_of caches; founds = founds_of logins }

-- the place of a name in a realm
abbrev pub place_in : List ℕ → List ℕ → Place
place_in r name = record { realm = r; name = name }

-- an entry of a realm's cache rests on the places of its identity, and has the key that the identity of now gives
pub record IsCurrent (known : Known) (r : List ℕ) (e : Entry) : Type 0 where
  pub deps_are : e.deps ≡ deps known (place_in r e.name)
  pub ready_is : key_at known e.mech (length known.edits) (place_in r e.name) ≡ Some e.ready

-- each entry of each cache is of now
abbrev pub AreCurrent : Known → List RealmCache → Type 0
AreCurrent known caches = EachEntry (IsCurrent known) caches

-- what the naming of a login found, after an accepted step of it that showed this word
abbrev pub found_after : Event → CacheWord → CacheWord → CacheWord
found_after (events.Name1 c claim) shown found = shown
found_after (events.Name2 c serial brought) shown found = words.None
found_after (events.Fail c) shown found = words.None
found_after _ shown found = found

-- an answer with no word behind it
abbrev pub without_word : {E : Type 0} → Result Outcome E → Result (Outcome × CacheWord) E
without_word (Ok outcome) = Ok (outcome, words.None)
without_word (Err e) = Err e

-- a step of a login showed this word, and did with the lists and with what its naming found what an accepted or a refused one does
abbrev pub KeepsBy : Bool → Known → Meaning → Event → CacheWord → List RealmKeys → List RealmKeys → CacheWord → CacheWord → Type 0
KeepsBy true known meaning event shown old new found found' =
    (stands_for shown ≡ word_by known old found meaning)
    × (new ≡ lists_by meaning shown old)
    × (found' ≡ found_after event shown found)
KeepsBy false known meaning event shown old new found found' = (shown ≡ words.None) × (new ≡ old) × (found' ≡ found)

-- the same of a step with this outcome
abbrev pub Keeps : Known → Event → Outcome → CacheWord → List RealmCache → List RealmCache → ContextLogin → ContextLogin → Type 0
Keeps known event outcome shown caches caches' old new =
    KeepsBy (is_accepted outcome) known (means known event (seen_login old)) event shown (lists_of caches) (lists_of caches') (found_in old) (found_in new)
