-- How the numbers, the index, the reverse index and the entries of a cache agree.
use Rattle.std.specs.Prelude.{◌≡◌, ◌≢◌, ◌+◌, ◌≤◌, ◌⊎◌, ◌++◌, ℕ, Bool, true, false, not, List, [], ◌∷◌, length, map, filter, Option, Some}
use Rattle.std.specs.List.{AllByRecursion, list_any}
use Rattle.std.specs.Vec.{vec_capacity}
use Rattle.ely_cache.specs.declared.entry.Entry.{Entry}
use Rattle.ely_cache.specs.declared.slots.Slots.{Slots}
use Rattle.ely_cache.specs.Codes.{begins_with, place_code}
use Rattle.ely_cache.specs.Entries.{entry_key, offered}
use Rattle.ely_cache.specs.Resting.{count_at, get_by_bytes, ones_at}

-- an entry with its number
abbrev pub Item : Type 0
Item = ℕ × Entry

-- the entries without their numbers
abbrev pub entries_of : List Item → List Entry
entries_of = map (λ p. p.1)

-- x is one of the items
abbrev pub Among : Item → List Item → Type 0
Among x [] = ⊥
Among x (y ∷ ys) = (y ≡ x) ⊎ Among x ys

-- no item has the number
abbrev pub IsUnused : List Item → ℕ → Type 0
IsUnused items n = AllByRecursion (λ p. p.0 ≢ n) items

-- no two items have one number
abbrev pub AreNumbered : List Item → Type 0
AreNumbered [] = Unit {0}
AreNumbered (p ∷ ps) = IsUnused ps p.0 × AreNumbered ps

-- no number comes twice
abbrev pub AreDistinct : List ℕ → Type 0
AreDistinct [] = Unit {0}
AreDistinct (n ∷ ns) = AllByRecursion (λ m. m ≢ n) ns × AreDistinct ns

-- the index gives each item's number, and no other; the free numbers are in no item; all are as many as the limit
pub record AreTied (limit : ℕ) (items : List Item) (index : List ℕ → Option ℕ) (free : List ℕ) : Type 0 where
  pub least : 1 ≤ limit
  pub most : limit ≤ 65536
  pub listed : AllByRecursion (λ p. index (entry_key p.1) ≡ Some p.0) items
  pub found : (key : List ℕ) (n : ℕ) → index key ≡ Some n → (e : Entry) × Among (n, e) items × (entry_key e ≡ key)
  pub numbered : AreNumbered items
  pub distinct : AreDistinct free
  pub unused : AllByRecursion (IsUnused items) free
  pub count : length free + length items ≡ limit

-- how often a number stands at a place: as often as its item's entry names the place
abbrev pub resting_on : List Item → List ℕ → ℕ → ℕ
resting_on [] place s = 0
resting_on (p ∷ ps) place s = ones_at p.1.deps p.0 place s + resting_on ps place s

-- all of that
pub record IsTied (slots : Slots) : Type 0 where
  pub numbers : AreTied slots.order.cap slots.order.entries (get_by_bytes slots.index) slots.free.items
  pub rests : (place : List ℕ) (s : ℕ) → count_at slots.resting place s ≡ resting_on slots.order.entries place s
  pub room : slots.order.cap ≤ vec_capacity slots.free

-- the entries are those of before with the entry offered
abbrev pub IsOffered : Entry → Slots → Slots → Type 0
IsOffered entry old new = entries_of new.order.entries ≡ offered old.order.cap entry (entries_of old.order.entries)

-- the entry rests on a place whose code begins with the start
abbrev pub rests_under : List ℕ → Entry → Bool
rests_under start e = list_any (λ d. begins_with start (place_code d.0 d.1)) e.deps

-- the entries that rest on no such place, in order
abbrev pub not_resting_under : List ℕ → List Entry → List Entry
not_resting_under start es = filter (λ e. not (rests_under start e)) es

-- one entry that rests on such a place is gone
pub record IsOneLess (start : List ℕ) (old new : List Entry) : Type 0 where
  pub front : List Entry
  pub gone : Entry
  pub back : List Entry
  pub before : old ≡ front ++ gone ∷ back
  pub after : new ≡ front ++ back
  pub rested : rests_under start gone ≡ true

-- no entry rests on such a place, and nothing is changed
pub record IsAtEnd (start : List ℕ) (old new : List Entry) : Type 0 where
  pub same : new ≡ old
  pub none : AllByRecursion (λ e. rests_under start e ≡ false) old
