-- How often a number stands at a place of the reverse index.
use Rattle.std.specs.Prelude.{◌≡◌, ◌<◌, ◌+◌, ◌-◌, ◌&&◌, ℕ, true, if◌then◌else◌, List, count_by, sum_by, nat_eq, Option}
use Rattle.std.specs.Option.{option_map_or}
use Rattle.std.specs.Ordering.{nat_cmp}
use Rattle.std.specs.Str.{bytes_eq}
use Rattle.std.specs.declared.vec.Vec.{Vec}
use Rattle.std.specs.Cmp.Lexicographic.{slice_cmp}
use Rattle.std.specs.BTreeMap.{BTreeMap, get_by}
use Rattle.ely_cache.specs.Codes.{begins_with, place_code}

-- what a map has at bytes
abbrev pub get_by_bytes : {X Y : Type 0} → BTreeMap (Vec ℕ Y) X → List ℕ → Option X
get_by_bytes m bytes = get_by (λ k. slice_cmp nat_cmp bytes k.items) m

-- a map reads at these bytes as w, and at others as before
abbrev pub ReadsWith : {X Y : Type 0} → List ℕ → Option X → BTreeMap (Vec ℕ Y) X → BTreeMap (Vec ℕ Y) X → Type 0
ReadsWith bytes w old new = (other : List ℕ) → get_by_bytes new other ≡ (if bytes_eq bytes other then w else get_by_bytes old other)

-- a map reads as before
abbrev pub ReadsSame : {X Y : Type 0} → BTreeMap (Vec ℕ Y) X → BTreeMap (Vec ℕ Y) X → Type 0
ReadsSame old new = (bytes : List ℕ) → get_by_bytes new bytes ≡ get_by_bytes old bytes

-- how often the number stands in a list, where there is one
abbrev pub count_in : {Y : Type 0} → Option (Vec ℕ Y) → ℕ → ℕ
count_in slots slot = option_map_or (λ slots. count_by (nat_eq slot) slots.items) slots 0

-- how often the number stands at the place
abbrev pub count_at : {Y Z : Type 0} → BTreeMap (Vec ℕ Y) (Vec ℕ Z) → List ℕ → ℕ → ℕ
count_at m place slot = count_in (get_by_bytes m place) slot

-- 1 for that number at that place, and 0 for others
abbrev pub one_at : List ℕ → ℕ → List ℕ → ℕ → ℕ
one_at code slot place s = if bytes_eq code place && nat_eq s slot then 1 else 0

-- that number, once at each of the places
abbrev pub ones_at : List (List ℕ × List ℕ) → ℕ → List ℕ → ℕ → ℕ
ones_at places slot place s = sum_by (λ p. one_at (place_code p.0 p.1) slot place s) places

module _ {Y Z : Type 0} (old new : BTreeMap (Vec ℕ Y) (Vec ℕ Z)) where
  -- each number stands where it stood
  abbrev pub CountsSame : Type 0
  CountsSame = (place : List ℕ) (s : ℕ) → count_at new place s ≡ count_at old place s

  -- so many more stand there
  abbrev pub CountsMore : (List ℕ → ℕ → ℕ) → Type 0
  CountsMore more = (place : List ℕ) (s : ℕ) → count_at new place s ≡ count_at old place s + more place s

  -- so many fewer stand there
  abbrev pub CountsLess : (List ℕ → ℕ → ℕ) → Type 0
  CountsLess less = (place : List ℕ) (s : ℕ) → count_at new place s ≡ count_at old place s - less place s

module _ {Y Z : Type 0} (start : List ℕ) (m : BTreeMap (Vec ℕ Y) (Vec ℕ Z)) where
  -- the number stands at a place whose code begins with the start
  pub record StandsUnder (slot : ℕ) : Type 0 where
    pub place : List ℕ
    pub begun : begins_with start place ≡ true
    pub some : 0 < count_at m place slot

  -- no number stands at such a place
  abbrev pub NoneUnder : Type 0
  NoneUnder = (place : List ℕ) (s : ℕ) → begins_with start place ≡ true → count_at m place s ≡ 0
