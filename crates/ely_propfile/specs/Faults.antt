-- The first faulty line of a text, over the entries of its lines.
use Rattle.std.specs.Prelude.{◌≡◌, ℕ, ◌+◌, min, ◌||◌, ◌&&◌, Bool, true, not, nat_le, if◌then◌else◌, List, [], ◌∷◌, length, take, slice_get, map, Option, Some, None, Result, Ok, Err, option_and_then}
use Rattle.std.specs.List.{list_any, filter_map, range_with_len, enumerate_from}
use Rattle.std.specs.Map.{keys_of}
use Rattle.std.specs.Str.{bytes_eq}
use Rattle.ely_base.specs.declared.refused.Refused.{Refused}
use Rattle.ely_base.specs.declared.refused.Refused.TheVariants.{Fault, NoMemory}
use Rattle.ely_row.specs.declared.edit.PropFault.{PropFault}
use Rattle.ely_row.specs.declared.edit.PropFault.TheVariants.{Twice, TooMany}
use Rattle.ely_propfile.specs.Entries.{Entry}

-- the number of the line at an index, counted from 1; it stands still at 2^32 - 1
abbrev pub number_at : ℕ → ℕ
number_at index = min (index + 1) 4294967295

-- the entries of the lines from an index on, where that reads a line of a number
abbrev pub entries_from : {V : Type 0} → (ℕ → List ℕ → Entry V) → ℕ → List (List ℕ) → List (Entry V)
entries_from entry index lines = map (λ line. entry (number_at line.0) line.1) (enumerate_from index lines)

-- the pair of an entry
abbrev pub pair_in : {V : Type 0} → Entry V → Option (List ℕ × V)
pair_in (Ok pair) = pair
pair_in (Err fault) = None

-- the pairs of the entries, in order
abbrev pub pairs_of : {V : Type 0} → List (Entry V) → List (List ℕ × V)
pairs_of entries = filter_map pair_in entries

-- a name is one of these
abbrev pub is_among : List ℕ → List (List ℕ) → Bool
is_among name names = list_any (bytes_eq name) names

-- no two pairs have one name
abbrev pub are_apart : {V : Type 0} → List (List ℕ × V) → Bool
are_apart [] = true
are_apart (pair ∷ pairs) = not (is_among pair.0 (keys_of pairs)) && are_apart pairs

-- why a name is refused: it stood on an earlier line, its value is too large, or so many names stood there already
abbrev pub name_fault : ℕ → Bool → Bool → ℕ → Option PropFault
name_fault number is_old is_large count =
    if is_old then Some (Twice number) else (if is_large || nat_le 65536 count then Some (TooMany number) else None)

-- why a pair is refused behind these names
abbrev pub pair_fault : {V : Type 0} → (V → Bool) → ℕ → List (List ℕ) → List ℕ × V → Option PropFault
pair_fault is_large number names pair = name_fault number (is_among pair.0 names) (is_large pair.1) (length names)

-- why the line of this number is refused behind others
abbrev pub fault_behind : {V : Type 0} → (V → Bool) → ℕ → List (Entry V) → Entry V → Option PropFault
fault_behind is_large number before (Err fault) = Some fault
fault_behind is_large number before (Ok None) = None
fault_behind is_large number before (Ok (Some pair)) = pair_fault is_large number (keys_of (pairs_of before)) pair

-- why the line at an index is refused
abbrev pub fault_at : {V : Type 0} → (V → Bool) → List (Entry V) → ℕ → Option PropFault
fault_at is_large entries index =
    option_and_then (fault_behind is_large (number_at index) (take index entries)) (slice_get entries index)

-- the faults of all faulty lines, in order
abbrev pub faults_of : {V : Type 0} → (V → Bool) → List (Entry V) → List PropFault
faults_of is_large entries = filter_map (fault_at is_large entries) (range_with_len 0 (length entries))

-- the value where there is no fault, else the first fault
abbrev pub unless_faulty : {T : Type 0} → List PropFault → T → Result T PropFault
unless_faulty [] value = Ok value
unless_faulty (fault ∷ faults) value = Err fault

-- the pairs of the entries, or the fault of the first faulty line
unfoldable pub pairs_or_fault : {V : Type 0} → (V → Bool) → List (Entry V) → Result (List (List ℕ × V)) PropFault
pairs_or_fault is_large entries = unless_faulty (faults_of is_large entries) (pairs_of entries)

-- the refusal is that fault, unless memory ran out
abbrev pub IsRefusal : Refused PropFault → Option PropFault → Type 0
IsRefusal (Fault fault) expected = expected ≡ Some fault
IsRefusal NoMemory expected = Unit {0}
