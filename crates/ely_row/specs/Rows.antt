-- An identity: its credentials by their slots and its attributes by their names.
use Rattle.std.specs.Prelude.{ℕ, ◌≤◌, ◌||◌, Bool, nat_lt, List, [], length, Option, is_some}
use Rattle.std.specs.Ordering.{nat_cmp}
use Rattle.std.specs.declared.cmp.Ordering.{Ordering}
use Rattle.std.specs.Cmp.Lexicographic.{slice_cmp}
use Rattle.std.specs.List.Sorted.{IsStrictlySortedBy}
use Rattle.std.specs.Map.{keys_of, lookup, remove_entry}
use Rattle.std.specs.BTreeMap.{insert_entry, is_at}
use Rattle.ely_row.specs.declared.cred.StoredCred.{StoredCred}

-- an identity: its credentials, each with its slot, the slots rising, and its attributes, each with its name, the names rising
pub record Row : Type 0 where
  pub creds : List (ℕ × StoredCred)
  pub attrs : List (List ℕ × List (List ℕ))

-- the order of names: that of their bytes
abbrev pub name_cmp : List ℕ → List ℕ → Ordering
name_cmp = slice_cmp nat_cmp

-- an identity without credentials and attributes
abbrev pub empty_row : Row
empty_row = record { creds = []; attrs = [] }

-- the credential of the slot
abbrev pub cred_at : ℕ → Row → Option StoredCred
cred_at slot row = lookup (is_at (nat_cmp slot)) row.creds

-- the slot holds a credential
abbrev pub has_cred : ℕ → Row → Bool
has_cred slot row = is_some (cred_at slot row)

-- the values of the attribute
abbrev pub attr_at : List ℕ → Row → Option (List (List ℕ))
attr_at attr row = lookup (is_at (name_cmp attr)) row.attrs

-- the identity has the attribute
abbrev pub has_attr : List ℕ → Row → Bool
has_attr attr row = is_some (attr_at attr row)

-- there is room for a credential in the slot: one is there, or fewer than 8 are
abbrev pub has_cred_room : ℕ → Row → Bool
has_cred_room slot row = has_cred slot row || nat_lt (length row.creds) 8

-- there is room for the attribute: it is there, or fewer than 32 are
abbrev pub has_attr_room : List ℕ → Row → Bool
has_attr_room attr row = has_attr attr row || nat_lt (length row.attrs) 32

-- at most 8 credentials with rising slots, and at most 32 attributes with rising names
pub record IsRow (row : Row) : Type 0 where
  pub creds_few : length row.creds ≤ 8
  pub creds_rise : IsStrictlySortedBy nat_cmp (keys_of row.creds)
  pub attrs_few : length row.attrs ≤ 32
  pub attrs_rise : IsStrictlySortedBy name_cmp (keys_of row.attrs)

-- the identity with this credential in this slot, in place of what stood there
abbrev pub with_cred : ℕ → StoredCred → Row → Row
with_cred slot cred row = record { creds = insert_entry nat_cmp row.creds slot cred; attrs = row.attrs }

-- the identity without the credential of this slot
abbrev pub without_cred : ℕ → Row → Row
without_cred slot row = record { creds = remove_entry (is_at (nat_cmp slot)) row.creds; attrs = row.attrs }

-- the identity with these values of this attribute, in place of what stood there
abbrev pub with_attr : List ℕ → List (List ℕ) → Row → Row
with_attr attr values row = record { creds = row.creds; attrs = insert_entry name_cmp row.attrs attr values }

-- the identity without this attribute
abbrev pub without_attr : List ℕ → Row → Row
without_attr attr row = record { creds = row.creds; attrs = remove_entry (is_at (name_cmp attr)) row.attrs }
