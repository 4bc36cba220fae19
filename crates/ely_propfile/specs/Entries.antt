-- The entry of one line by itself: nothing, a name with a value, or a fault, which is told with the number of the line.
use Rattle.std.specs.Prelude.{ℕ, ◌==◌, ◌||◌, Bool, if◌then◌else◌, List, length, slice_index, Option, Some, None, Result, Ok}
use Rattle.std.specs.Option.{ok_or}
use Rattle.ely_base.specs.Names.{name_of}
use Rattle.ely_base.specs.Refused.{◌>>=◌, refused_as}
use Rattle.ely_row.specs.declared.edit.PropFault.{PropFault}
use Rattle.ely_row.specs.declared.edit.PropFault.TheVariants.{BadLine}
use Rattle.ely_row.specs.Creds.{mapped}
use Rattle.ely_propfile.specs.Lines.{trimmed_start}
use Rattle.ely_propfile.specs.Keys.{split_of}

-- a comment begins with `#` or `!`
abbrev pub is_comment : List ℕ → Bool
is_comment text = slice_index text 0 == 35 || slice_index text 0 == 33

-- an empty line or a comment
abbrev pub is_skipped : List ℕ → Bool
is_skipped text = length text == 0 || is_comment text

-- the name that a part is
abbrev pub name_part : ℕ → List ℕ → Result (List ℕ) PropFault
name_part number text = refused_as (λ f. BadLine number) (name_of text)

-- the name, and what follows its `=`
abbrev pub key_part : ℕ → List ℕ → Result (List ℕ × List ℕ) PropFault
key_part number text = do
  parts ← ok_or (split_of text) (BadLine number)
  name ← name_part number parts.0
  Ok (name, parts.1)

-- the name, and the value of what follows its `=`
abbrev pub pair_of : {V : Type 0} → (ℕ → List ℕ → Result V PropFault) → ℕ → List ℕ → Result (List ℕ × V) PropFault
pair_of value_of number text = do
  key ← key_part number text
  value ← value_of number key.1
  Ok (key.0, value)

-- what a line is read as: a name with a value, nothing, or a fault
abbrev pub Entry : Type 0 → Type 0
Entry V = Result (Option (List ℕ × V)) PropFault

-- the entry of the line of this number, where that reads values
abbrev pub entry_of : {V : Type 0} → (ℕ → List ℕ → Result V PropFault) → ℕ → List ℕ → Entry V
entry_of value_of number line =
    if is_skipped (trimmed_start line) then Ok None else mapped Some (pair_of value_of number (trimmed_start line))
