-- A message is cut at its commas, and each field is an attribute: a letter, `=` and a value (RFC 5802, section 5.1).
use Rattle.std.specs.Prelude.{ℕ, ◌+◌, ◌==◌, ◌&&◌, Bool, nat_le, if◌then◌else◌, List, [], ◌∷◌, length, drop, slice_index, Option, Some, None, Result, Ok, Err}
use Rattle.std.specs.List.{slice_split}
use Rattle.ely_scram_msg.specs.declared.fault.MsgFault.{MsgFault}
use Rattle.ely_scram_msg.specs.declared.fault.MsgKind.{MsgKind}
use Rattle.ely_scram_msg.specs.declared.fault.MsgKind.TheVariants.{Attr, Mandatory}
use Rattle.ely_scram_msg.specs.Located.{Located}

-- that fault at that offset
abbrev pub fault : {T : Type 0} → MsgKind → ℕ → Result T MsgFault
fault kind offset = Err (record { kind = kind; place = offset })

-- texts that stand one after the other with a comma between them, the first of them at that offset
abbrev pub located_from : ℕ → List (List ℕ) → List Located
located_from offset [] = []
located_from offset (text ∷ texts) = record { offset = offset; text = text } ∷ located_from (offset + length text + 1) texts

-- the fields of a part: each reaches to the next comma (44) or to the end
abbrev pub fields_of : Located → List Located
fields_of part = located_from part.offset (slice_split (λ b. b == 44) part.text)

-- the fields behind a comma, and none where no comma stands
abbrev pub fields_left : Option Located → List Located
fields_left None = []
fields_left (Some part) = fields_of part

-- the next field with those after it, where a comma and then a field are due; end is the message's length
abbrev pub due : ℕ → List Located → Result (Located × List Located) MsgFault
due end [] = fault Attr end
due end (field ∷ rest) = Ok (field, rest)

-- the field begins with that letter and `=`
abbrev pub begins : ℕ → List ℕ → Bool
begins letter text = nat_le 2 (length text) && slice_index text 0 == letter && slice_index text 1 == 61

-- what follows the letter and `=`
abbrev pub rest_of_value : Located → Located
rest_of_value field = record { offset = field.offset + 2; text = drop 2 field.text }

-- the value of the attribute of that letter, which is due here; `m=` is reserved wherever an attribute is due
abbrev pub value_of : ℕ → Located → Result Located MsgFault
value_of letter field =
    if begins letter field.text then Ok (rest_of_value field)
    else (if begins 109 field.text then fault Mandatory field.offset
    else fault Attr field.offset)
