-- extensions of RFC 5802, section 7: attributes of any letter but the reserved `m` (section 5.1), without a meaning here.
use Rattle.std.specs.Prelude.{ℕ, ◌-◌, ◌==◌, ◌&&◌, ◌||◌, Bool, not, nat_le, if◌then◌else◌, List, [], ◌∷◌, length, drop, slice_index, Result, Ok}
use Rattle.std.specs.List.{list_any}
use Rattle.ely_base.specs.Refused.{◌>>=◌}
use Rattle.ely_scram_msg.specs.declared.fault.MsgFault.{MsgFault}
use Rattle.ely_scram_msg.specs.declared.fault.MsgKind.TheVariants.{Mandatory, Trailing}
use Rattle.ely_scram_msg.specs.Located.{Located}
use Rattle.ely_scram_msg.specs.Fields.{fault, begins}

-- `A` to `Z` or `a` to `z`
abbrev pub is_letter : ℕ → Bool
is_letter b = (nat_le 65 b && nat_le b 90) || (nat_le 97 b && nat_le b 122)

-- attr-val: a letter, `=`, and a value of one or more bytes without NUL
abbrev pub is_extension : List ℕ → Bool
is_extension text =
    nat_le 3 (length text) && is_letter (slice_index text 0) && slice_index text 1 == 61
    && not (list_any (λ b. b == 0) (drop 2 text))

-- the field is an extension: not the reserved `m=` (109 is `m`), and nothing else; the comma stands before the field
abbrev pub extension_of : Located → Result (Unit {0}) MsgFault
extension_of field =
    if begins 109 field.text then fault Mandatory field.offset
    else (if is_extension field.text then Ok tt
    else fault Trailing (field.offset - 1))

-- each field is an extension
abbrev pub extensions_of : List Located → Result (Unit {0}) MsgFault
extensions_of [] = Ok tt
extensions_of (field ∷ rest) = extension_of field >>= λ _. extensions_of rest
