-- nonce of RFC 5802, section 7: `r=` and one or more printable bytes.
use Rattle.std.specs.Prelude.{ℕ, ◌+◌, ◌==◌, ◌&&◌, Bool, not, nat_le, if◌then◌else◌, List, length, position, Option, Some, None, Result, Ok}
use Rattle.ely_base.specs.Refused.{◌>>=◌}
use Rattle.ely_scram_msg.specs.declared.fault.MsgFault.{MsgFault}
use Rattle.ely_scram_msg.specs.declared.fault.MsgKind.TheVariants.{Nonce}
use Rattle.ely_scram_msg.specs.Located.{Located}
use Rattle.ely_scram_msg.specs.Fields.{fault, value_of}

-- printable: 0x21 to 0x7E without the comma, 0x2C
abbrev pub is_printable : ℕ → Bool
is_printable b = nat_le 0x21 b && nat_le b 0x7E && not (b == 0x2C)

-- the bytes of a part, or the offset in it of the first that isn't printable
abbrev pub all_printable : Located → Option ℕ → Result (List ℕ) MsgFault
all_printable part None = Ok part.text
all_printable part (Some i) = fault Nonce (part.offset + i)

-- one or more printable bytes
abbrev pub printable_of : Located → Result (List ℕ) MsgFault
printable_of part =
    if length part.text == 0 then fault Nonce part.offset
    else all_printable part (position (λ b. not (is_printable b)) part.text)

-- nonce: `r=` printable (114 is `r`)
abbrev pub nonce_of : Located → Result (List ℕ) MsgFault
nonce_of field = value_of 114 field >>= printable_of
