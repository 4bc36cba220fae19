-- A list of members (RFC 7235 section 2.1), read from left to right: the values of the known names, or the first fault.
use Rattle.std.specs.Prelude.{ℕ, zero, suc, ◌+◌, ◌==◌, if◌then◌else◌, List, length, Option, Some, None, Result, Ok, Err}
use Rattle.std.specs.Option.{is_some}
use Rattle.ely_base.specs.Refused.{◌>>=◌}
use Rattle.ely_digest_msg.specs.Parts.{is_gap, after, token_of, equals_of, value_of, end_of}
use Rattle.ely_digest_msg.specs.Fields.{Values, known, given, with_value, nothing}
use Rattle.ely_digest_msg.specs.declared.fault.DigestField.{DigestField}
use Rattle.ely_digest_msg.specs.declared.fault.DigestFault.{DigestFault}
use Rattle.ely_digest_msg.specs.declared.fault.DigestFault.TheVariants.{Repeat}

-- the field of a name, refused where it was given before (RFC 7235 section 2.1): that is told at the name itself
abbrev pub first_time : Values → Option DigestField → Result (Option DigestField) DigestFault
first_time values None = Ok None
first_time values (Some field) = if is_some (given field values) then Err (Repeat field) else Ok (Some field)

-- a known name keeps its value, that of another name is passed over
abbrev pub kept : Option DigestField → List ℕ → Values → Values
kept None value values = values
kept (Some field) value values = with_value field value values

-- a member, `name = value` (RFC 7235 section 2.1): the values with its own, and what follows it
abbrev pub member_of : ℕ → Values → List ℕ → Result (Values × List ℕ) DigestFault
member_of size values text = do
  name ← token_of size text
  field ← first_time values (known name.0)
  equals ← equals_of size name.1
  value ← value_of size equals
  rest ← end_of size value.1
  Ok (kept field value.0 values, rest)

-- the members of a list, at most as many as the first number says
unfoldable pub members_of : ℕ → ℕ → Values → List ℕ → Result Values DigestFault
members_of zero size values text = Ok values
members_of (suc n) size values text =
    if length (after is_gap text) == 0 then Ok values
    else (member_of size values (after is_gap text) >>= (λ m. members_of n size m.0 m.1))

-- all members of a list: a text has fewer of them than it has bytes, and one
abbrev pub list_of : ℕ → List ℕ → Result Values DigestFault
list_of size text = members_of (length text + 1) size nothing text
