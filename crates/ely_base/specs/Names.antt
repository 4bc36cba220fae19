-- Which bytes are a name, and the first fault of those that are none.
use Rattle.std.specs.Prelude.{ℕ, ◌≢◌, ◌<◌, ◌≤◌, ◌==◌, ◌||◌, Bool, nat_lt, if◌then◌else◌, List, length, position, All, IsUtf8, Option, Some, None, Result, Ok, Err}
use Rattle.std.specs.Option.{option_map}
use Rattle.std.specs.Str.Lossy.{utf8_valid_len}
use Rattle.ely_base.specs.declared.name.NameFault.{NameFault}
use Rattle.ely_base.specs.declared.name.NameFault.TheVariants.{Empty, Long, NotText, Barred}

-- NUL or LF
abbrev pub is_barred : ℕ → Bool
is_barred b = b == 0 || b == 10

-- the first fault, in this order
abbrev pub name_fault : List ℕ → Option NameFault
name_fault bytes =
    if length bytes == 0 then Some Empty
    else (if nat_lt 255 (length bytes) then Some (Long (length bytes))
    else (if nat_lt (utf8_valid_len bytes) (length bytes) then Some (NotText (utf8_valid_len bytes))
    else option_map Barred (position is_barred bytes)))

-- the bytes themselves, or why they are no name
abbrev pub name_or : Option NameFault → List ℕ → Result (List ℕ) NameFault
name_or None bytes = Ok bytes
name_or (Some f) bytes = Err f

-- what bytes are read as
abbrev pub name_of : List ℕ → Result (List ℕ) NameFault
name_of bytes = name_or (name_fault bytes) bytes

-- 1 to 255 bytes of UTF-8, none of them NUL or LF
pub record IsName (bytes : List ℕ) : Type 0 where
  pub some : 0 < length bytes
  pub short : length bytes ≤ 255
  pub text : IsUtf8 bytes
  pub open_bytes : All (λ b. (b ≢ 0) × (b ≢ 10)) bytes
