-- The message of PLAIN (RFC 4616 section 2): message = [authzid] NUL authcid NUL passwd
use Rattle.std.specs.Prelude.{ℕ, ◌-◌, ◌==◌, if◌then◌else◌, nat_lt, List, [], ◌∷◌, length, Option, Some, None, Result, Ok, Err}
use Rattle.std.specs.Str.Lossy.{utf8_valid_len}
use Rattle.ely_base.specs.Refused.{◌>>=◌, refused_as}
use Rattle.ely_base.specs.Names.{name_of}
use Rattle.ely_base.specs.Parts.{parts_at}
use Rattle.ely_plain.specs.declared.message.PlainMsg.{PlainMsg}
use Rattle.ely_plain.specs.declared.message.PlainFault.{PlainFault}
use Rattle.ely_plain.specs.declared.message.PlainFault.TheVariants.{NoNul, NotText, EmptyName, EmptyPassword, Name}

-- the name that a part is
abbrev pub name_part : List ℕ → Result (List ℕ) PlainFault
name_part part = refused_as Name (name_of part)

-- an authorization name
abbrev pub some_name : List ℕ → Result (Option (List ℕ)) PlainFault
some_name part = name_part part >>= λ name. Ok (Some name)

-- no authorization name where the part is empty, and else the name that it is
abbrev pub authzid_part : List ℕ → Result (Option (List ℕ)) PlainFault
authzid_part part = if length part == 0 then Ok None else some_name part

-- the message of an authorization name, a name and a password: neither of the last two may be empty
abbrev pub message_of : List ℕ → List ℕ → List ℕ → Result PlainMsg PlainFault
message_of authzid name password =
    if length name == 0 then Err EmptyName
    else (if length password == 0 then Err EmptyPassword
    else (name_part name >>= λ who.
    authzid_part authzid >>= λ other.
    Ok (record { authzid = other; name = who; password = password })))

-- the message of the parts between the NULs, of which there are two
abbrev pub of_parts : List ℕ → List (List ℕ) → Result PlainMsg PlainFault
of_parts bytes (authzid ∷ name ∷ password ∷ []) =
    if nat_lt (utf8_valid_len bytes) (length bytes) then Err (NotText (utf8_valid_len bytes)) else message_of authzid name password
of_parts bytes parts = Err (NoNul (length parts - 1))

-- the message that the bytes are, or their first fault
abbrev pub plain_of : List ℕ → Result PlainMsg PlainFault
plain_of bytes = of_parts bytes (parts_at 0 bytes)
