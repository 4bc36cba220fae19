-- The Authorization header (RFC 7616 section 3.4): `Digest`, spaces, and a list of members that says each field.
use Rattle.std.specs.Prelude.{ℕ, ◌==◌, ◌&&◌, ◌||◌, Bool, true, not, nat_le, if◌then◌else◌, List, length, take, drop, codes, Option, Some, None, Result, Ok, Err}
use Rattle.std.specs.List.{list_all}
use Rattle.std.specs.Option.{is_some, ok_or}
use Rattle.std.specs.Char.{is_ascii_digit}
use Rattle.std.specs.Str.{bytes_eq}
use Rattle.std.specs.Str.Parse.{digits_value}
use Rattle.ely_base.specs.Names.{name_fault}
use Rattle.ely_base.specs.Refused.{◌>>=◌}
use Rattle.ely_digest_msg.specs.Parts.{starts, same_word}
use Rattle.ely_digest_msg.specs.Fields.{Values, given}
use Rattle.ely_digest_msg.specs.Members.{list_of}
use Rattle.ely_digest_msg.specs.declared.fault.DigestFault.{DigestFault}
use Rattle.ely_digest_msg.specs.declared.fault.DigestFault.TheVariants.{Scheme, Missing}
use Rattle.ely_digest_msg.specs.declared.fault.DigestFault.TheVariants.{Name as BadName, Nc as BadNc, Algorithm as BadAlgorithm, Qop as BadQop, Userhash as BadUserhash}
use Rattle.ely_digest_msg.specs.declared.fault.DigestField.{DigestField}
use Rattle.ely_digest_msg.specs.declared.fault.DigestField.TheVariants.{Username, Realm, Nonce, Uri, Response, Nc, Cnonce, Qop, Algorithm, Userhash}
use Rattle.ely_digest_msg.specs.declared.header.DigestAlg.{DigestAlg}
use Rattle.ely_digest_msg.specs.declared.header.DigestAlg.TheVariants.{Md5, Sha256}
use Rattle.ely_digest_msg.specs.declared.header.HeaderView.{HeaderView}

-- the name of a hash, as a header or a challenge writes it (RFC 7616 section 3.3)
abbrev pub alg_text : DigestAlg → List ℕ
alg_text Md5 = codes "MD5"
alg_text Sha256 = codes "SHA-256"

-- the value of a field that has to be given
abbrev pub needed : DigestField → Values → Result (List ℕ) DigestFault
needed field values = ok_or (given field values) (Missing field)

-- refused unless the test passes
abbrev pub must : Bool → DigestFault → Result (Unit {0}) DigestFault
must test fault = if test then Ok tt else Err fault

-- the text is a name
abbrev pub is_name : List ℕ → Bool
is_name text = not (is_some (name_fault text))

-- the name that a text is
abbrev pub name_value_of : List ℕ → Result (List ℕ) DigestFault
name_value_of text = if is_name text then Ok text else Err BadName

-- a digit, or a letter from `a` to `f`
abbrev pub is_lower_hex : ℕ → Bool
is_lower_hex b = is_ascii_digit b || (nat_le 97 b && nat_le b 102)

-- eight lower-case hexadecimal digits (RFC 7616 section 3.4)
abbrev pub is_count : List ℕ → Bool
is_count text = length text == 8 && list_all is_lower_hex text

-- the nonce count, the number that the digits write
abbrev pub count_of : List ℕ → Result ℕ DigestFault
count_of text = if is_count text then Ok (digits_value 16 text) else Err BadNc

-- the hash that is named, in any case, and MD5 where none is (RFC 7616 section 3.4)
abbrev pub alg_of : Option (List ℕ) → Result DigestAlg DigestFault
alg_of None = Ok Md5
alg_of (Some text) =
    if same_word text (alg_text Md5) then Ok Md5
    else (if same_word text (alg_text Sha256) then Ok Sha256
    else Err BadAlgorithm)

-- user names are given as they are: `userhash` is absent, or `false` in any case (RFC 7616 section 3.4.4)
abbrev pub is_plain : Option (List ℕ) → Bool
is_plain None = true
is_plain (Some text) = same_word text (codes "false")

-- the header that the values make, or what is missing first, or else wrong first, in this order
abbrev pub header_from : Values → Result HeaderView DigestFault
header_from values = do
  name ← needed Username values
  realm ← needed Realm values
  nonce ← needed Nonce values
  uri ← needed Uri values
  response ← needed Response values
  nc ← needed Nc values
  cnonce ← needed Cnonce values
  qop ← needed Qop values
  named ← name_value_of name
  count ← count_of nc
  alg ← alg_of (given Algorithm values)
  auth ← must (bytes_eq qop (codes "auth")) BadQop
  plain ← must (is_plain (given Userhash values)) BadUserhash
  Ok (record { alg = alg; name = named; realm = realm; nonce = nonce; uri = uri; response = response; nc = count; cnonce = cnonce })

-- the text begins with `Digest`, in any case, and a space (RFC 7235 section 2.1)
abbrev pub is_digest : List ℕ → Bool
is_digest text = same_word (take 6 text) (codes "Digest") && starts 32 (drop 6 text)

-- the header that a text is, or its first fault; more spaces behind the first are blanks of the list
abbrev pub header_of : List ℕ → Result HeaderView DigestFault
header_of text =
    if is_digest text then (list_of (length text) (drop 7 text) >>= header_from)
    else Err Scheme
