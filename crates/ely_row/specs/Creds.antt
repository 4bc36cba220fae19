-- Texts of stored credentials.
use Rattle.std.specs.Prelude.{ℕ, ◌==◌, ◌||◌, ◌&&◌, Bool, true, false, nat_lt, if◌then◌else◌, List, length, codes, Option, Some, None, Result, Ok, Err}
use Rattle.std.specs.List.{list_any, list_all}
use Rattle.std.specs.Option.{ok_or}
use Rattle.std.specs.Str.{bytes_eq}
use Rattle.std.specs.Str.Lossy.{utf8_valid_len}
use Rattle.ely_base.specs.Names.{is_barred}
use Rattle.ely_base.specs.Numbers.{number_of}
use Rattle.ely_base.specs.Refused.{◌>>=◌, refused_as}
use Rattle.ely_base.specs.Texts.{base64_of, hex_of}
use Rattle.ely_row.specs.Cuts.{cut_of}
use Rattle.ely_row.specs.Salts.{Salted, Ha1, is_salt, is_salted_by, is_realm_byte, is_realm_len, is_hashed_by}
use Rattle.ely_row.specs.declared.cred.Credential.{Credential}
use Rattle.ely_row.specs.declared.cred.Credential.TheVariants.{Clear, ScramSha1, ScramSha256, DigestMd5, DigestSha256}
use Rattle.ely_row.specs.declared.fault.CredFault.{CredFault}
use Rattle.ely_row.specs.declared.fault.CredFault.TheVariants.{Kind, Turns, Base64, Hex, Length, Text}

-- the kinds of credentials that there are
abbrev pub is_kind : List ℕ → Bool
is_kind kind =
    bytes_eq kind (codes "clear") || bytes_eq kind (codes "scram-sha-1") || bytes_eq kind (codes "scram-sha-256")
    || bytes_eq kind (codes "digest-md5") || bytes_eq kind (codes "digest-sha-256")

-- UTF-8 without NUL and LF
abbrev pub is_password : List ℕ → Bool
is_password text = if nat_lt (utf8_valid_len text) (length text) then false else (if list_any is_barred text then false else true)

-- a password of 1 to 1,024 bytes
abbrev pub is_clear : List ℕ → Bool
is_clear text = (if length text == 0 || nat_lt 1024 (length text) then false else true) && is_password text

-- the bounds of each kind
abbrev pub is_stored : Credential → Bool
is_stored (Clear password) = is_clear password
is_stored (ScramSha1 salted) = is_salted_by 20 salted
is_stored (ScramSha256 salted) = is_salted_by 32 salted
is_stored (DigestMd5 ha1) = is_hashed_by 16 ha1
is_stored (DigestSha256 ha1) = is_hashed_by 32 ha1

-- a password as it is: 1 to 1,024 bytes of UTF-8 without NUL and LF
abbrev pub clear_of : List ℕ → Result Credential CredFault
clear_of text =
    if length text == 0 || nat_lt 1024 (length text) then Err Length
    else (if is_password text then Ok (Clear text) else Err Text)

-- the turns, where they are a number in its range
abbrev pub turns_or : Option ℕ → Result ℕ CredFault
turns_or None = Err Turns
turns_or (Some turns) = if turns == 0 then Err Turns else Ok turns

-- the turns that a text is a number of
abbrev pub turns_of : List ℕ → Result ℕ CredFault
turns_of text = turns_or (number_of 1000000 text)

-- the bytes of a base64 text
abbrev pub base64_part : List ℕ → Result (List ℕ) CredFault
base64_part text = refused_as (λ f. Base64) (base64_of text)

-- TURNS:SALT:KEY, two base64 texts behind a number; the key has so many bytes
unfoldable pub salted_of : ℕ → List ℕ → Result Salted CredFault
salted_of len text = do
  first ← ok_or (cut_of text) Turns
  second ← ok_or (cut_of first.1) Turns
  turns ← turns_of first.0
  salt ← base64_part second.0
  key ← base64_part second.1
  if is_salt salt && length key == len then Ok (record { turns = turns; salt = salt; salted = key }) else Err Length

-- the realm of a hash, or its fault: first of its length, then of its bytes
abbrev pub digest_realm_of : List ℕ → Result (List ℕ) CredFault
digest_realm_of realm = if is_realm_len (length realm) then (if list_all is_realm_byte realm then Ok realm else Err Text) else Err Length

-- the bytes of a hexadecimal text
abbrev pub hex_part : List ℕ → Result (List ℕ) CredFault
hex_part text = refused_as (λ f. Hex) (hex_of text)

-- so many bytes
abbrev pub sized_of : ℕ → List ℕ → Result (Unit {0}) CredFault
sized_of len bytes = if length bytes == len then Ok tt else Err Length

-- HEX:REALM, a hash of so many bytes in hexadecimal
unfoldable pub hashed_of : ℕ → List ℕ → Result Ha1 CredFault
hashed_of len text = do
  parts ← ok_or (cut_of text) Hex
  hash ← hex_part parts.0
  sized ← sized_of len hash
  realm ← digest_realm_of parts.1
  Ok (record { realm = realm; hash = hash })

-- the same value, made of that
abbrev pub mapped : {A B F : Type 0} → (A → B) → Result A F → Result B F
mapped f (Ok x) = Ok (f x)
mapped f (Err e) = Err e

-- the credential of a kind and a text, or its first fault
unfoldable pub cred_of : List ℕ → List ℕ → Result Credential CredFault
cred_of kind text =
    if bytes_eq kind (codes "clear") then clear_of text
    else (if bytes_eq kind (codes "scram-sha-1") then mapped ScramSha1 (salted_of 20 text)
    else (if bytes_eq kind (codes "scram-sha-256") then mapped ScramSha256 (salted_of 32 text)
    else (if bytes_eq kind (codes "digest-md5") then mapped DigestMd5 (hashed_of 16 text)
    else (if bytes_eq kind (codes "digest-sha-256") then mapped DigestSha256 (hashed_of 32 text)
    else Err Kind))))
