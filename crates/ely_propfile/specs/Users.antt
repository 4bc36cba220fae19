-- The text of users: names, each with a hash of its password or with the password.
use Rattle.std.specs.Prelude.{ℕ, Bool, false, if◌then◌else◌, List, Result, Ok}
use Rattle.ely_base.specs.Refused.{◌>>=◌, refused_as}
use Rattle.ely_row.specs.declared.cred.Credential.{Credential}
use Rattle.ely_row.specs.declared.cred.Credential.TheVariants.{DigestMd5}
use Rattle.ely_row.specs.declared.edit.PropFault.{PropFault}
use Rattle.ely_row.specs.declared.edit.PropFault.TheVariants.{BadLine, BadHex}
use Rattle.ely_row.specs.declared.fault.CredFault.{CredFault}
use Rattle.ely_row.specs.Creds.{clear_of, hex_part, sized_of, mapped}
use Rattle.ely_propfile.specs.Lines.{trimmed_start, trimmed, lines_of}
use Rattle.ely_propfile.specs.Entries.{Entry, entry_of}
use Rattle.ely_propfile.specs.Realms.{realm_of}
use Rattle.ely_propfile.specs.Faults.{entries_from, pairs_or_fault}

-- a password as it is, without leading blanks
abbrev pub password_of : ℕ → List ℕ → Result Credential PropFault
password_of number text = refused_as (λ f. BadLine number) (clear_of (trimmed_start text))

-- the 16 bytes that 32 hexadecimal digits write
abbrev pub md5_of : List ℕ → Result (List ℕ) CredFault
md5_of text = do
  hash ← hex_part text
  sized ← sized_of 16 hash
  Ok hash

-- a hash of MD5 in this realm, without the blanks round it
abbrev pub hash_of : List ℕ → ℕ → List ℕ → Result Credential PropFault
hash_of realm number text =
    mapped (λ hash. DigestMd5 (record { realm = realm; hash = hash })) (refused_as (λ f. BadHex number) (md5_of (trimmed text)))

-- the credential of a user
abbrev pub user_cred : Bool → List ℕ → ℕ → List ℕ → Result Credential PropFault
user_cred plain realm number text = if plain then password_of number text else hash_of realm number text

-- the entry of a line of users
abbrev pub user_entry : Bool → List ℕ → ℕ → List ℕ → Entry Credential
user_entry plain realm number line = entry_of (user_cred plain realm) number line

-- the users of a text, or the fault of its first faulty line
unfoldable pub users_of : Bool → List ℕ → List ℕ → Result (List (List ℕ × Credential)) PropFault
users_of plain fallback text =
    pairs_or_fault (λ cred. false) (entries_from (user_entry plain (realm_of fallback text)) 0 (lines_of text))
