-- Which credential serves a mechanism, and the key that is derived of it.
use Rattle.std.specs.Prelude.{ℕ, ◌+◌, Bool, true, false, List, [], ◌∷◌, ◌++◌, take, find, codes, Option, Some, None, unwrap_or}
use Rattle.std.specs.Option.{option_map, option_and_then}
use Rattle.ely_hash.specs.declared.derive.ScramKeys.{ScramKeys}
use Rattle.ely_hash.specs.Hashes.{Hash, sha1_hash, sha256_hash}
use Rattle.ely_hash.specs.Formulas.{hi_of, stored_key_of, server_key_of}
use Rattle.ely_row.specs.declared.cred.Credential.{Credential}
use Rattle.ely_row.specs.declared.cred.Credential.TheVariants.{Clear, ScramSha1, ScramSha256, DigestMd5, DigestSha256}
use Rattle.ely_row.specs.declared.mech.Mech.{Mech}
use Rattle.ely_row.specs.declared.mech.Mech.TheVariants as mechs
use Rattle.ely_row.specs.Rows.{Row}
use Rattle.ely_row.specs.Salts.{Params, Salted}
use Rattle.ely_cred.specs.declared.key.ReadyKey.{ReadyKey}
use Rattle.ely_cred.specs.declared.key.ReadyKey.TheVariants as keys

-- the kinds that serve a mechanism: every kind serves PLAIN, and each other mechanism its own kind and a clear password
abbrev pub serves : Mech → Credential → Bool
serves mechs.Plain cred = true
serves mechs.ScramSha1 (Clear password) = true
serves mechs.ScramSha1 (ScramSha1 salted) = true
serves mechs.ScramSha256 (Clear password) = true
serves mechs.ScramSha256 (ScramSha256 salted) = true
serves mechs.Digest (Clear password) = true
serves mechs.Digest (DigestMd5 ha1) = true
serves mechs.DigestSha256 (Clear password) = true
serves mechs.DigestSha256 (DigestSha256 ha1) = true
serves _ _ = false

-- the credential of the lowest slot that serves, with its slot
unfoldable pub chosen : Mech → Row → Option (ℕ × Credential)
chosen mech row = find (λ p. serves mech p.1) row.creds

-- the salt of a place where none is given: the first 16 bytes of a digest of the seed, the realm and the name
unfoldable pub derived_salt : List ℕ → List ℕ → List ℕ → List ℕ
derived_salt seed realm name = take 16 (sha256_hash.digest (seed ++ 0 ∷ [] ++ codes "salt" ++ 0 ∷ [] ++ realm ++ 0 ∷ [] ++ name))

-- the salt by which a clear password is salted
abbrev pub salt_of : Params → List ℕ → List ℕ → List ℕ
salt_of params realm name = unwrap_or params.salt (derived_salt params.seed realm name)

-- the keys of a salted password (RFC 5802 section 3)
abbrev pub scram_keys : Hash → List ℕ → ScramKeys
scram_keys hash salted = record { stored = stored_key_of hash salted; server = server_key_of hash salted }

-- the key of a password that was salted before
abbrev pub kept_key : Hash → Salted → ReadyKey
kept_key hash s = keys.Scram (scram_keys hash s.salted) s.salt s.turns

-- the key of a clear password, salted now (RFC 5802 section 3)
abbrev pub salted_key : Hash → Params → List ℕ → List ℕ → List ℕ → ReadyKey
salted_key hash params realm name password =
    let salt = salt_of params realm name in
    keys.Scram (scram_keys hash (hi_of hash password salt params.turns)) salt params.turns

-- the key that a credential of a place gives for a mechanism that it serves
unfoldable pub key_of : Params → List ℕ → List ℕ → Mech → Credential → Option ReadyKey
key_of params realm name mechs.Plain (Clear password) = Some (keys.Password password)
key_of params realm name mechs.Plain (ScramSha1 salted) = Some (keys.Salted salted)
key_of params realm name mechs.Plain (ScramSha256 salted) = Some (keys.Salted salted)
key_of params realm name mechs.Plain (DigestMd5 ha1) = Some (keys.Ha1 ha1)
key_of params realm name mechs.Plain (DigestSha256 ha1) = Some (keys.Ha1 ha1)
key_of params realm name mechs.ScramSha1 (Clear password) = Some (salted_key sha1_hash params realm name password)
key_of params realm name mechs.ScramSha1 (ScramSha1 salted) = Some (kept_key sha1_hash salted)
key_of params realm name mechs.ScramSha256 (Clear password) = Some (salted_key sha256_hash params realm name password)
key_of params realm name mechs.ScramSha256 (ScramSha256 salted) = Some (kept_key sha256_hash salted)
key_of params realm name mechs.Digest (Clear password) = Some (keys.Password password)
key_of params realm name mechs.Digest (DigestMd5 ha1) = Some (keys.Ha1 ha1)
key_of params realm name mechs.DigestSha256 (Clear password) = Some (keys.Password password)
key_of params realm name mechs.DigestSha256 (DigestSha256 ha1) = Some (keys.Ha1 ha1)
key_of params realm name _ _ = None

-- a key with all that it was derived of
pub record Ready : Type 0 where
  pub realm : List ℕ
  pub name : List ℕ
  pub mech : Mech
  pub cred : Credential
  pub params : Params
  pub key : ReadyKey

-- the key of a credential, with all that it is derived of
abbrev pub ready_from : Params → List ℕ → List ℕ → Mech → Credential → ReadyKey → Ready
ready_from params realm name mech cred key = record { realm = realm; name = name; mech = mech; cred = cred; params = params; key = key }

-- the key that is derived of the chosen credential of a place's row, where one serves
unfoldable pub ready_of : Params → List ℕ → List ℕ → Mech → Row → Option Ready
ready_of params realm name mech row =
    option_and_then (λ p. option_map (ready_from params realm name mech p.1) (key_of params realm name mech p.1)) (chosen mech row)

-- how many HMAC computations a derivation takes under so many turns
abbrev pub key_cost : ℕ → Mech → Credential → ℕ
key_cost turns mechs.ScramSha1 (Clear password) = turns + 2
key_cost turns mechs.ScramSha1 _ = 2
key_cost turns mechs.ScramSha256 (Clear password) = turns + 2
key_cost turns mechs.ScramSha256 _ = 2
key_cost turns _ _ = 0

-- the same of a chosen credential, where one is chosen
abbrev pub chosen_cost : ℕ → Mech → Option (ℕ × Credential) → ℕ
chosen_cost turns mech None = 0
chosen_cost turns mech (Some p) = key_cost turns mech p.1

-- the same of a row's chosen credential
abbrev pub ready_cost : Params → Mech → Row → ℕ
ready_cost params mech row = chosen_cost params.turns mech (chosen mech row)
