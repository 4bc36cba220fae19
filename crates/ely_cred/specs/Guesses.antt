-- Whether a password that is shown in the clear proves an identity (PLAIN, RFC 4616).
use Rattle.std.specs.Prelude.{ℕ, Bool, List}
use Rattle.std.specs.Str.{bytes_eq}
use Rattle.ely_hash.specs.Hashes.{Hash, md5_hash, sha1_hash, sha256_hash}
use Rattle.ely_hash.specs.Formulas.{hi_of, ha1_of}
use Rattle.ely_row.specs.declared.cred.Credential.{Credential}
use Rattle.ely_row.specs.declared.cred.Credential.TheVariants.{Clear, ScramSha1, ScramSha256, DigestMd5, DigestSha256}
use Rattle.ely_row.specs.Salts.{Salted, Ha1}

-- the password, salted in the same way, is the salted one (RFC 5802 section 3)
abbrev pub proves_salted : Hash → Salted → List ℕ → Bool
proves_salted hash s password = bytes_eq (hi_of hash password s.salt s.turns) s.salted

-- the hash of the name, the realm and the password is the stored one (RFC 7616 section 3.4.2)
abbrev pub proves_hashed : Hash → Ha1 → List ℕ → List ℕ → Bool
proves_hashed hash h name password =
    bytes_eq (ha1_of hash name h.realm password) h.hash

-- the password proves the identity of that name with this credential
unfoldable pub proves : List ℕ → Credential → List ℕ → Bool
proves name (Clear stored) password = bytes_eq password stored
proves name (ScramSha1 salted) password = proves_salted sha1_hash salted password
proves name (ScramSha256 salted) password = proves_salted sha256_hash salted password
proves name (DigestMd5 ha1) password = proves_hashed md5_hash ha1 name password
proves name (DigestSha256 ha1) password = proves_hashed sha256_hash ha1 name password

-- how many HMAC computations the test takes
abbrev pub guess_cost : Credential → ℕ
guess_cost (ScramSha1 salted) = salted.turns
guess_cost (ScramSha256 salted) = salted.turns
guess_cost _ = 0
