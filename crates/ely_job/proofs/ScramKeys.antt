-- A key that is derived for a mechanism of SCRAM is one for SCRAM.
use Rattle.std.proofs.Common.{◌≡◌, ℕ, List, Some, IsTrue, arith}
use Rattle.ely_hash.specs.declared.derive.ScramKeys.{ScramKeys}
use Rattle.ely_row.specs.Salts.{Params}
use Rattle.ely_row.specs.declared.cred.Credential.{Credential}
use Rattle.ely_row.specs.declared.cred.Credential.TheVariants as creds
use Rattle.ely_row.specs.declared.mech.Mech.{Mech}
use Rattle.ely_row.specs.declared.mech.Mech.TheVariants as mechs
use Rattle.ely_cred.specs.declared.key.ReadyKey.{ReadyKey}
use Rattle.ely_cred.specs.declared.key.ReadyKey.TheVariants.{Scram}
use Rattle.ely_cred.specs.Keys.{key_of}
use Rattle.ely_job.specs.Jobs.{is_scram}

-- no other key is derived of any credential
pub derived_key_is_scram : (params : Params) (realm name : List ℕ) (mech : Mech) (cred : Credential) (key : ReadyKey)
    → IsTrue (is_scram mech) → Some key ≡ key_of params realm name mech cred
    → ((both : ScramKeys) (salt : List ℕ) (turns : ℕ) → key ≡ Scram both salt turns → ⊥) → ⊥
unfolding key_of
derived_key_is_scram params realm name mechs.Plain cred key scram derived other = grind arith
derived_key_is_scram params realm name mechs.ScramSha1 (creds.Clear password) key scram derived other = grind arith
derived_key_is_scram params realm name mechs.ScramSha1 (creds.ScramSha1 salted) key scram derived other = grind arith
derived_key_is_scram params realm name mechs.ScramSha1 (creds.ScramSha256 salted) key scram derived other = grind arith
derived_key_is_scram params realm name mechs.ScramSha1 (creds.DigestMd5 ha1) key scram derived other = grind arith
derived_key_is_scram params realm name mechs.ScramSha1 (creds.DigestSha256 ha1) key scram derived other = grind arith
derived_key_is_scram params realm name mechs.ScramSha256 (creds.Clear password) key scram derived other = grind arith
derived_key_is_scram params realm name mechs.ScramSha256 (creds.ScramSha1 salted) key scram derived other = grind arith
derived_key_is_scram params realm name mechs.ScramSha256 (creds.ScramSha256 salted) key scram derived other = grind arith
derived_key_is_scram params realm name mechs.ScramSha256 (creds.DigestMd5 ha1) key scram derived other = grind arith
derived_key_is_scram params realm name mechs.ScramSha256 (creds.DigestSha256 ha1) key scram derived other = grind arith
derived_key_is_scram params realm name mechs.Digest cred key scram derived other = grind arith
derived_key_is_scram params realm name mechs.DigestSha256 cred key scram derived other = grind arith
