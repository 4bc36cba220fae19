-- Hash functions, and the three that there are.
use Rattle.std.specs.Prelude.{ℕ, List}
use Rattle.md5.specs.Md5.{md5}
use Rattle.sha1.specs.Sha1.{sha1}
use Rattle.sha2.specs.Sha256.{sha256}

-- a hash function: the digest of each message, and the lengths of a digest and of a block in bytes
pub record Hash : Type 0 where
  pub digest : List ℕ → List ℕ
  pub len : ℕ
  pub block : ℕ

-- MD5 (RFC 1321)
abbrev pub md5_hash : Hash
md5_hash = record { digest = md5; len = 16; block = 64 }

-- SHA-1 (FIPS 180-4 section 6.1)
abbrev pub sha1_hash : Hash
sha1_hash = record { digest = sha1; len = 20; block = 64 }

-- SHA-256 (FIPS 180-4 section 6.2)
abbrev pub sha256_hash : Hash
sha256_hash = record { digest = sha256; len = 32; block = 64 }
