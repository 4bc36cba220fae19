-- What the values of the three hash functions stand for: the message that the state inside has taken.
use Rattle.std.specs.Prelude.{ℕ, List}
use Rattle.md5.specs.Md5.{Holds as HoldsMd5}
use Rattle.sha1.specs.Sha1.{Holds as HoldsSha1}
use Rattle.sha2.specs.Hashers.{Holds256}
use Rattle.ely_hash.specs.declared.alg.Md5Alg.{Md5Alg}
use Rattle.ely_hash.specs.declared.alg.Sha1Alg.{Sha1Alg}
use Rattle.ely_hash.specs.declared.alg.Sha256Alg.{Sha256Alg}

-- a value of MD5 (RFC 1321)
abbrev pub StandsMd5 : Md5Alg → List ℕ → Type 0
StandsMd5 hash m = HoldsMd5 hash.state m

-- a value of SHA-1 (FIPS 180-4 section 6.1)
abbrev pub StandsSha1 : Sha1Alg → List ℕ → Type 0
StandsSha1 hash m = HoldsSha1 hash.state m

-- a value of SHA-256 (FIPS 180-4 section 6.2)
abbrev pub StandsSha256 : Sha256Alg → List ℕ → Type 0
StandsSha256 hash m = Holds256 hash.state m
