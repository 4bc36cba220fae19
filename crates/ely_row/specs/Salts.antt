-- What a server keeps in place of a password, and what derives keys, with their bounds.
use Rattle.std.specs.Prelude.{ℕ, ◌==◌, ◌||◌, ◌&&◌, Bool, true, nat_le, not, List, [], length, Option, Some, None}
use Rattle.std.specs.List.{list_all}

-- a salted password (SaltedPassword), with the turns and the salt that made it (RFC 5802 section 3)
pub record Salted : Type 0 where
  pub turns : ℕ
  pub salt : List ℕ
  pub salted : List ℕ

-- H(A1) of Digest, with the realm that stands in it (RFC 7616 section 3.4.2)
pub record Ha1 : Type 0 where
  pub realm : List ℕ
  pub hash : List ℕ

-- how keys are derived of a clear password: the turns, a salt for every password or none, and the seed of derived salts
pub record Params : Type 0 where
  pub turns : ℕ
  pub salt : Option (List ℕ)
  pub seed : List ℕ

-- 1 to 1,000,000 turns
abbrev pub is_turns : ℕ → Bool
is_turns turns = nat_le 1 turns && nat_le turns 1000000

-- a salt: 1 to 64 bytes
abbrev pub is_salt : List ℕ → Bool
is_salt salt = nat_le 1 (length salt) && nat_le (length salt) 64

-- the bounds of a salted password whose hash has digests of this length
abbrev pub is_salted_by : ℕ → Salted → Bool
is_salted_by len s = is_turns s.turns && is_salt s.salt && length s.salted == len

-- the bounds of a salted password of SHA-1 or SHA-256
abbrev pub is_salted : Salted → Bool
is_salted s = is_salted_by 20 s || is_salted_by 32 s

-- a byte of a Digest realm: printable ASCII without the double quote and the backslash
abbrev pub is_realm_byte : ℕ → Bool
is_realm_byte b = nat_le 0x20 b && nat_le b 0x7E && not (b == 34 || b == 92)

-- the length of a Digest realm: 1 to 255 bytes
abbrev pub is_realm_len : ℕ → Bool
is_realm_len len = nat_le 1 len && nat_le len 255

-- a Digest realm: 1 to 255 such bytes
abbrev pub is_realm : List ℕ → Bool
is_realm realm = is_realm_len (length realm) && list_all is_realm_byte realm

-- the bounds of a hash of a Digest algorithm with digests of this length
abbrev pub is_hashed_by : ℕ → Ha1 → Bool
is_hashed_by len h = length h.hash == len && is_realm h.realm

-- the bounds of a hash of MD5 or SHA-256
abbrev pub is_hashed : Ha1 → Bool
is_hashed h = is_hashed_by 16 h || is_hashed_by 32 h

-- a salt, where there is one
abbrev pub is_salt_or_none : Option (List ℕ) → Bool
is_salt_or_none None = true
is_salt_or_none (Some salt) = is_salt salt

-- the bounds of what derives keys: the seed has 0 to 255 bytes
abbrev pub is_params : Params → Bool
is_params p = is_turns p.turns && is_salt_or_none p.salt && nat_le (length p.seed) 255

-- what holds where nothing else is said
abbrev pub plain_params : Params
plain_params = record { turns = 4096; salt = None; seed = [] }
