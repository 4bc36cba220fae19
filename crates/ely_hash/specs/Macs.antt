-- What an HMAC in progress stands for.
use Rattle.std.specs.Prelude.{ℕ, List, ◌++◌}
use Rattle.ely_hash.specs.Hashes.{Hash}
use Rattle.ely_hash.specs.Formulas.{inner_key, outer_key}
use Rattle.ely_hash.specs.declared.mac.Hmac.{Hmac}

-- this key and this text: its inner hash has taken K xor ipad and the text, its outer hash K xor opad (RFC 2104 section 2)
pub record IsHmac {H : Type 0} (stands : H → List ℕ → Type 0) (hash : Hash) (mac : Hmac H) (key text : List ℕ) : Type 0 where
  pub inner : stands mac.inner (inner_key hash key ++ text)
  pub outer : stands mac.outer (outer_key hash key)
