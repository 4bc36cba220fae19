-- HMAC, Hi, the keys of SCRAM and H(A1) of Digest as formulas on lists of bytes, over any hash function.
use Rattle.std.specs.Prelude.{ℕ, zero, suc, ◌-◌, nat_le, List, [], ◌∷◌, ◌++◌, length, replicate, map, bit_xor, codes, if◌then◌else◌}
use Rattle.ely_hash.specs.Hashes.{Hash}

-- ---- HMAC (RFC 2104 section 2)

-- the key itself, or its digest where it is longer than a block
abbrev pub short_key : Hash → List ℕ → List ℕ
short_key hash key = if nat_le (length key) hash.block then key else hash.digest key

-- K: the key with zeros after it, up to the length of a block
abbrev pub block_key : Hash → List ℕ → List ℕ
block_key hash key = short_key hash key ++ replicate (hash.block - length (short_key hash key)) 0

-- the exclusive or of each byte and a pad
abbrev pub xor_each : ℕ → List ℕ → List ℕ
xor_each pad xs = map (λ x. bit_xor x pad) xs

-- K xor ipad
unfoldable pub inner_key : Hash → List ℕ → List ℕ
inner_key hash key = xor_each 0x36 (block_key hash key)

-- K xor opad
unfoldable pub outer_key : Hash → List ℕ → List ℕ
outer_key hash key = xor_each 0x5c (block_key hash key)

-- HMAC is H (K xor opad, H (K xor ipad, text))
unfoldable pub hmac_of : Hash → List ℕ → List ℕ → List ℕ
hmac_of hash key text = hash.digest (outer_key hash key ++ hash.digest (inner_key hash key ++ text))

-- ---- Hi (RFC 5802 section 2.2)

-- the exclusive or of two lists of one length
unfoldable pub xor_lists : List ℕ → List ℕ → List ℕ
xor_lists [] ys = []
xor_lists (x ∷ xs) [] = []
xor_lists (x ∷ xs) (y ∷ ys) = bit_xor x y ∷ xor_lists xs ys

-- the exclusive or of all these lists
unfoldable pub xor_all : List (List ℕ) → List ℕ
xor_all [] = []
xor_all (x ∷ []) = x
xor_all (x ∷ y ∷ ys) = xor_lists x (xor_all (y ∷ ys))

-- U1 is the MAC of the first text, and each further U is the MAC of the U before it; this is U (k + 1)
unfoldable pub u_at : (List ℕ → List ℕ) → List ℕ → ℕ → List ℕ
u_at mac first zero = mac first
u_at mac first (suc k) = mac (u_at mac first k)

-- the list of all U, from U1 to Un
unfoldable pub us_to : (List ℕ → List ℕ) → List ℕ → ℕ → List (List ℕ)
us_to mac first zero = []
us_to mac first (suc n) = us_to mac first n ++ u_at mac first n ∷ []

-- Hi is the exclusive or of all U, where U1 is the MAC of the salt and INT(1), which is 00 00 00 01
unfoldable pub hi_of : Hash → List ℕ → List ℕ → ℕ → List ℕ
hi_of hash password salt turns =
    xor_all (us_to (hmac_of hash password) (salt ++ 0 ∷ 0 ∷ 0 ∷ 1 ∷ []) turns)

-- ---- the keys (RFC 5802 section 3)

-- ClientKey is HMAC (SaltedPassword, "Client Key")
abbrev pub client_key_of : Hash → List ℕ → List ℕ
client_key_of hash salted = hmac_of hash salted (codes "Client Key")

-- StoredKey is H (ClientKey)
abbrev pub stored_key_of : Hash → List ℕ → List ℕ
stored_key_of hash salted = hash.digest (client_key_of hash salted)

-- ServerKey is HMAC (SaltedPassword, "Server Key")
abbrev pub server_key_of : Hash → List ℕ → List ℕ
server_key_of hash salted = hmac_of hash salted (codes "Server Key")

-- ---- what Digest keeps in place of a password (RFC 7616 section 3.4.2)

-- H (A1), where A1 is the name, the realm and the password with a colon between them
abbrev pub ha1_of : Hash → List ℕ → List ℕ → List ℕ → List ℕ
ha1_of hash name realm password = hash.digest (name ++ codes ":" ++ realm ++ codes ":" ++ password)
