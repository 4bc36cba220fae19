-- Published values of the formulas, so that a wrong constant, order or step in a definition does not check.
use Rattle.std.proofs.Common.{◌≡◌, [], ◌∷◌, codes, refl, replicate}
use Rattle.md5.specs.Md5.{md5}
use Rattle.md5.specs.Md5 as M5
use Rattle.sha1.specs.Sha1.{sha1}
use Rattle.sha1.specs.Sha1 as S1
use Rattle.sha2.specs.Sha256.{sha256}
use Rattle.sha2.specs.Sha256 as S2
use Rattle.ely_hash.specs.Hashes.{md5_hash, sha1_hash, sha256_hash}
use Rattle.ely_hash.specs.Formulas.{inner_key, outer_key, hmac_of, xor_lists, xor_all, u_at, us_to, hi_of}

-- RFC 2104, the second of its test vectors
pub hmac_md5-jefe : hmac_of md5_hash (codes "Jefe") (codes "what do ya want for nothing?") ≡ 117 ∷ 12 ∷ 120 ∷ 62 ∷ 106 ∷ 176 ∷ 181 ∷ 3 ∷ 234 ∷ 168 ∷ 110 ∷ 49 ∷ 10 ∷ 93 ∷ 183 ∷ 56 ∷ []
unfolding inner_key outer_key hmac_of M5.block_words M5.rounds M5.compress M5.hash_after M5.digest_bytes md5
hmac_md5-jefe = refl

-- RFC 2202 section 3, test case 2
pub hmac_sha1-jefe : hmac_of sha1_hash (codes "Jefe") (codes "what do ya want for nothing?") ≡ 239 ∷ 252 ∷ 223 ∷ 106 ∷ 229 ∷ 235 ∷ 47 ∷ 162 ∷ 210 ∷ 116 ∷ 22 ∷ 213 ∷ 241 ∷ 132 ∷ 223 ∷ 156 ∷ 37 ∷ 154 ∷ 124 ∷ 121 ∷ []
unfolding inner_key outer_key hmac_of S1.first_words S1.schedule S1.rounds S1.compress S1.hash_after S1.digest_bytes sha1
hmac_sha1-jefe = refl

-- RFC 2202 section 3, test case 6: a key longer than a block
pub hmac_sha1-long_key : hmac_of sha1_hash (replicate 80 170) (codes "Test Using Larger Than Block-Size Key - Hash Key First") ≡ 170 ∷ 74 ∷ 229 ∷ 225 ∷ 82 ∷ 114 ∷ 208 ∷ 14 ∷ 149 ∷ 112 ∷ 86 ∷ 55 ∷ 206 ∷ 138 ∷ 59 ∷ 85 ∷ 237 ∷ 64 ∷ 33 ∷ 18 ∷ []
unfolding inner_key outer_key hmac_of S1.first_words S1.schedule S1.rounds S1.compress S1.hash_after S1.digest_bytes sha1
hmac_sha1-long_key = refl

-- RFC 4231 section 4.3, test case 2
pub hmac_sha256-jefe : hmac_of sha256_hash (codes "Jefe") (codes "what do ya want for nothing?") ≡ 91 ∷ 220 ∷ 193 ∷ 70 ∷ 191 ∷ 96 ∷ 117 ∷ 78 ∷ 106 ∷ 4 ∷ 36 ∷ 38 ∷ 8 ∷ 149 ∷ 117 ∷ 199 ∷ 90 ∷ 0 ∷ 63 ∷ 8 ∷ 157 ∷ 39 ∷ 57 ∷ 131 ∷ 157 ∷ 236 ∷ 88 ∷ 185 ∷ 100 ∷ 236 ∷ 56 ∷ 67 ∷ []
unfolding inner_key outer_key hmac_of S2.first_words S2.schedule S2.rounds S2.compress S2.hash_after S2.digest_bytes sha256
hmac_sha256-jefe = refl

-- RFC 6070 section 2, 1 turn
pub hi_sha1-one : hi_of sha1_hash (codes "password") (codes "salt") 1 ≡ 12 ∷ 96 ∷ 200 ∷ 15 ∷ 150 ∷ 31 ∷ 14 ∷ 113 ∷ 243 ∷ 169 ∷ 181 ∷ 36 ∷ 175 ∷ 96 ∷ 18 ∷ 6 ∷ 47 ∷ 224 ∷ 55 ∷ 166 ∷ []
unfolding inner_key outer_key hmac_of xor_lists xor_all u_at us_to hi_of S1.first_words S1.schedule S1.rounds S1.compress S1.hash_after S1.digest_bytes sha1
hi_sha1-one = refl

-- RFC 6070 section 2, 2 turns
pub hi_sha1-two : hi_of sha1_hash (codes "password") (codes "salt") 2 ≡ 234 ∷ 108 ∷ 1 ∷ 77 ∷ 199 ∷ 45 ∷ 111 ∷ 140 ∷ 205 ∷ 30 ∷ 217 ∷ 42 ∷ 206 ∷ 29 ∷ 65 ∷ 240 ∷ 216 ∷ 222 ∷ 137 ∷ 87 ∷ []
unfolding inner_key outer_key hmac_of xor_lists xor_all u_at us_to hi_of S1.first_words S1.schedule S1.rounds S1.compress S1.hash_after S1.digest_bytes sha1
hi_sha1-two = refl
