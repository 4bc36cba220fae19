-- The response of Digest as a formula on lists of bytes, over any hash function (RFC 7616 section 3.4, with qop auth).
use Rattle.std.specs.Prelude.{ℕ, ◌≡◌, List, ◌++◌, codes, Ok}
use Rattle.std.specs.Int.{to_be_bytes, w32}
use Rattle.ely_base.specs.Texts.{hex_text}
use Rattle.ely_hash.specs.Hashes.{Hash}
use Rattle.ely_digest_msg.specs.Headers.{count_of}
use Rattle.ely_digest_msg.specs.declared.reply.DigestReply.{DigestReply}

-- H(A2), where A2 is Method ":" request-uri (section 3.4.3)
abbrev pub ha2_of : Hash → List ℕ → List ℕ → List ℕ
ha2_of hash method uri = hash.digest (method ++ codes ":" ++ uri)

-- nc as it stands in the header: eight lower-case hexadecimal digits (section 3.4)
abbrev pub nc_text : ℕ → List ℕ
nc_text nc = hex_text (to_be_bytes w32 nc)

-- KD(H(A1), unq(nonce) ":" nc ":" unq(cnonce) ":" unq(qop) ":" H(A2)), where KD(secret, data) is H(secret ":" data)
-- (section 3.4.1), and each digest inside is in lower-case hexadecimal digits (section 3.2)
abbrev pub response_of : Hash → List ℕ → DigestReply → List ℕ → List ℕ
response_of hash h1 reply method =
    hash.digest (hex_text h1 ++ codes ":" ++ reply.nonce ++ codes ":" ++ nc_text reply.nc ++ codes ":" ++ reply.cnonce
    ++ codes ":" ++ codes "auth" ++ codes ":" ++ hex_text (ha2_of hash method reply.uri))

-- the count that the formula takes is the text from which a header's count was read
abbrev pub CountsAsRead : Type 0
CountsAsRead = (text : List ℕ) (nc : ℕ) → count_of text ≡ Ok nc → nc_text nc ≡ text
