-- The challenge (RFC 7616 section 3.3).
use Rattle.std.specs.Prelude.{ℕ, List, ◌++◌, codes}
use Rattle.ely_digest_msg.specs.Headers.{alg_text}
use Rattle.ely_digest_msg.specs.declared.header.DigestAlg.{DigestAlg}

-- the text of a challenge
abbrev pub challenge_of : List ℕ → DigestAlg → List ℕ → List ℕ
challenge_of realm alg nonce =
    codes "Digest realm=\"" ++ realm ++ codes "\", qop=\"auth\", algorithm=" ++ alg_text alg ++ codes ", nonce=\"" ++ nonce ++ codes "\""
