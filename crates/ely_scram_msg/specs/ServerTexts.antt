-- What the server writes (RFC 5802, sections 5.1 and 7).
use Rattle.std.specs.Prelude.{ℕ, List, ◌++◌, codes}
use Rattle.std.specs.Fmt.{decimal}
use Rattle.ely_base.specs.Texts.{base64_text}
use Rattle.ely_scram_msg.specs.declared.server.ServerError.{ServerError}
use Rattle.ely_scram_msg.specs.declared.server.ServerError.TheVariants.{InvalidProof, BindingsDontMatch, OtherError}

-- server-first-message: nonce "," salt "," iteration-count; these are "r=" the whole nonce, "s=" base64 and
-- "i=" a decimal number
abbrev pub server_first_text : List ℕ → List ℕ → ℕ → List ℕ
server_first_text nonce salt turns = codes "r=" ++ nonce ++ codes ",s=" ++ base64_text salt ++ codes ",i=" ++ decimal turns

-- verifier: "v=" base64, the whole of a server-final-message without an error
abbrev pub verifier_text : List ℕ → List ℕ
verifier_text verifier = codes "v=" ++ base64_text verifier

-- server-error-value, the three of them that this server gives
abbrev pub error_code : ServerError → List ℕ
error_code InvalidProof = codes "invalid-proof"
error_code BindingsDontMatch = codes "channel-bindings-dont-match"
error_code OtherError = codes "other-error"
