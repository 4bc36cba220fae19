-- The arguments of the steps of a login.
use Rattle.std.specs.Prelude.{ℕ, ◌&&◌, Bool, nat_le, if◌then◌else◌, List, length, codes, Option, Some, None, Result, Ok, Err}
use Rattle.std.specs.List.{list_all}
use Rattle.std.specs.Str.{bytes_eq}
use Rattle.ely_base.specs.Printable.{is_printable_but}
use Rattle.ely_base.specs.Refused.{◌>>=◌, refused_as}
use Rattle.ely_digest_msg.specs.Replies.{reply_of}
use Rattle.ely_plain.specs.declared.message.PlainMsg.{PlainMsg}
use Rattle.ely_plain.specs.Messages.{plain_of}
use Rattle.ely_row.specs.declared.mech.Mech.{Mech}
use Rattle.ely_row.specs.declared.mech.Mech.TheVariants as mechs
use Rattle.ely_scram_msg.specs.ClientFirst.{client_first_of}
use Rattle.ely_scram_msg.specs.ClientLast.{client_last_of}
use Rattle.ely_script.specs.declared.command.Verb.{Verb}
use Rattle.ely_script.specs.declared.command.Verb.TheVariants as verbs
use Rattle.ely_script.specs.declared.limits.TheConstants.{MAX_NONCE_BYTES, MAX_PERMISSION_BYTES}
use Rattle.ely_login.specs.declared.outcome.BadLine.{BadLine}
use Rattle.ely_login.specs.declared.outcome.BadLine.TheVariants as bad
use Rattle.ely_script.specs.Arguments.{first_of, last_of, one_of, two_of, rest_of, ctx_at, raw_at, base64_at, coded_at}
use Rattle.ely_script.specs.Words.{mech_text}

-- the mechanism that the fourth word names
abbrev pub mech_at : List ℕ → Result Mech BadLine
mech_at word =
    if bytes_eq word (mech_text mechs.Plain) then Ok mechs.Plain
    else (if bytes_eq word (mech_text mechs.ScramSha1) then Ok mechs.ScramSha1
    else (if bytes_eq word (mech_text mechs.ScramSha256) then Ok mechs.ScramSha256
    else (if bytes_eq word (mech_text mechs.Digest) then Ok mechs.Digest
    else (if bytes_eq word (mech_text mechs.DigestSha256) then Ok mechs.DigestSha256
    else Err (bad.Word 4)))))

-- a nonce: 1 to 128 printable bytes, none of them a space, a double quote, a comma or a backslash
abbrev pub is_nonce : List ℕ → Bool
is_nonce word =
    nat_le 1 (length word) && nat_le (length word) MAX_NONCE_BYTES
    && list_all (is_printable_but (codes " \",\\")) word

-- the nonce that the fifth word is, where it is there
abbrev pub nonce_at : Option (List ℕ) → Result (Option (List ℕ)) BadLine
nonce_at None = Ok None
nonce_at (Some word) = if is_nonce word then Ok (Some word) else Err (bad.Word 5)

-- open CTX MECH, or open CTX MECH NONCE
abbrev pub open_of : List (List ℕ) → Result Verb BadLine
open_of args = do
  first ← first_of args
  second ← first_of first.1
  third ← last_of second.1
  ctx ← ctx_at 3 first.0
  mech ← mech_at second.0
  opening ← nonce_at third
  Ok (verbs.Begin ctx mech opening)

-- the message of PLAIN whose base64 text the fourth word is
abbrev pub message_at : List ℕ → Result PlainMsg BadLine
message_at word = do
  bytes ← base64_at 4 word
  refused_as bad.Plain (plain_of bytes)

-- plain CTX BASE64
abbrev pub plain_line_of : List (List ℕ) → Result Verb BadLine
plain_line_of args = do
  words ← two_of args
  ctx ← ctx_at 3 words.0
  message ← message_at words.1
  Ok (verbs.Plain ctx message)

-- CTX REST: the login that CTX names, and all that stands behind the space behind it
abbrev pub ctx_rest_of : List (List ℕ) → Result (ℕ × List ℕ) BadLine
ctx_rest_of args = do
  first ← first_of args
  rest ← rest_of first.1
  ctx ← ctx_at 3 first.0
  Ok (ctx, rest)

-- first CTX REST, where REST is a client-first message (RFC 5802, section 7)
abbrev pub first_line_of : List (List ℕ) → Result Verb BadLine
first_line_of args = do
  line ← ctx_rest_of args
  message ← refused_as bad.Scram (client_first_of line.1)
  Ok (verbs.First line.0 message)

-- final CTX REST, where REST is a client-final message (RFC 5802, section 7)
abbrev pub final_line_of : List (List ℕ) → Result Verb BadLine
final_line_of args = do
  line ← ctx_rest_of args
  message ← refused_as bad.Scram (client_last_of line.1)
  Ok (verbs.Last line.0 message)

-- CTX METHOD TARGET REST: the login, the method and the target of a request (RFC 7616 section 3.4), and what stands behind them
abbrev pub request_of : List (List ℕ) → Result (ℕ × List ℕ × List ℕ × List ℕ) BadLine
request_of args = do
  first ← first_of args
  second ← first_of first.1
  third ← first_of second.1
  rest ← rest_of third.1
  ctx ← ctx_at 3 first.0
  method ← raw_at 4 second.0
  target ← raw_at 5 third.0
  Ok (ctx, method, target, rest)

-- digest CTX METHOD TARGET REST, where REST is an Authorization header (RFC 7616 section 3.4)
abbrev pub digest_line_of : List (List ℕ) → Result Verb BadLine
digest_line_of args = do
  line ← request_of args
  reply ← refused_as bad.Digest (reply_of line.3)
  Ok (verbs.Digest line.0 line.1 line.2 reply)

-- the login that CTX names, which stands alone
abbrev pub only_ctx_at : List (List ℕ) → Result ℕ BadLine
only_ctx_at args = one_of args >>= λ word. ctx_at 3 word

-- authorize CTX, succeed CTX, fail CTX and close CTX
abbrev pub only_ctx_of : (ℕ → Verb) → List (List ℕ) → Result Verb BadLine
only_ctx_of verb args = only_ctx_at args >>= λ ctx. Ok (verb ctx)

-- a permission: a coded word of 1 to 255 bytes
abbrev pub permission_at : List ℕ → Result (List ℕ) BadLine
permission_at word = coded_at 4 word >>= λ bytes.
    (if nat_le 1 (length bytes) && nat_le (length bytes) MAX_PERMISSION_BYTES then Ok bytes else Err (bad.Word 4))

-- allows CTX PERMISSION
abbrev pub allows_of : List (List ℕ) → Result Verb BadLine
allows_of args = do
  words ← two_of args
  ctx ← ctx_at 3 words.0
  wanted ← permission_at words.1
  Ok (verbs.Allows ctx wanted)
