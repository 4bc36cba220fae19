-- The client's last message (RFC 5802, section 7), from left to right, with the first fault of bytes that are none.
use Rattle.std.specs.Prelude.{ℕ, ◌-◌, nat_lt, if◌then◌else◌, List, [], ◌∷◌, length, take, Result, Ok}
use Rattle.std.specs.Str.Lossy.{utf8_valid_len}
use Rattle.ely_base.specs.Refused.{◌>>=◌}
use Rattle.ely_scram_msg.specs.declared.fault.MsgFault.{MsgFault}
use Rattle.ely_scram_msg.specs.declared.fault.MsgKind.TheVariants.{Text, Trailing}
use Rattle.ely_scram_msg.specs.declared.last.ClientLast.{ClientLast}
use Rattle.ely_scram_msg.specs.declared.last.LastView.{LastView}
use Rattle.ely_scram_msg.specs.Located.{Located}
use Rattle.ely_scram_msg.specs.Fields.{fault, fields_of, due, begins, rest_of_value, value_of}
use Rattle.ely_scram_msg.specs.Nonces.{nonce_of}
use Rattle.ely_scram_msg.specs.Extensions.{extension_of}
use Rattle.ely_scram_msg.specs.Base64Texts.{base64_at}

-- channel-binding: `c=` base64 (99 is `c`)
abbrev pub binding_of : Located → Result (List ℕ) MsgFault
binding_of field = value_of 99 field >>= base64_at

-- proof: `p=` base64, here with the offset of the comma before it;
-- nothing may stand behind it, and its own fault is found first
abbrev pub proof_of : Located → List Located → Result (List ℕ × ℕ) MsgFault
proof_of field [] = base64_at (rest_of_value field) >>= λ proof. Ok (proof, field.offset - 1)
proof_of field (next ∷ rest) = base64_at (rest_of_value field) >>= λ proof. fault Trailing (next.offset - 1)

-- extensions up to the first `p=` (112 is `p`), which is the proof; end is the message's length
abbrev pub ending_of : ℕ → List Located → Result (List ℕ × ℕ) MsgFault
ending_of end [] = fault Trailing end
ending_of end (field ∷ rest) =
    if begins 112 field.text then proof_of field rest
    else (extension_of field >>= λ _. ending_of end rest)

-- client-final-message, of bytes that are a text: channel-binding "," nonce ["," extensions] "," proof;
-- client-final-message-without-proof ends before the proof's comma
abbrev pub last_of : List ℕ → Result ClientLast MsgFault
last_of bytes = do
  first ← due (length bytes) (fields_of (record { offset = 0; text = bytes }))
  binding ← binding_of first.0
  second ← due (length bytes) first.1
  nonce ← nonce_of second.0
  ending ← ending_of (length bytes) second.1
  Ok (record {
    binding = binding;
    nonce = nonce;
    proof = ending.0;
    without_proof = take ending.1 bytes;
  })

-- the message that the bytes stand for, or their first fault; that they are no text is found before all else
abbrev pub client_last_of : List ℕ → Result ClientLast MsgFault
client_last_of bytes =
    if nat_lt (utf8_valid_len bytes) (length bytes) then fault Text (utf8_valid_len bytes)
    else last_of bytes

-- the message whose parts a view lends
abbrev pub last_parts : LastView → ClientLast
last_parts v = record {
  binding = v.binding;
  nonce = v.nonce.now;
  proof = v.proof;
  without_proof = v.without_proof.now;
}
