-- The client's first message (RFC 5802, section 7), from left to right, with the first fault of bytes that are none.
use Rattle.std.specs.Prelude.{ℕ, ◌==◌, nat_eq, nat_lt, codes, if◌then◌else◌, List, length, take, drop, Option, Some, None, Result, Ok}
use Rattle.std.specs.List.{starts_with}
use Rattle.std.specs.Str.Lossy.{utf8_valid_len}
use Rattle.ely_base.specs.Refused.{◌>>=◌}
use Rattle.ely_scram_msg.specs.declared.fault.MsgFault.{MsgFault}
use Rattle.ely_scram_msg.specs.declared.fault.MsgKind.TheVariants.{Text, Flag as FlagKind, Bound}
use Rattle.ely_scram_msg.specs.declared.first.Flag.{Flag}
use Rattle.ely_scram_msg.specs.declared.first.Flag.TheVariants.{N, Y}
use Rattle.ely_scram_msg.specs.declared.first.ClientFirst.{ClientFirst}
use Rattle.ely_scram_msg.specs.declared.first.FirstView.{FirstView}
use Rattle.ely_scram_msg.specs.Located.{Located}
use Rattle.ely_scram_msg.specs.Fields.{fault, fields_of, due, value_of}
use Rattle.ely_scram_msg.specs.Saslnames.{saslname_of}
use Rattle.ely_scram_msg.specs.Nonces.{nonce_of}
use Rattle.ely_scram_msg.specs.Extensions.{extensions_of}

-- gs2-cbind-flag, with the comma behind it: `n,` or `y,`; `p=` asks for channel binding, which isn't offered
abbrev pub flag_of : List ℕ → Result Flag MsgFault
flag_of bytes =
    if starts_with nat_eq bytes (codes "n,") then Ok N
    else (if starts_with nat_eq bytes (codes "y,") then Ok Y
    else (if starts_with nat_eq bytes (codes "p=") then fault Bound 0
    else fault FlagKind 0))

-- [authzid], where authzid is `a=` saslname (97 is `a`); nothing between the two commas is no name
abbrev pub authzid_of : Located → Result (Option (List ℕ)) MsgFault
authzid_of field =
    if length field.text == 0 then Ok None
    else (value_of 97 field >>= saslname_of >>= λ name. Ok (Some name))

-- username: `n=` saslname (110 is `n`)
abbrev pub username_of : Located → Result (List ℕ) MsgFault
username_of field = value_of 110 field >>= saslname_of

-- client-first-message, of bytes that are a text: gs2-cbind-flag "," [authzid] "," username "," nonce ["," extensions];
-- the gs2-header ends with the second comma, and client-first-message-bare begins behind it
abbrev pub first_of : List ℕ → Result ClientFirst MsgFault
first_of bytes = do
  flag ← flag_of bytes
  before ← due (length bytes) (fields_of (record { offset = 0; text = bytes }))
  second ← due (length bytes) before.1
  authzid ← authzid_of second.0
  third ← due (length bytes) second.1
  name ← username_of third.0
  fourth ← due (length bytes) third.1
  nonce ← nonce_of fourth.0
  extensions ← extensions_of fourth.1
  Ok (record {
    flag = flag;
    authzid = authzid;
    name = name;
    nonce = nonce;
    gs2 = take third.0.offset bytes;
    bare = drop third.0.offset bytes;
  })

-- the message that the bytes stand for, or their first fault; that they are no text is found before all else
abbrev pub client_first_of : List ℕ → Result ClientFirst MsgFault
client_first_of bytes =
    if nat_lt (utf8_valid_len bytes) (length bytes) then fault Text (utf8_valid_len bytes)
    else first_of bytes

-- the message whose parts a view lends
abbrev pub first_parts : FirstView → ClientFirst
first_parts v = record {
  flag = v.flag;
  authzid = v.authzid;
  name = v.name;
  nonce = v.nonce.now;
  gs2 = v.gs2.now;
  bare = v.bare.now;
}
