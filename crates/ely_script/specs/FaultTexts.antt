-- The printed causes of refusals.
use Rattle.std.specs.Prelude.{ℕ, List, ◌++◌, codes}
use Rattle.std.specs.Fmt.{decimal}
use Rattle.ely_base.specs.Words.{word_text}
use Rattle.ely_digest_msg.specs.Fields.{field_text}
use Rattle.ely_digest_msg.specs.declared.fault.DigestFault.{DigestFault}
use Rattle.ely_digest_msg.specs.declared.fault.DigestFault.TheVariants as headers
use Rattle.ely_plain.specs.declared.message.PlainFault.{PlainFault}
use Rattle.ely_plain.specs.declared.message.PlainFault.TheVariants as plain
use Rattle.ely_row.specs.declared.fault.CredFault.{CredFault}
use Rattle.ely_row.specs.declared.fault.CredFault.TheVariants as creds
use Rattle.ely_row.specs.declared.edit.EditFault.{EditFault}
use Rattle.ely_row.specs.declared.edit.EditFault.TheVariants as faults
use Rattle.ely_row.specs.declared.edit.PropFault.{PropFault}
use Rattle.ely_row.specs.declared.edit.PropFault.TheVariants as props
use Rattle.ely_pipeline.specs.declared.place.PipeFault.{PipeFault}
use Rattle.ely_pipeline.specs.declared.place.PipeFault.TheVariants as pipes
use Rattle.ely_scram_msg.specs.declared.fault.MsgFault.{MsgFault}
use Rattle.ely_scram_msg.specs.declared.fault.MsgKind.{MsgKind}
use Rattle.ely_scram_msg.specs.declared.fault.MsgKind.TheVariants as kinds
use Rattle.ely_login.specs.declared.outcome.BadLine.{BadLine}
use Rattle.ely_login.specs.declared.outcome.BadLine.TheVariants as bad

-- a fault of a credential
abbrev pub cred_text : CredFault → List ℕ
cred_text creds.Kind = codes "kind"
cred_text creds.Turns = codes "turns"
cred_text creds.Base64 = codes "base64"
cred_text creds.Hex = codes "hex"
cred_text creds.Length = codes "length"
cred_text creds.Text = codes "text"

-- a fault of a message of PLAIN
abbrev pub plain_text : PlainFault → List ℕ
plain_text (plain.NoNul count) = codes "nul " ++ decimal count
plain_text (plain.NotText offset) = codes "text " ++ decimal offset
plain_text plain.EmptyName = codes "empty-name"
plain_text plain.EmptyPassword = codes "empty-password"
plain_text (plain.Name fault) = codes "name"

-- what is wrong with a message of SCRAM
abbrev pub kind_text : MsgKind → List ℕ
kind_text kinds.Text = codes "text"
kind_text kinds.Flag = codes "flag"
kind_text kinds.Bound = codes "bound"
kind_text kinds.Mandatory = codes "mandatory"
kind_text kinds.Attr = codes "attr"
kind_text kinds.Escape = codes "escape"
kind_text kinds.Name = codes "name"
kind_text kinds.Nonce = codes "nonce"
kind_text kinds.Base64 = codes "base64"
kind_text kinds.Trailing = codes "trailing"

-- a fault of a message of SCRAM, with its offset there
abbrev pub scram_text : MsgFault → List ℕ
scram_text fault = kind_text fault.kind ++ codes " " ++ decimal fault.place

-- a fault of a header of Digest, with its offset there or its field
abbrev pub header_text : DigestFault → List ℕ
header_text headers.Scheme = codes "scheme 0"
header_text (headers.Token offset) = codes "token " ++ decimal offset
header_text (headers.Quote offset) = codes "quote " ++ decimal offset
header_text (headers.Repeat field) = codes "repeat " ++ field_text field
header_text (headers.Missing field) = codes "missing " ++ field_text field
header_text headers.Name = codes "name"
header_text headers.Nc = codes "nc"
header_text headers.Algorithm = codes "algorithm"
header_text headers.Qop = codes "qop"
header_text headers.Userhash = codes "userhash"

-- a fault of a line
abbrev pub bad_text : BadLine → List ℕ
bad_text bad.Long = codes "long"
bad_text bad.NoActor = codes "no-actor"
bad_text bad.NoVerb = codes "no-verb"
bad_text bad.Verb = codes "verb"
bad_text bad.Arity = codes "arity"
bad_text (bad.Number word) = codes "number " ++ decimal word
bad_text (bad.Word word) = codes "word " ++ decimal word
bad_text (bad.Cred fault) = codes "cred " ++ cred_text fault
bad_text (bad.Plain fault) = codes "message " ++ plain_text fault
bad_text (bad.Scram fault) = codes "message " ++ scram_text fault
bad_text (bad.Digest fault) = codes "message " ++ header_text fault

-- a fault of a properties text
abbrev pub prop_text : PropFault → List ℕ
prop_text (props.BadLine line) = codes "bad-line " ++ decimal line
prop_text (props.BadHex line) = codes "bad-hex " ++ decimal line
prop_text (props.Twice line) = codes "twice " ++ decimal line
prop_text (props.TooMany line) = codes "too-many " ++ decimal line

-- why an edit is refused
abbrev pub fault_text : EditFault → List ℕ
fault_text (faults.JournalFull limit) = codes "journal-full " ++ decimal limit
fault_text faults.NoRealm = codes "no-realm"
fault_text faults.ReadOnly = codes "read-only"
fault_text faults.Exists = codes "exists"
fault_text faults.Absent = codes "absent"
fault_text faults.NoCred = codes "no-cred"
fault_text faults.NoAttr = codes "no-attr"
fault_text faults.CredsFull = codes "creds-full"
fault_text faults.AttrsFull = codes "attrs-full"
fault_text faults.RowsFull = codes "rows-full"
fault_text (faults.Users fault) = codes "users " ++ prop_text fault
fault_text (faults.Groups fault) = codes "groups " ++ prop_text fault

-- the stage that gave no place
abbrev pub pipe_text : PipeFault → List ℕ
pipe_text pipes.Undecoded = codes "decoder"
pipe_text pipes.PreRealm = codes "pre-realm"
pipe_text (pipes.NoRealm text) = codes "no-realm " ++ word_text text
pipe_text pipes.PostRealm = codes "post-realm"
pipe_text pipes.RealmStep = codes "realm"
