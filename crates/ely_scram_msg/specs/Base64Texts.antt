-- base64 of RFC 5802, section 7: the padded standard form of RFC 4648, section 4, of at least one byte.
use Rattle.std.specs.Prelude.{ℕ, ◌==◌, if◌then◌else◌, List, [], length, Result, Ok, Err}
use Rattle.ely_base.specs.Texts.{base64_of}
use Rattle.ely_base.specs.declared.texts.TextFault.{TextFault}
use Rattle.ely_scram_msg.specs.declared.fault.MsgFault.{MsgFault}
use Rattle.ely_scram_msg.specs.declared.fault.MsgKind.TheVariants.{Base64}
use Rattle.ely_scram_msg.specs.Located.{Located}
use Rattle.ely_scram_msg.specs.Fields.{fault}

-- the bytes, or that the value that begins there stands for none
abbrev pub or_bad_base64 : ℕ → Result (List ℕ) TextFault → Result (List ℕ) MsgFault
or_bad_base64 offset (Ok bytes) = Ok bytes
or_bad_base64 offset (Err f) = fault Base64 offset

-- the bytes that a value stands for: a base64 text of one or more bytes
abbrev pub base64_at : Located → Result (List ℕ) MsgFault
base64_at part =
    if length part.text == 0 then fault Base64 part.offset
    else or_bad_base64 part.offset (base64_of part.text)

-- the bytes, and none where there are none
abbrev pub or_none : Result (List ℕ) TextFault → List ℕ
or_none (Ok bytes) = bytes
or_none (Err f) = []

-- the bytes that a base64 text stands for
abbrev pub decoded : List ℕ → List ℕ
decoded text = or_none (base64_of text)
