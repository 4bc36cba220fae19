-- Headers that are kept.
use Rattle.std.specs.Prelude.{ℕ, List, Result, Ok}
use Rattle.ely_base.specs.Refused.{◌>>=◌}
use Rattle.ely_digest_msg.specs.Headers.{header_of}
use Rattle.ely_digest_msg.specs.declared.fault.DigestFault.{DigestFault}
use Rattle.ely_digest_msg.specs.declared.header.HeaderView.{HeaderView}
use Rattle.ely_digest_msg.specs.declared.reply.DigestReply.{DigestReply}

-- the same fields
abbrev pub reply_from : HeaderView → DigestReply
reply_from h = record { alg = h.alg; name = h.name; realm = h.realm; nonce = h.nonce; uri = h.uri; response = h.response; nc = h.nc; cnonce = h.cnonce }

-- what a text is read as: the fields of the header that it is, or its first fault
abbrev pub reply_of : List ℕ → Result DigestReply DigestFault
reply_of text = header_of text >>= (λ h. Ok (reply_from h))
