-- Bytes are a text where their longest prefix that is UTF-8 is the whole of them, and then no fault of a text is found.
use Rattle.std.proofs.Common.{◌≡◌, ℕ, false, List, length, IsUtf8, arith, ltb}
use Rattle.std.proofs.lemmas.Bool.{cond-false}
use Rattle.std.proofs.lemmas.Bool.Decides.{nat_tests}
use Rattle.std.proofs.lemmas.Str.{utf8_valid_len-IsUtf8}
use Rattle.std.specs.Str.Lossy.{utf8_valid_len}
use Rattle.ely_base.proofs.NameLemmas.{text_from_len}
use Rattle.ely_scram_msg.specs.ClientFirst.{client_first_of, first_of}
use Rattle.ely_scram_msg.specs.ClientLast.{client_last_of, last_of}

pub text_where_no_fault : (bytes : List ℕ) → ltb (utf8_valid_len bytes) (length bytes) ≡ false → IsUtf8 bytes
text_where_no_fault bytes h = text_from_len bytes (grind (arith, nat_tests))

pub no_text_fault : (bytes : List ℕ) → IsUtf8 bytes → ltb (utf8_valid_len bytes) (length bytes) ≡ false
no_text_fault bytes u =
    let e : utf8_valid_len bytes ≡ length bytes = utf8_valid_len-IsUtf8 bytes u in
    grind (arith, nat_tests)

pub first_of_text : (bytes : List ℕ) → IsUtf8 bytes → client_first_of bytes ≡ first_of bytes
first_of_text bytes u = cond-false (ltb (utf8_valid_len bytes) (length bytes)) _ _ (no_text_fault bytes u)

pub last_of_text : (bytes : List ℕ) → IsUtf8 bytes → client_last_of bytes ≡ last_of bytes
last_of_text bytes u = cond-false (ltb (utf8_valid_len bytes) (length bytes)) _ _ (no_text_fault bytes u)
