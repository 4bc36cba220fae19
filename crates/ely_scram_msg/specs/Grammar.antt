-- The client's messages by the productions of RFC 5802, section 7: which bytes are which message, without a fault.
use Rattle.std.specs.Prelude.{ℕ, ◌≡◌, ◌↔◌, ◌==◌, ◌<◌, Bool, true, false, not, codes, List, [], ◌∷◌, ◌++◌, length, IsUtf8, Option, Some, None, Ok}
use Rattle.std.specs.List.{list_all, list_any}
use Rattle.ely_base.specs.Texts.{base64_of}
use Rattle.ely_scram_msg.specs.declared.first.Flag.{Flag}
use Rattle.ely_scram_msg.specs.declared.first.Flag.TheVariants.{N, Y}
use Rattle.ely_scram_msg.specs.declared.first.ClientFirst.{ClientFirst}
use Rattle.ely_scram_msg.specs.declared.last.ClientLast.{ClientLast}
use Rattle.ely_scram_msg.specs.Fields.{begins}
use Rattle.ely_scram_msg.specs.Saslnames.{IsSaslname, unescaped}
use Rattle.ely_scram_msg.specs.Nonces.{is_printable}
use Rattle.ely_scram_msg.specs.Extensions.{is_extension}
use Rattle.ely_scram_msg.specs.ClientFirst.{client_first_of}
use Rattle.ely_scram_msg.specs.ClientLast.{client_last_of}

-- the byte `,` (44)
abbrev pub is_comma : ℕ → Bool
is_comma b = b == 44

-- an attribute: its letter, `=` (61) and its value
abbrev pub attribute : List ℕ → List ℕ → List ℕ
attribute letter value = letter ++ 61 ∷ value

-- a comma stands in none of the texts
abbrev pub no_commas : List (List ℕ) → Bool
no_commas texts = list_all (λ text. not (list_any is_comma text)) texts

-- gs2-cbind-flag: `n` or `y`
abbrev pub flag_byte : Flag → ℕ
flag_byte N = 110
flag_byte Y = 121

-- saslname: a text without a comma whose escapes stand for the name
pub record IsSaslnameOf (text name : List ℕ) : Type 0 where
  pub no_comma : list_any is_comma text ≡ false
  pub is_saslname : IsSaslname text
  pub stands_for : name ≡ unescaped text

-- [authzid], where authzid is "a=" saslname
abbrev pub IsAuthzid : List ℕ → Option (List ℕ) → Type 0
IsAuthzid text None = text ≡ []
IsAuthzid text (Some name) = (value : List ℕ) × (text ≡ attribute (codes "a") value) × IsSaslnameOf value name

-- printable: one or more bytes
pub record IsNonce (nonce : List ℕ) : Type 0 where
  pub some : 0 < length nonce
  pub printable : list_all is_printable nonce ≡ true

-- base64: one or more symbols, of which none is a comma, that stand for the bytes
pub record IsBase64Of (text bytes : List ℕ) : Type 0 where
  pub some : 0 < length text
  pub no_comma : list_any is_comma text ≡ false
  pub stands_for : base64_of text ≡ Ok bytes

-- each text is an attr-val without a comma, and none is the reserved `m=` (109 is `m`)
pub record AreExtensions (extensions : List (List ℕ)) : Type 0 where
  pub attributes : list_all is_extension extensions ≡ true
  pub none_reserved : list_all (λ extension. not (begins 109 extension)) extensions ≡ true
  pub no_comma : no_commas extensions ≡ true

-- *("," attr-val)
abbrev pub extensions_text : List (List ℕ) → List ℕ
extensions_text [] = []
extensions_text (extension ∷ extensions) = 44 ∷ extension ++ extensions_text extensions

-- client-first-message: gs2-header client-first-message-bare, where gs2-header is gs2-cbind-flag "," [authzid] ","
-- and client-first-message-bare is "n=" saslname ",r=" printable *("," attr-val)
pub record IsClientFirst (bytes : List ℕ) (m : ClientFirst) : Type 0 where
  pub authzid : List ℕ
  pub name : List ℕ
  pub extensions : List (List ℕ)
  pub is_text : IsUtf8 bytes
  pub whole : bytes ≡ m.gs2 ++ m.bare
  pub gs2 : m.gs2 ≡ flag_byte m.flag ∷ 44 ∷ authzid ++ 44 ∷ []
  pub bare : m.bare ≡ attribute (codes "n") name ++ 44 ∷ attribute (codes "r") m.nonce ++ extensions_text extensions
  pub is_authzid : IsAuthzid authzid m.authzid
  pub is_name : IsSaslnameOf name m.name
  pub is_nonce : IsNonce m.nonce
  pub are_extensions : AreExtensions extensions

-- client-final-message: client-final-message-without-proof ",p=" base64,
-- where client-final-message-without-proof is "c=" base64 ",r=" printable *("," attr-val), and no attr-val is `p=` (112 is `p`)
pub record IsClientLast (bytes : List ℕ) (m : ClientLast) : Type 0 where
  pub binding : List ℕ
  pub extensions : List (List ℕ)
  pub proof : List ℕ
  pub is_text : IsUtf8 bytes
  pub whole : bytes ≡ m.without_proof ++ 44 ∷ attribute (codes "p") proof
  pub without_proof : m.without_proof ≡ attribute (codes "c") binding ++ 44 ∷ attribute (codes "r") m.nonce ++ extensions_text extensions
  pub is_binding : IsBase64Of binding m.binding
  pub is_nonce : IsNonce m.nonce
  pub are_extensions : AreExtensions extensions
  pub none_proof : list_all (λ extension. not (begins 112 extension)) extensions ≡ true
  pub is_proof : IsBase64Of proof m.proof

-- a client-first message is accepted where it is spelled so, and nowhere else
abbrev pub FirstIsTheGrammar : Type 0
FirstIsTheGrammar = (bytes : List ℕ) (m : ClientFirst) → (client_first_of bytes ≡ Ok m) ↔ IsClientFirst bytes m

-- a client-final message is accepted where it is spelled so, and nowhere else
abbrev pub LastIsTheGrammar : Type 0
LastIsTheGrammar = (bytes : List ℕ) (m : ClientLast) → (client_last_of bytes ≡ Ok m) ↔ IsClientLast bytes m
