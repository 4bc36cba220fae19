-- saslname of RFC 5802, sections 5.1 and 7: `=2C` stands for a comma, `=3D` for an equals sign; no other `=` may stand.
use Rattle.std.specs.Prelude.{ℕ, ◌+◌, ◌==◌, ◌&&◌, ◌||◌, ◌≡◌, Bool, not, nat_eq, codes, if◌then◌else◌, List, [], ◌∷◌, Option, Some, None, Result, Ok, Err}
use Rattle.std.specs.List.{starts_with}
use Rattle.std.specs.Option.{option_map}
use Rattle.ely_base.specs.Names.{IsName, name_of}
use Rattle.ely_base.specs.declared.name.NameFault.{NameFault}
use Rattle.ely_scram_msg.specs.declared.fault.MsgFault.{MsgFault}
use Rattle.ely_scram_msg.specs.declared.fault.MsgKind.TheVariants.{Escape, Name}
use Rattle.ely_scram_msg.specs.Located.{Located}
use Rattle.ely_scram_msg.specs.Fields.{fault}

-- what follows an `=` (61) begins `2C` or `3D`, these upper-case digits alone
abbrev pub is_escape : List ℕ → Bool
is_escape after = starts_with nat_eq after (codes "2C") || starts_with nat_eq after (codes "3D")

-- the offset of the first `=` that is no escape
abbrev pub bad_escape : List ℕ → Option ℕ
bad_escape [] = None
bad_escape (c ∷ after) = if c == 61 && not (is_escape after) then Some 0 else option_map (λ i. i + 1) (bad_escape after)

-- the bytes that a text stands for in which each `=` begins an escape
abbrev pub unescaped : List ℕ → List ℕ
unescaped [] = []
unescaped (c ∷ []) = c ∷ []
unescaped (c ∷ d ∷ []) = c ∷ d ∷ []
unescaped (c ∷ d ∷ e ∷ after) = if c == 61 then (if d == 50 then 44 else 61) ∷ unescaped after else c ∷ unescaped (d ∷ e ∷ after)

-- the name, or that the saslname that begins there stands for none
abbrev pub or_no_name : ℕ → Result (List ℕ) NameFault → Result (List ℕ) MsgFault
or_no_name offset (Ok name) = Ok name
or_no_name offset (Err f) = fault Name offset

-- the name that a saslname stands for, where the first `=` that is no escape is known;
-- it is found before all that is wrong with the name
abbrev pub without_escape_fault : Located → Option ℕ → Result (List ℕ) MsgFault
without_escape_fault part None = or_no_name part.offset (name_of (unescaped part.text))
without_escape_fault part (Some i) = fault Escape (part.offset + i)

-- the name that a saslname stands for
abbrev pub saslname_of : Located → Result (List ℕ) MsgFault
saslname_of part = without_escape_fault part (bad_escape part.text)

-- a saslname: each `=` begins an escape, and the bytes that it stands for are a name
pub record IsSaslname (text : List ℕ) : Type 0 where
  pub escapes : bad_escape text ≡ None
  pub name : IsName (unescaped text)
