-- The grammar of lists of members (RFC 7235 section 2.1), as relations between texts and what they say.
use Rattle.std.specs.Prelude.{◌≡◌, ◌≢◌, ◌⊎◌, ℕ, ◌<◌, true, false, List, [], ◌∷◌, ◌++◌, length, Option, Some, None, Ok, Err}
use Rattle.std.specs.List.{list_all}
use Rattle.std.specs.Option.{is_some}
use Rattle.ely_base.specs.Blanks.{is_blank}
use Rattle.ely_digest_msg.specs.Parts.{is_gap, is_token, after}
use Rattle.ely_digest_msg.specs.Fields.{Values, known, given, nothing}
use Rattle.ely_digest_msg.specs.Members.{kept, member_of, list_of}
use Rattle.ely_digest_msg.specs.declared.fault.DigestFault.{DigestFault}
use Rattle.ely_digest_msg.specs.declared.fault.DigestField.{DigestField}

-- one or more bytes of a token (RFC 7230 section 3.2.6)
abbrev pub IsToken : List ℕ → Type 0
IsToken text = (0 < length text) × (list_all is_token text ≡ true)

-- the first bytes, between quotes, stand for the second (RFC 7230 section 3.2.6)
pub data Quotes : List ℕ → List ℕ → Type 0 where
  none : Quotes [] []
  plain : {b : ℕ} {raw value : List ℕ} → b ≢ 34 → b ≢ 92 → Quotes raw value → Quotes (b ∷ raw) (b ∷ value)
  escape : {b c : ℕ} {raw value : List ℕ} → b ≡ 92 → Quotes raw value → Quotes (b ∷ c ∷ raw) (c ∷ value)

-- such bytes between two quotes
pub record IsQuotedText (raw value : List ℕ) : Type 0 where
  pub inner : List ℕ
  pub whole : raw ≡ 34 ∷ (inner ++ 34 ∷ [])
  pub quotes : Quotes inner value

-- the first bytes are a token, or a quoted text, and say the second
abbrev pub IsValue : List ℕ → List ℕ → Type 0
IsValue raw value = (IsToken raw × (raw ≡ value)) ⊎ IsQuotedText raw value

-- a name, and the value without escapes
abbrev pub Member : Type 0
Member = List ℕ × List ℕ

-- a name, `=` with blanks round it, and a value
pub record IsMember (m : Member) (text : List ℕ) : Type 0 where
  pub before : List ℕ
  pub behind : List ℕ
  pub raw : List ℕ
  pub whole : text ≡ m.0 ++ (before ++ 61 ∷ (behind ++ raw))
  pub name : IsToken m.0
  pub before_blank : list_all is_blank before ≡ true
  pub behind_blank : list_all is_blank behind ≡ true
  pub value : IsValue raw m.1

-- blanks and commas, a member, blanks, and what follows
pub record BeginsWith (m : Member) (text tail : List ℕ) : Type 0 where
  pub gap : List ℕ
  pub member : List ℕ
  pub blanks : List ℕ
  pub whole : text ≡ gap ++ (member ++ (blanks ++ tail))
  pub gap_all : list_all is_gap gap ≡ true
  pub is_member : IsMember m member
  pub blanks_all : list_all is_blank blanks ≡ true

-- members with commas between them, blanks round them, and empty ones anywhere (RFC 7230 section 7)
abbrev pub IsListOf : List Member → List ℕ → Type 0
IsListOf [] text = list_all is_gap text ≡ true
IsListOf (m ∷ ms) text = (BeginsWith m text [] × (ms ≡ [])) ⊎ ((rest : List ℕ) × BeginsWith m text (44 ∷ rest) × IsListOf ms rest)

-- a known name that has no value yet
abbrev pub IsNew : Values → Option DigestField → Type 0
IsNew values None = Unit {0}
IsNew values (Some field) = is_some (given field values) ≡ false

-- no known name stands twice, in whatever case
abbrev pub AreNew : Values → List Member → Type 0
AreNew values [] = Unit {0}
AreNew values (m ∷ ms) = IsNew values (known m.0) × AreNew (kept (known m.0) m.1 values) ms

-- the values of the known names
abbrev pub values_with : Values → List Member → Values
values_with values [] = values
values_with values (m ∷ ms) = values_with (kept (known m.0) m.1 values) ms

-- whole members, each with a comma behind it, and what is left of the text behind them
abbrev pub IsPrefix : List Member → List ℕ → List ℕ → Type 0
IsPrefix [] text rest = text ≡ rest
IsPrefix (m ∷ ms) text rest = (more : List ℕ) × BeginsWith m text (44 ∷ more) × IsPrefix ms more rest

-- behind whole members without a known name twice, a further member is due, and has that fault
pub record IsFirstFault (size : ℕ) (text : List ℕ) (fault : DigestFault) : Type 0 where
  pub members : List Member
  pub rest : List ℕ
  pub prefix : IsPrefix members text rest
  pub distinct : AreNew nothing members
  pub due : 0 < length (after is_gap rest)
  pub here : member_of size (values_with nothing members) (after is_gap rest) ≡ Err fault

-- a list in the grammar is read, with its values
abbrev pub ReadsLists : Type 0
ReadsLists = (size : ℕ) (text : List ℕ) (ms : List Member) → IsListOf ms text → AreNew nothing ms → list_of size text ≡ Ok (values_with nothing ms)

-- the text is a list in the grammar, without a known name twice, and these are its values
pub record IsRead (text : List ℕ) (values : Values) : Type 0 where
  pub members : List Member
  pub list : IsListOf members text
  pub distinct : AreNew nothing members
  pub kept_values : values ≡ values_with nothing members

-- what is read is in the grammar
abbrev pub ReadsNothingElse : Type 0
ReadsNothingElse = (size : ℕ) (text : List ℕ) (values : Values) → list_of size text ≡ Ok values → IsRead text values

-- the first fault of a list is told
abbrev pub TellsFaults : Type 0
TellsFaults = (size : ℕ) (text : List ℕ) (fault : DigestFault) → IsFirstFault size text fault → list_of size text ≡ Err fault

-- what is told is the first fault
abbrev pub TellsNothingElse : Type 0
TellsNothingElse = (size : ℕ) (text : List ℕ) (fault : DigestFault) → list_of size text ≡ Err fault → IsFirstFault size text fault
