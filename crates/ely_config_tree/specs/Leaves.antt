-- The faults of values whose parts aren't looked at.
use Rattle.std.specs.Prelude.{ℕ, ◌&&◌, Bool, true, false, if◌then◌else◌, nat_le, not, is_some, List, [], ◌∷◌, length, Option, Some, None, Result, Ok, Err}
use Rattle.std.specs.Option.{option_map_or}
use Rattle.std.specs.List.{list_all, list_any}
use Rattle.std.specs.Str.{bytes_eq}
use Rattle.serde_json.specs.Data.{Data, Num, unsigned, negative, float}
use Rattle.serde_json.specs.Find.{as_bool, as_number, as_object, as_str}
use Rattle.ely_base.specs.Names.{name_fault}
use Rattle.ely_base.specs.Printable.{is_printable_but}
use Rattle.ely_base.specs.Texts.{base64_of}
use Rattle.ely_base.specs.declared.texts.TextFault.{TextFault}
use Rattle.ely_config_tree.specs.declared.step.FaultKind.{FaultKind}
use Rattle.ely_config_tree.specs.declared.step.FaultKind.TheVariants.{Kind, Range}
use Rattle.ely_config_tree.specs.declared.shape.Shape.{Shape}
use Rattle.ely_config_tree.specs.declared.shape.Shape.TheVariants.{Rule, RoleMapper, Name, AnyText, Text, DigestRealm, Salt, Number, Flag, KindWord, RuleWord, RealmMapperWord, RoleMapperWord, ModeWord, OpWord}
use Rattle.ely_config_tree.specs.Table.{words_of}

-- a number from least to most
abbrev pub is_between : ℕ → ℕ → ℕ → Bool
is_between least most n = nat_le least n && nat_le n most

-- a range is met, or it is not
abbrev pub range_fault : Bool → Option FaultKind
range_fault met = if met then None else Some Range

-- the text is a name
abbrev pub is_name : List ℕ → Bool
is_name text = not (is_some (name_fault text))

-- 1 to 255 printable bytes without the quote and the backslash
abbrev pub is_digest_realm : List ℕ → Bool
is_digest_realm text = is_between 1 255 (length text) && list_all (is_printable_but (34 ∷ 92 ∷ [])) text

-- what the text stands for in base64 is 1 to 64 bytes
abbrev pub is_salt : Result (List ℕ) TextFault → Bool
is_salt (Ok bytes) = is_between 1 64 (length bytes)
is_salt (Err e) = false

-- one of the words
abbrev pub is_among : List (List ℕ) → List ℕ → Bool
is_among words text = list_any (λ word. bytes_eq text word) words

-- a whole number of 64 bits in a range; a negative one is out of each range
abbrev pub whole_fault : ℕ → ℕ → Num → Option FaultKind
whole_fault least most (unsigned n) = range_fault (is_between least most n)
whole_fault least most (negative z) = Some Range
whole_fault least most (float x) = Some Kind

-- the fault of a number
abbrev pub number_fault : ℕ → ℕ → Data → Option FaultKind
number_fault least most d = option_map_or (whole_fault least most) (as_number d) (Some Kind)

-- the fault of a truth value
abbrev pub flag_fault : Data → Option FaultKind
flag_fault d = option_map_or (λ b. None) (as_bool d) (Some Kind)

-- the fault of a value for which no level is left
abbrev pub deep_fault : Data → Option FaultKind
deep_fault d = option_map_or (λ ms. Some Range) (as_object d) (Some Kind)

-- what a shape asks of a text; most of them ask for no text
abbrev pub meets : Shape → List ℕ → Bool
meets Name text = is_name text
meets AnyText text = true
meets (Text least most) text = is_between least most (length text)
meets DigestRealm text = is_digest_realm text
meets Salt text = is_salt (base64_of text)
meets KindWord text = is_among (words_of KindWord) text
meets RuleWord text = is_among (words_of RuleWord) text
meets RealmMapperWord text = is_among (words_of RealmMapperWord) text
meets RoleMapperWord text = is_among (words_of RoleMapperWord) text
meets ModeWord text = is_among (words_of ModeWord) text
meets OpWord text = is_among (words_of OpWord) text
meets shape text = false

-- the fault of a text
abbrev pub text_fault : Shape → Data → Option FaultKind
text_fault shape d = option_map_or (λ text. range_fault (meets shape text)) (as_str d) (Some Kind)

-- the fault of a value whose parts aren't looked at; where a shape asks for parts, any such value is of another type
abbrev pub leaf_fault : Shape → Data → Option FaultKind
leaf_fault (Rule levels) d = deep_fault d
leaf_fault (RoleMapper levels) d = deep_fault d
leaf_fault Name d = text_fault Name d
leaf_fault AnyText d = text_fault AnyText d
leaf_fault (Text least most) d = text_fault (Text least most) d
leaf_fault DigestRealm d = text_fault DigestRealm d
leaf_fault Salt d = text_fault Salt d
leaf_fault (Number least most) d = number_fault least most d
leaf_fault Flag d = flag_fault d
leaf_fault KindWord d = text_fault KindWord d
leaf_fault RuleWord d = text_fault RuleWord d
leaf_fault RealmMapperWord d = text_fault RealmMapperWord d
leaf_fault RoleMapperWord d = text_fault RoleMapperWord d
leaf_fault ModeWord d = text_fault ModeWord d
leaf_fault OpWord d = text_fault OpWord d
leaf_fault shape d = Some Kind
