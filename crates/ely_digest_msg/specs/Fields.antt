-- The names that mean something in a header (RFC 7616 section 3.4), and the values that they have.
use Rattle.std.specs.Prelude.{ℕ, List, [], ◌∷◌, map, find, replicate, slice_index_or, slice_set, codes, Option, Some, None}
use Rattle.std.specs.Borrow.{Bor}
use Rattle.std.specs.Option.{option_map}
use Rattle.ely_digest_msg.specs.Parts.{same_word, unescaped}
use Rattle.ely_digest_msg.specs.declared.fault.DigestField.{DigestField}
use Rattle.ely_digest_msg.specs.declared.fault.DigestField.TheVariants.{Username, Realm, Nonce, Uri, Response, Nc, Cnonce, Qop, Algorithm, Opaque, Userhash}

-- the name, in lower case
abbrev pub field_text : DigestField → List ℕ
field_text Username = codes "username"
field_text Realm = codes "realm"
field_text Nonce = codes "nonce"
field_text Uri = codes "uri"
field_text Response = codes "response"
field_text Nc = codes "nc"
field_text Cnonce = codes "cnonce"
field_text Qop = codes "qop"
field_text Algorithm = codes "algorithm"
field_text Opaque = codes "opaque"
field_text Userhash = codes "userhash"

-- all of them
abbrev pub fields : List DigestField
fields = Username ∷ Realm ∷ Nonce ∷ Uri ∷ Response ∷ Nc ∷ Cnonce ∷ Qop ∷ Algorithm ∷ Opaque ∷ Userhash ∷ []

-- the first of some fields that a name means, in any case (RFC 7235 section 2.1)
abbrev pub first_named : List ℕ → List DigestField → Option DigestField
first_named name some = find (λ field. same_word name (field_text field)) some

-- the field that a name means; other names mean nothing
abbrev pub known : List ℕ → Option DigestField
known name = first_named name fields

-- the value of each field, in that order, if it was given
abbrev pub Values : Type 0
Values = List (Option (List ℕ))

-- the index of a field among the values
abbrev pub index_of : DigestField → ℕ
index_of Username = 0
index_of Realm = 1
index_of Nonce = 2
index_of Uri = 3
index_of Response = 4
index_of Nc = 5
index_of Cnonce = 6
index_of Qop = 7
index_of Algorithm = 8
index_of Opaque = 9
index_of Userhash = 10

-- the value of a field, if it was given
abbrev pub given : DigestField → Values → Option (List ℕ)
given field values = slice_index_or values (index_of field) None

-- the values with that of a field
abbrev pub with_value : DigestField → List ℕ → Values → Values
with_value field value values = slice_set values (index_of field) (Some value)

-- no field is given
abbrev pub nothing : Values
nothing = replicate 11 None

-- what texts with escapes stand for, as values
abbrev pub values_of : List (Option (Bor (List ℕ))) → Values
values_of raws = map (option_map (λ (raw : Bor (List ℕ)). unescaped raw.now)) raws
