-- Keys and places as bytes.
use Rattle.std.specs.Prelude.{ℕ, Bool, List, ◌∷◌, ◌++◌, [], length, nat_eq}
use Rattle.std.specs.List.{starts_with}
use Rattle.std.specs.Option.{option_map_or}
use Rattle.ely_row.specs.declared.edit.Edit.{Edit}
use Rattle.ely_row.specs.declared.mech.Mech.{Mech}
use Rattle.ely_row.specs.declared.mech.Mech.TheVariants.{Plain, ScramSha1, ScramSha256, Digest, DigestSha256}
use Rattle.ely_row.specs.Edits.{name_of, realm_of}

-- one number for each mechanism
abbrev pub mech_code : Mech → ℕ
mech_code Plain = 0
mech_code ScramSha1 = 1
mech_code ScramSha256 = 2
mech_code Digest = 3
mech_code DigestSha256 = 4

-- a mechanism and a name, as bytes that no others have
abbrev pub key_of : List ℕ → Mech → List ℕ
key_of name mech = mech_code mech ∷ name

-- a name behind its length, with which no other name so written begins
abbrev pub sized : List ℕ → List ℕ
sized name = length name ∷ name

-- a realm and a name, as bytes that no others have
abbrev pub place_code : List ℕ → List ℕ → List ℕ
place_code realm name = sized realm ++ sized name

-- what the codes of the places that an edit touches begin with: its realm, and its name where it is of one
abbrev pub touched_code : Edit → List ℕ
touched_code edit = sized (realm_of edit) ++ option_map_or sized (name_of edit) []

-- the code begins with the start
abbrev pub begins_with : List ℕ → List ℕ → Bool
begins_with start code = starts_with nat_eq code start
