-- What a list of edits makes of an identity, and which edits are refused.
use Rattle.std.specs.Prelude.{ℕ, ◌&&◌, Bool, if◌then◌else◌, nat_le, List, fold, Option, Some, None}
use Rattle.std.specs.Option.{option_map}
use Rattle.std.specs.Map.{lookup}
use Rattle.std.specs.Str.{bytes_eq}
use Rattle.ely_row.specs.declared.edit.Edit.{Edit}
use Rattle.ely_row.specs.declared.edit.Edit.TheVariants.{Add, Remove, SetCred, DropCred, SetAttr, DropAttr, Reload}
use Rattle.ely_row.specs.declared.edit.EditFault.{EditFault}
use Rattle.ely_row.specs.declared.edit.EditFault.TheVariants.{Exists, Absent, NoCred, NoAttr, CredsFull, AttrsFull, RowsFull}
use Rattle.ely_row.specs.Rows.{Row, empty_row, has_cred, has_attr, has_cred_room, has_attr_room, with_cred, without_cred, with_attr, without_attr}

-- a realm and a name are these
abbrev pub is_place : List ℕ → List ℕ → List ℕ → List ℕ → Bool
is_place r n realm name = bytes_eq realm r && bytes_eq name n

-- the realm that an edit names
abbrev pub realm_of : Edit → List ℕ
realm_of (Add realm name) = realm
realm_of (Remove realm name) = realm
realm_of (SetCred realm name slot cred) = realm
realm_of (DropCred realm name slot) = realm
realm_of (SetAttr realm name attr values) = realm
realm_of (DropAttr realm name attr) = realm
realm_of (Reload realm users groups) = realm

-- the name of the one identity that an edit changes; a reload is of no one
abbrev pub name_of : Edit → Option (List ℕ)
name_of (Add realm name) = Some name
name_of (Remove realm name) = Some name
name_of (SetCred realm name slot cred) = Some name
name_of (DropCred realm name slot) = Some name
name_of (SetAttr realm name attr values) = Some name
name_of (DropAttr realm name attr) = Some name
name_of (Reload realm users groups) = None

-- the edit is of this realm and this name; a reload is of each name of its realm, those that never had a row too
abbrev pub is_of : List ℕ → List ℕ → Edit → Bool
is_of r n (Add realm name) = is_place r n realm name
is_of r n (Remove realm name) = is_place r n realm name
is_of r n (SetCred realm name slot cred) = is_place r n realm name
is_of r n (DropCred realm name slot) = is_place r n realm name
is_of r n (SetAttr realm name attr values) = is_place r n realm name
is_of r n (DropAttr realm name attr) = is_place r n realm name
is_of r n (Reload realm users groups) = bytes_eq realm r

-- what an edit of one identity makes of the row that it names; a reload leaves nothing of a row
abbrev pub changed : Edit → Option Row → Option Row
changed (Add realm name) row = Some empty_row
changed (Remove realm name) row = None
changed (SetCred realm name slot cred) row = option_map (with_cred slot cred) row
changed (DropCred realm name slot) row = option_map (without_cred slot) row
changed (SetAttr realm name attr values) row = option_map (with_attr attr values) row
changed (DropAttr realm name attr) row = option_map (without_attr attr) row
changed (Reload realm users groups) row = None

-- what the two texts of a reload give: of the realm, the users and the groups, each name with its row
abbrev pub Texts : Type 0
Texts = List ℕ → List ℕ → List ℕ → List (List ℕ × Row)

-- what an edit makes of the row of n, which it is of; after a reload that is the row which its texts give
abbrev pub made : Texts → List ℕ → Edit → Option Row → Option Row
made texts n (Reload realm users groups) row = lookup (bytes_eq n) (texts realm users groups)
made texts n edit row = changed edit row

-- what an edit makes of the row of n in r
abbrev pub row_after : Texts → List ℕ → List ℕ → Option Row → Edit → Option Row
row_after texts r n row edit = if is_of r n edit then made texts n edit row else row

-- the row that the edits made of n in r
unfoldable pub row : Texts → List Edit → List ℕ → List ℕ → Option Row
row texts edits r n = fold (row_after texts r n) None edits

-- why an edit of an identity that is there is refused
abbrev pub fault_there : Row → Edit → Option EditFault
fault_there row (Add realm name) = Some Exists
fault_there row (Remove realm name) = None
fault_there row (SetCred realm name slot cred) = if has_cred_room slot row then None else Some CredsFull
fault_there row (DropCred realm name slot) = if has_cred slot row then None else Some NoCred
fault_there row (SetAttr realm name attr values) = if has_attr_room attr row then None else Some AttrsFull
fault_there row (DropAttr realm name attr) = if has_attr attr row then None else Some NoAttr
fault_there row (Reload realm users groups) = None

-- why an edit of an identity that isn't there is refused, where the realm has so many rows
abbrev pub fault_absent : ℕ → Edit → Option EditFault
fault_absent count (Add realm name) = if nat_le 65536 count then Some RowsFull else None
fault_absent count _ = Some Absent

-- why an edit of this row is refused, where the realm has so many rows
abbrev pub row_fault : ℕ → Option Row → Edit → Option EditFault
row_fault count None edit = fault_absent count edit
row_fault count (Some row) edit = fault_there row edit
