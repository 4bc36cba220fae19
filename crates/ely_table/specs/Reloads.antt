-- What the two texts of a reload give, and why they are refused.
use Rattle.std.specs.Prelude.{ℕ, Bool, true, List, [], Option, Some, None, Result, Ok, Err}
use Rattle.ely_base.specs.Refused.{◌>>=◌, refused_as}
use Rattle.ely_row.specs.declared.cred.Credential.{Credential}
use Rattle.ely_row.specs.declared.edit.Edit.{Edit}
use Rattle.ely_row.specs.declared.edit.Edit.TheVariants.{Reload}
use Rattle.ely_row.specs.declared.edit.EditFault.{EditFault}
use Rattle.ely_row.specs.declared.edit.EditFault.TheVariants.{ReadOnly, Users, Groups}
use Rattle.ely_row.specs.declared.edit.PropFault.{PropFault}
use Rattle.ely_row.specs.Rows.{Row}
use Rattle.ely_row.specs.Salts.{is_realm}
use Rattle.ely_propfile.specs.Users.{users_of}
use Rattle.ely_propfile.specs.Groups.{groups_of}
use Rattle.ely_propfile.specs.Rows.{rows_of}
use Rattle.ely_table.specs.declared.class.RealmClass.{RealmClass}
use Rattle.ely_table.specs.declared.class.RealmClass.TheVariants.{Modifiable, Properties, Composite}

-- the fallback of a properties realm is a Digest realm
abbrev pub is_class : RealmClass → Bool
is_class Modifiable = true
is_class (Properties plain fallback) = is_realm fallback
is_class Composite = true

-- the rows of these users and groups, each of which is read or has a fault; that of the users comes first
abbrev pub rows_read : Result (List (List ℕ × Credential)) PropFault → Result (List (List ℕ × List (List ℕ))) PropFault
    → Result (List (List ℕ × Row)) EditFault
rows_read users groups = do
  named ← refused_as Users users
  grouped ← refused_as Groups groups
  Ok (rows_of named grouped)

-- the rows of two texts, or their first fault
abbrev pub text_rows : Bool → List ℕ → List ℕ → List ℕ → Result (List (List ℕ × Row)) EditFault
text_rows plain fallback users groups = rows_read (users_of plain fallback users) (groups_of groups)

-- the rows that an edit gives to a properties realm, or why it is refused; such a realm takes reloads alone
abbrev pub reload_rows : Bool → List ℕ → Edit → Result (List (List ℕ × Row)) EditFault
reload_rows plain fallback (Reload realm users groups) = text_rows plain fallback users groups
reload_rows plain fallback _ = Err ReadOnly

-- the rows, or none where there is a fault
abbrev pub rows_or_none : Result (List (List ℕ × Row)) EditFault → List (List ℕ × Row)
rows_or_none (Ok rows) = rows
rows_or_none (Err fault) = []

-- the fault, where there is one
abbrev pub fault_in : {T F : Type 0} → Result T F → Option F
fault_in (Ok value) = None
fault_in (Err fault) = Some fault

-- what two texts give in a realm of this class: the rows of texts without a fault in a properties realm, and else nothing
abbrev pub class_texts : Option RealmClass → List ℕ → List ℕ → List (List ℕ × Row)
class_texts None users groups = []
class_texts (Some Modifiable) users groups = []
class_texts (Some (Properties plain fallback)) users groups = rows_or_none (text_rows plain fallback users groups)
class_texts (Some Composite) users groups = []
