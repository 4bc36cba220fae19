-- Which edits a journal takes, and the first reason against one.
use Rattle.std.specs.Prelude.{ℕ, ◌≡◌, Bool, true, not, ◌&&◌, if◌then◌else◌, nat_le, List, [], ◌∷◌, ◌++◌, length, Option, Some, None}
use Rattle.std.specs.List.{list_any}
use Rattle.std.specs.Str.{bytes_eq}
use Rattle.ely_base.specs.declared.refused.Refused.{Refused}
use Rattle.ely_base.specs.declared.refused.Refused.TheVariants.{Fault, NoMemory}
use Rattle.ely_row.specs.declared.edit.Edit.{Edit}
use Rattle.ely_row.specs.declared.edit.EditFault.{EditFault}
use Rattle.ely_row.specs.declared.edit.EditFault.TheVariants.{JournalFull, NoRealm, ReadOnly}
use Rattle.ely_row.specs.Edits.{Texts, realm_of, name_of, row, row_fault}
use Rattle.ely_table.specs.declared.class.RealmClass.{RealmClass}
use Rattle.ely_table.specs.declared.class.RealmClass.TheVariants.{Modifiable, Properties, Composite}
use Rattle.ely_table.specs.Counts.{row_count}
use Rattle.ely_table.specs.Reloads.{is_class, reload_rows, fault_in, class_texts}

-- what tables are seen as: the realms with their classes, the most edits that the journal takes, and the accepted edits
pub record Tables : Type 0 where
  pub realms : List (List ℕ × RealmClass)
  pub limit : ℕ
  pub journal : List Edit

-- the class of the realm, where there is such a realm
abbrev pub class_of : List (List ℕ × RealmClass) → List ℕ → Option RealmClass
class_of [] r = None
class_of (realm ∷ realms) r = if bytes_eq realm.0 r then Some realm.1 else class_of realms r

-- no two realms have one name
abbrev pub are_apart : List (List ℕ × RealmClass) → Bool
are_apart [] = true
are_apart (realm ∷ realms) = not (list_any (λ other. bytes_eq realm.0 other.0) realms) && are_apart realms

-- the fallback of the realm is a Digest realm, where it has one
abbrev pub has_realm : List ℕ × RealmClass → Bool
has_realm realm = is_class realm.1

-- what the two texts of a reload give, by the class of the realm: each name with its row
abbrev pub texts_of : List (List ℕ × RealmClass) → Texts
texts_of realms realm users groups = class_texts (class_of realms realm) users groups

-- why an edit of a modifiable realm is refused after these edits, the first cause first; such a realm takes no reload
abbrev pub own_fault : Texts → List Edit → Option (List ℕ) → Edit → Option EditFault
own_fault texts edits None edit = Some ReadOnly
own_fault texts edits (Some name) edit =
    row_fault (row_count texts edits (realm_of edit)) (row texts edits (realm_of edit) name) edit

-- why an edit of a realm of this class is refused; a realm that is made of others takes no edit
abbrev pub class_fault : Option RealmClass → Texts → List Edit → Edit → Option EditFault
class_fault None texts edits edit = Some NoRealm
class_fault (Some Modifiable) texts edits edit = own_fault texts edits (name_of edit) edit
class_fault (Some (Properties plain fallback)) texts edits edit = fault_in (reload_rows plain fallback edit)
class_fault (Some Composite) texts edits edit = Some ReadOnly

-- the first refusal of an edit after these, for these realms and this limit
unfoldable pub fault : List (List ℕ × RealmClass) → ℕ → List Edit → Edit → Option EditFault
fault realms limit edits edit =
    if nat_le limit (length edits) then Some (JournalFull limit)
    else class_fault (class_of realms (realm_of edit)) (texts_of realms) edits edit

-- each edit has no fault after those before it
abbrev pub IsAccepted : List (List ℕ × RealmClass) → ℕ → List Edit → Type 0
IsAccepted realms limit edits = (prefix : List Edit) (edit : Edit) (back : List Edit)
    → edits ≡ prefix ++ edit ∷ back → fault realms limit prefix edit ≡ None

-- the refusal is for that reason, unless memory ran out
abbrev pub IsRefusal : Refused EditFault → Option EditFault → Type 0
IsRefusal (Fault f) reason = reason ≡ Some f
IsRefusal NoMemory reason = Unit {0}

-- the tables after an edit that was accepted
abbrev pub recorded : Tables → Edit → Tables
recorded t edit = record { realms = t.realms; limit = t.limit; journal = t.journal ++ edit ∷ [] }
