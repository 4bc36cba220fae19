-- The arguments of edits.
use Rattle.std.specs.Prelude.{ℕ, if◌then◌else◌, List, Result, Ok, Err}
use Rattle.ely_base.specs.Refused.{◌>>=◌, refused_as}
use Rattle.ely_row.specs.declared.cred.Credential.{Credential}
use Rattle.ely_row.specs.declared.fault.CredFault.TheVariants.{Kind}
use Rattle.ely_row.specs.declared.edit.Edit.TheVariants as edits
use Rattle.ely_row.specs.Creds.{is_kind, cred_of}
use Rattle.ely_script.specs.declared.command.Verb.{Verb}
use Rattle.ely_script.specs.declared.command.Verb.TheVariants as verbs
use Rattle.ely_script.specs.declared.limits.TheConstants.{MAX_SLOT}
use Rattle.ely_login.specs.declared.outcome.BadLine.{BadLine}
use Rattle.ely_login.specs.declared.outcome.BadLine.TheVariants as bad
use Rattle.ely_script.specs.Arguments.{first_of, some_of, two_of, three_of, five_of, number_at, text_at, coded_at, name_at, names_at, place_at}

-- add REALM NAME
abbrev pub add_of : List (List ℕ) → Result Verb BadLine
add_of args = do
  words ← two_of args
  place ← place_at words.0 words.1
  Ok (verbs.Change (edits.Add place.0 place.1))

-- remove REALM NAME
abbrev pub remove_of : List (List ℕ) → Result Verb BadLine
remove_of args = do
  words ← two_of args
  place ← place_at words.0 words.1
  Ok (verbs.Change (edits.Remove place.0 place.1))

-- a credential of a kind, whose text is a coded word; the kind stands left of the text
abbrev pub cred_at : List ℕ → List ℕ → Result Credential BadLine
cred_at kind text =
    if is_kind kind then (coded_at 7 text >>= λ bytes. refused_as bad.Cred (cred_of kind bytes)) else Err (bad.Cred Kind)

-- set-cred REALM NAME SLOT KIND TEXT
abbrev pub set_cred_of : List (List ℕ) → Result Verb BadLine
set_cred_of args = do
  words ← five_of args
  place ← place_at words.0 words.1
  slot ← number_at MAX_SLOT 5 words.2
  cred ← cred_at words.3 words.4
  Ok (verbs.Change (edits.SetCred place.0 place.1 slot cred))

-- drop-cred REALM NAME SLOT
abbrev pub drop_cred_of : List (List ℕ) → Result Verb BadLine
drop_cred_of args = do
  words ← three_of args
  place ← place_at words.0 words.1
  slot ← number_at MAX_SLOT 5 words.2
  Ok (verbs.Change (edits.DropCred place.0 place.1 slot))

-- set-attr REALM NAME ATTR VALUE, with 1 to 64 values
abbrev pub set_attr_of : List (List ℕ) → Result Verb BadLine
set_attr_of args = do
  realm ← first_of args
  name ← first_of realm.1
  attr ← first_of name.1
  texts ← some_of attr.1
  place ← place_at realm.0 name.0
  what ← name_at 5 attr.0
  values ← names_at 6 texts
  Ok (verbs.Change (edits.SetAttr place.0 place.1 what values))

-- drop-attr REALM NAME ATTR
abbrev pub drop_attr_of : List (List ℕ) → Result Verb BadLine
drop_attr_of args = do
  words ← three_of args
  place ← place_at words.0 words.1
  what ← name_at 5 words.2
  Ok (verbs.Change (edits.DropAttr place.0 place.1 what))

-- reload REALM USERS GROUPS
abbrev pub reload_of : List (List ℕ) → Result Verb BadLine
reload_of args = do
  words ← three_of args
  realm ← name_at 3 words.0
  users ← text_at 4 words.1
  groups ← text_at 5 words.2
  Ok (verbs.Change (edits.Reload realm users groups))
