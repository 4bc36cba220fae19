-- Events: which login one is on, and its word.
use Rattle.std.specs.Prelude.{ℕ, ◌==◌, Bool, false, Option, Some, None}
use Rattle.ely_row.specs.declared.edit.Edit.{Edit}
use Rattle.ely_row.specs.declared.edit.Edit.TheVariants as edits
use Rattle.ely_login.specs.declared.word.StepWord.{StepWord}
use Rattle.ely_login.specs.declared.word.StepWord.TheVariants as words
use Rattle.ely_domain.specs.declared.event.Event.{Event}
use Rattle.ely_domain.specs.declared.event.Event.TheVariants as events

-- the word of an edit
abbrev pub edit_word : Edit → StepWord
edit_word (edits.Add realm name) = words.Add
edit_word (edits.Remove realm name) = words.Remove
edit_word (edits.SetCred realm name slot cred) = words.SetCred
edit_word (edits.DropCred realm name slot) = words.DropCred
edit_word (edits.SetAttr realm name attr values) = words.SetAttr
edit_word (edits.DropAttr realm name attr) = words.DropAttr
edit_word (edits.Reload realm users groups) = words.Reload

-- the word of an event
abbrev pub word_of : Event → StepWord
word_of (events.Bad bad) = words.BadLine
word_of (events.Change edit) = edit_word edit
word_of (events.Begin c mech brought) = words.Begin
word_of (events.Name1 c claim) = words.Name1
word_of (events.Name2 c serial brought) = words.Name2
word_of (events.Check1 c serial evidence) = words.Check1
word_of (events.Check2 c serial brought) = words.Check2
word_of (events.Authorize c) = words.Authorize
word_of (events.Allows c wanted) = words.Allows
word_of (events.Succeed c) = words.Succeed
word_of (events.Fail c) = words.Fail
word_of (events.Close c) = words.Close

-- the login that an event is on
abbrev pub login_id : Event → Option ℕ
login_id (events.Bad bad) = None
login_id (events.Change edit) = None
login_id (events.Begin c mech brought) = Some c
login_id (events.Name1 c claim) = Some c
login_id (events.Name2 c serial brought) = Some c
login_id (events.Check1 c serial evidence) = Some c
login_id (events.Check2 c serial brought) = Some c
login_id (events.Authorize c) = Some c
login_id (events.Allows c wanted) = Some c
login_id (events.Succeed c) = Some c
login_id (events.Fail c) = Some c
login_id (events.Close c) = Some c

-- there is a login, and it is c
abbrev pub is_id : ℕ → Option ℕ → Bool
is_id c None = false
is_id c (Some d) = d == c

-- the event is on c
abbrev pub is_on : ℕ → Event → Bool
is_on c event = is_id c (login_id event)
