-- How many logins a step opens, and which parts of a line open one.
use Rattle.std.proofs.Common.{◌≡◌, ℕ, zero, suc, lit≤, ◌+◌, ◌≤◌, Bool, true, false, cond, List, [], ◌∷◌, length, drop, Option, Some, None, Ok, Err, refl, sym, ◌⊎◌, inl, inr, arith, true≢false}
use Rattle.ely_row.specs.declared.edit.Edit.{Edit}
use Rattle.ely_row.specs.declared.edit.EditFault.{EditFault}
use Rattle.ely_row.specs.declared.mech.Mech.{Mech}
use Rattle.ely_table.specs.Faults.{fault}
use Rattle.ely_script.specs.declared.command.LineError.TheVariants as errors
use Rattle.ely_script.specs.declared.command.Verb.{Verb}
use Rattle.ely_script.specs.declared.command.Verb.TheVariants as verbs
use Rattle.ely_login.specs.declared.outcome.Outcome.{Outcome}
use Rattle.ely_script.specs.Lines.{ScriptLine}
use Rattle.ely_domain.specs.declared.event.Event.{Event}
use Rattle.ely_domain.specs.declared.event.Event.TheVariants as events
use Rattle.ely_domain.specs.Given.{Given, realms}
use Rattle.ely_domain.specs.Machine.{Machine, step, change, opening_fault, opened_login, opened_or, alg_of}
use Rattle.ely_history.specs.Parts as parts
use Rattle.ely_history.specs.Parts.{Part, parts_by, parts_of, event_of}

-- a line has four parts at most
pub four_parts : (line : ScriptLine) → length (parts_of line) ≤ 4
four_parts (Err (errors.Bad actor bad)) = lit≤ tt
four_parts (Ok command) = by_verb command.verb
  where
    by_verb : (verb : Verb) → length (parts_by verb) ≤ 4
    by_verb (verbs.Plain c message) = lit≤ tt
    by_verb (verbs.First c message) = lit≤ tt
    by_verb (verbs.Last c message) = lit≤ tt
    by_verb (verbs.Digest c method target reply) = lit≤ tt
    by_verb (verbs.Change edit) = lit≤ tt
    by_verb (verbs.Begin c mech brought) = lit≤ tt
    by_verb (verbs.Authorize c) = lit≤ tt
    by_verb (verbs.Succeed c) = lit≤ tt
    by_verb (verbs.Fail c) = lit≤ tt
    by_verb (verbs.Close c) = lit≤ tt
    by_verb (verbs.Allows c wanted) = lit≤ tt

-- a part that opens a login
abbrev pub opens : Part → Bool
opens (parts.Begin c mech brought) = true
opens _ = false

-- none of these opens one
abbrev pub quiet : List Part → Bool
quiet [] = true
quiet (p ∷ ps) = cond (opens p) false (quiet ps)

pub quiet_drop : (xs : List Part) (i : ℕ) → quiet xs ≡ true → quiet (drop i xs) ≡ true
quiet_drop [] zero h = refl
quiet_drop [] (suc i) h = refl
quiet_drop (x ∷ xs) zero h = h
quiet_drop (x ∷ xs) (suc i) h = quiet_drop xs i (by (opens x) h)
  where
    by : (b : Bool) → cond b false (quiet xs) ≡ true → quiet xs ≡ true
    by true h = absurd cc
    by false h = h

pub quiet_first : (p : Part) (ps : List Part) → quiet (p ∷ ps) ≡ true → opens p ≡ false
quiet_first p ps h = by (opens p) h
  where
    by : (b : Bool) → cond b false (quiet ps) ≡ true → b ≡ false
    by true h = sym h
    by false h = refl

-- a line of more than one part opens nothing
pub lone_or_quiet : (line : ScriptLine) → (length (parts_of line) ≤ 1) ⊎ (quiet (parts_of line) ≡ true)
lone_or_quiet (Err (errors.Bad actor bad)) = inl (lit≤ tt)
lone_or_quiet (Ok command) = by_verb command.verb
  where
    by_verb : (verb : Verb) → (length (parts_by verb) ≤ 1) ⊎ (quiet (parts_by verb) ≡ true)
    by_verb (verbs.Plain c message) = inr refl
    by_verb (verbs.First c message) = inr refl
    by_verb (verbs.Last c message) = inr refl
    by_verb (verbs.Digest c method target reply) = inr refl
    by_verb (verbs.Change edit) = inl (lit≤ tt)
    by_verb (verbs.Begin c mech brought) = inl (lit≤ tt)
    by_verb (verbs.Authorize c) = inl (lit≤ tt)
    by_verb (verbs.Succeed c) = inl (lit≤ tt)
    by_verb (verbs.Fail c) = inl (lit≤ tt)
    by_verb (verbs.Close c) = inl (lit≤ tt)
    by_verb (verbs.Allows c wanted) = inl (lit≤ tt)

change_opens : (m : Machine) (edit : Edit) (f : Option EditFault) → (change m edit f).1.opened ≡ m.opened
change_opens m edit None = refl
change_opens m edit (Some f) = refl

opened_or_opens : (m : Machine) (c : ℕ) (given : Given) (mech : Mech) (brought : Option (List ℕ)) (o : Option Outcome) → (opened_or given m c (opened_login given m mech brought) o).1.opened ≤ m.opened + 1
opened_or_opens m c given mech brought None = omega arith
opened_or_opens m c given mech brought (Some refusal) = omega arith

-- the event of a part that opens nothing leaves the count
pub stays_by : (given : Given) (m : Machine) (part : Part) (carried : Option ℕ) (event : Event) → event_of part carried ≡ Some event → opens part ≡ false
    → (step given m event).1.opened ≡ m.opened
unfolding step
stays_by given m part carried event is quiet_part = by event (no_begin part carried event is quiet_part)
  where
    begins : Event → Bool
    begins (events.Begin c mech brought) = true
    begins _ = false

    value : (x y : Event) → ◌≡◌ {A = Option Event} (Some x) (Some y) → x ≡ y
    value x y h = cc

    no_begin : (part : Part) (carried : Option ℕ) (event : Event) → event_of part carried ≡ Some event → opens part ≡ false → begins event ≡ false
    no_begin (parts.Bad bad) carried event is h = rw (← value _ event is) refl
    no_begin (parts.Change edit) carried event is h = rw (← value _ event is) refl
    no_begin (parts.Begin c mech brought) carried event is h = absurd (true≢false h)
    no_begin (parts.Name1 c claim) carried event is h = rw (← value _ event is) refl
    no_begin (parts.Name2 c) None event is h = absurd cc
    no_begin (parts.Name2 c) (Some n) event is h = rw (← value _ event is) refl
    no_begin (parts.Check1 c evidence) carried event is h = rw (← value _ event is) refl
    no_begin (parts.Check2 c) None event is h = absurd cc
    no_begin (parts.Check2 c) (Some n) event is h = rw (← value _ event is) refl
    no_begin (parts.Authorize c) carried event is h = rw (← value _ event is) refl
    no_begin (parts.Allows c wanted) carried event is h = rw (← value _ event is) refl
    no_begin (parts.Succeed c) carried event is h = rw (← value _ event is) refl
    no_begin (parts.Fail c) carried event is h = rw (← value _ event is) refl
    no_begin (parts.Close c) carried event is h = rw (← value _ event is) refl

    by : (event : Event) → begins event ≡ false → (step given m event).1.opened ≡ m.opened
    by (events.Bad bad) h = refl
    by (events.Change edit) h = change_opens m edit (fault (realms given) given.limit m.edits edit)
    by (events.Begin c mech brought) h = absurd (true≢false h)
    by (events.Name1 c claim) h = refl
    by (events.Name2 c serial brought) h = refl
    by (events.Check1 c serial evidence) h = refl
    by (events.Check2 c serial brought) h = refl
    by (events.Authorize c) h = refl
    by (events.Allows c wanted) h = refl
    by (events.Succeed c) h = refl
    by (events.Fail c) h = refl
    by (events.Close c) h = refl

-- at most one is opened by a step
pub step_opens : (given : Given) (m : Machine) (event : Event) → (step given m event).1.opened ≤ m.opened + 1
unfolding step
step_opens given m (events.Begin c mech brought) = opened_or_opens m c given mech brought (opening_fault m.live c (opened_login given m mech brought).nonce (alg_of mech))
step_opens given m (events.Change edit) = omega (arith, change_opens m edit (fault (realms given) given.limit m.edits edit))
step_opens given m (events.Bad bad) = omega arith
step_opens given m (events.Name1 d claim) = omega arith
step_opens given m (events.Name2 d serial brought) = omega arith
step_opens given m (events.Check1 d serial evidence) = omega arith
step_opens given m (events.Check2 d serial brought) = omega arith
step_opens given m (events.Authorize d) = omega arith
step_opens given m (events.Allows d wanted) = omega arith
step_opens given m (events.Succeed d) = omega arith
step_opens given m (events.Fail d) = omega arith
step_opens given m (events.Close d) = omega arith
