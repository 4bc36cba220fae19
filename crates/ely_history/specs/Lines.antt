-- What a line makes when nothing comes between its steps.
use Rattle.std.specs.Prelude.{ℕ, ◌≡◌, if◌then◌else◌, List, [], ◌∷◌, Option, Some, None}
use Rattle.std.specs.Option.{option_or}
use Rattle.ely_script.specs.declared.entry.Entry.{Entry}
use Rattle.ely_login.specs.declared.outcome.Outcome.{Outcome}
use Rattle.ely_login.specs.declared.word.CacheWord.{CacheWord}
use Rattle.ely_script.specs.Lines.{ScriptLine}
use Rattle.ely_login.specs.Outcomes.{is_accepted}
use Rattle.ely_domain.specs.declared.event.Event.{Event}
use Rattle.ely_domain.specs.Events.{word_of}
use Rattle.ely_domain.specs.Given.{Given}
use Rattle.ely_domain.specs.Keeping.{Kept, word_due, kept_after}
use Rattle.ely_domain.specs.KeptKeys.{stands_for}
use Rattle.ely_domain.specs.Machine.{Machine, Stepped, step}
use Rattle.ely_domain.specs.Serials.{carrier, serial_given}
use Rattle.ely_history.specs.Parts.{Part, parts_of, event_of}

-- a step that was taken
pub record Taken : Type 0 where
  pub event : Event
  pub outcome : Outcome

-- the step that the machine takes
abbrev pub taken : Given → Machine → Event → Taken
taken given m event = record { event = event; outcome = (step given m event).0 }

-- the serial that the line carries after a step
abbrev pub carried_after : Option ℕ → Event → Stepped → Option ℕ
carried_after carried event s = option_or (serial_given (carrier event) s.0 s.1.live) carried

-- the steps that some parts make, and the machine after them
abbrev pub Ran : Type 0
Ran = List Taken × Machine

-- the same with a step before those
abbrev pub after_first : Taken → Ran → Ran
after_first first rest = (first ∷ rest.0, rest.1)

-- a step of an event, and then what is made later: nothing where the step is refused, or where there was no event
abbrev pub after_event : Given → Machine → Option ℕ → (Machine → Option ℕ → Ran) → Option Event → Ran
after_event given m carried later None = ([], m)
after_event given m carried later (Some event) =
    let s = step given m event in
    after_first (taken given m event)
    (if is_accepted s.0 then later s.1 (carried_after carried event s) else ([], s.1))

-- What is left of a line makes these steps. A refused step ends the line, and so does a second half without its serial.
unfoldable pub run_parts : Given → Machine → Option ℕ → List Part → Ran
run_parts given m carried [] = ([], m)
run_parts given m carried (part ∷ rest) =
    after_event given m carried (λ m' carried'. run_parts given m' carried' rest) (event_of part carried)

-- the whole line
abbrev pub ran : Given → Machine → ScriptLine → Ran
ran given m line = run_parts given m None (parts_of line)

-- the entry of a step of an actor's line, with the word that was shown behind it
abbrev pub entry_at : ℕ → ℕ → Taken → CacheWord → Entry
entry_at actor line t shown =
    record { actor = actor; line = line; word = word_of t.event; outcome = t.outcome; cache = shown }

-- the entries of steps of one line, with a word for each
abbrev pub entries_at : ℕ → ℕ → List Taken → List CacheWord → List Entry
entries_at actor line (t ∷ ts) (shown ∷ words) = entry_at actor line t shown ∷ entries_at actor line ts words
entries_at actor line _ _ = []

-- these words were shown behind these steps: each stands for the one that is due
abbrev pub AreShown : Given → Machine → Kept → List Taken → List CacheWord → Type 0
AreShown given m kept [] [] = Unit {0}
AreShown given m kept (t ∷ ts) (shown ∷ words) =
    (stands_for shown ≡ word_due given m kept t.event t.outcome)
    × AreShown given (step given m t.event).1 (kept_after given m kept t.event t.outcome shown) ts words
AreShown given m kept _ _ = ⊥

-- what is kept after steps behind which these words were shown
abbrev pub kept_past : Given → Machine → Kept → List Taken → List CacheWord → Kept
kept_past given m kept (t ∷ ts) (shown ∷ words) =
    kept_past given (step given m t.event).1 (kept_after given m kept t.event t.outcome shown) ts words
kept_past given m kept _ _ = kept
