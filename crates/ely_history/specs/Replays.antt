-- The history of a script in file order.
use Rattle.std.specs.Prelude.{ℕ, ◌+◌, ◌==◌, List, [], ◌∷◌, ◌++◌, map, count_by}
use Rattle.ely_script.specs.declared.entry.Entry.{Entry}
use Rattle.ely_login.specs.declared.word.CacheWord.{CacheWord}
use Rattle.ely_script.specs.Lines.{ScriptLine}
use Rattle.ely_domain.specs.Given.{Given}
use Rattle.ely_domain.specs.Keeping.{Kept, kept_after}
use Rattle.ely_domain.specs.Machine.{Machine, first_machine, step}
use Rattle.ely_history.specs.Lines.{Taken, ran, entry_at}
use Rattle.ely_history.specs.Parts.{actor_of}

-- a step of a history: whose it is, of which of that actor's lines, and the step
pub record Made : Type 0 where
  pub actor : ℕ
  pub line : ℕ
  pub taken : Taken

-- this step, made by that actor's line
abbrev pub made_by : ℕ → ℕ → Taken → Made
made_by actor line taken = record { actor = actor; line = line; taken = taken }

-- a step with the word that was shown behind it
pub record Told : Type 0 where
  pub made : Made
  pub shown : CacheWord

-- the steps of one line, with a word for each
abbrev pub told_by : ℕ → ℕ → List Taken → List CacheWord → List Told
told_by actor line (t ∷ ts) (shown ∷ words) =
    record { made = made_by actor line t; shown = shown } ∷ told_by actor line ts words
told_by actor line _ _ = []

-- the steps of a history without the words
abbrev pub made_of : List Told → List Made
made_of h = map (λ told. told.made) h

-- the steps that were taken, without their lines
abbrev pub steps_of : List Made → List Taken
steps_of h = map (λ m. m.taken) h

-- the steps that were taken, without their lines and the words
abbrev pub steps_told : List Told → List Taken
steps_told h = map (λ told. told.made.taken) h

-- the words that were shown behind them
abbrev pub words_told : List Told → List CacheWord
words_told h = map (λ told. told.shown) h

-- the entry that is printed of a step
abbrev pub entry_of : Told → Entry
entry_of told = entry_at told.made.actor told.made.line told.made.taken told.shown

-- what is kept after a history that was told, from a machine on
abbrev pub kept_told : Given → Machine → Kept → List Told → Kept
kept_told given m kept [] = kept
kept_told given m kept (told ∷ h) =
    let t = told.made.taken in
    kept_told given (step given m t.event).1 (kept_after given m kept t.event t.outcome told.shown) h

-- how many of these lines are the actor's
abbrev pub own_count : ℕ → List ScriptLine → ℕ
own_count actor lines = count_by (λ l. actor_of l == actor) lines

-- each line is run without pause after those before it; the earlier lines number it
abbrev pub replayed_after : Given → Machine → List ScriptLine → List ScriptLine → List Made
replayed_after given m earlier [] = []
replayed_after given m earlier (line ∷ lines) =
    let r = ran given m line in
    map (made_by (actor_of line) (own_count (actor_of line) earlier + 1)) r.0 ++ replayed_after given r.1 (earlier ++ line ∷ []) lines

-- the steps of a replay of these lines
abbrev pub replayed : Given → List ScriptLine → List Made
replayed given lines = replayed_after given (first_machine given) [] lines
