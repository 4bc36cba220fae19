-- A history of lines goes on where the lines do.
use Rattle.std.proofs.Common.{◌≡◌, ℕ, ◌+◌, Bool, true, false, cond, List, [], ◌∷◌, ◌++◌, map, Option, Some, None, refl, sym, ap, ap₂, subst, ◌∙◌, append_assoc, append-nil, arith}
use Rattle.std.proofs.lemmas.List.{map-append}
use Rattle.ely_login.specs.declared.outcome.Outcome.{Outcome}
use Rattle.ely_login.specs.declared.word.CacheWord.{CacheWord}
use Rattle.ely_script.specs.Lines.{ScriptLine}
use Rattle.ely_login.specs.Outcomes.{is_accepted}
use Rattle.ely_domain.specs.declared.event.Event.{Event}
use Rattle.ely_domain.specs.declared.event.Event.TheVariants as events
use Rattle.ely_login.specs.declared.word.CacheWord.TheVariants as words
use Rattle.ely_history.specs.Costs.{cost_from}
use Rattle.ely_domain.specs.Given.{Given}
use Rattle.ely_history.specs.Headline.{IsHistoryOf}
use Rattle.ely_history.specs.Histories.{IsRun, machine_after}
use Rattle.ely_domain.specs.Identities.{Known, deps}
use Rattle.ely_domain.specs.Keeping.{Kept, Meaning, Nothing, Begins, Ends, found_at, meaning, sought, word_by, word_on, word_due, kept_after, first_kept}
use Rattle.ely_domain.specs.KeptKeys.{Key, RealmKeys, has_key, is_miss, list_of, stands_for, word_after, word_in}
use Rattle.ely_domain.specs.Logins.{Live}
use Rattle.ely_table.specs.Touching.{touched_since}
use Rattle.ely_history.specs.Legal.{AreOver, IsWhole}
use Rattle.ely_history.specs.Lines.{Taken, Ran, taken, after_first, after_event, carried_after, run_parts, ran, AreShown, kept_past}
use Rattle.ely_domain.specs.Machine.{Machine, first_machine, known, step}
use Rattle.ely_history.specs.Parts.{Part, actor_of, parts_of, event_of}
use Rattle.ely_history.specs.Replays.{Made, Told, made_by, told_by, made_of, steps_of, steps_told, words_told, kept_told, own_count, replayed_after, replayed}
use Rattle.ely_history.proofs.FileOrder.{ordered_from}
use Rattle.ely_history.proofs.Turns.{right_in_turns}
use Rattle.ely_history.proofs.Whole.{whole_next, whole_none}

-- ---- what a line makes is a run

pub run_of_parts : (given : Given) (m : Machine) (carried : Option ℕ) (ps : List Part)
    → (let r = run_parts given m carried ps in IsRun given m r.0 × (machine_after given m r.0 ≡ r.1))
unfolding run_parts
run_of_parts given m carried [] = (tt, refl)
run_of_parts given m carried (p ∷ ps) =
    by_event (event_of p carried) (λ event. run_of_parts given (step given m event).1 (carried_after carried event (step given m event)) ps)
  where
    later : Machine → Option ℕ → Ran
    later m' carried' = run_parts given m' carried' ps

    by_event : (o : Option Event)
        → ((event : Event) → (let r = run_parts given (step given m event).1 (carried_after carried event (step given m event)) ps in
        IsRun given (step given m event).1 r.0 × (machine_after given (step given m event).1 r.0 ≡ r.1)))
        → (let r = after_event given m carried (λ m' carried'. run_parts given m' carried' ps) o in IsRun given m r.0 × (machine_after given m r.0 ≡ r.1))
    by_event None more = (tt, refl)
    by_event (Some event) more = by (is_accepted (step given m event).0)
      where
        by : (b : Bool)
            → (let r = after_first (taken given m event) (cond {A = Ran} b (run_parts given (step given m event).1 (carried_after carried event (step given m event)) ps) ([], (step given m event).1)) in
            IsRun given m r.0 × (machine_after given m r.0 ≡ r.1))
        by true = ((refl, (more event).0), (more event).1)
        by false = ((refl, tt), refl)

pub ran_is_run : (given : Given) (m : Machine) (line : ScriptLine) → (let r = ran given m line in IsRun given m r.0 × (machine_after given m r.0 ≡ r.1))
ran_is_run given m line = run_of_parts given m None (parts_of line)

steps_made : (actor n : ℕ) (ts : List Taken) → steps_of (map (made_by actor n) ts) ≡ ts
steps_made actor n [] = refl
steps_made actor n (t ∷ ts) = ap (λ xs. t ∷ xs) (steps_made actor n ts)

-- ---- what a history is made of

-- the steps of a history, told or not
steps_told-is : (h : List Told) → steps_told h ≡ steps_of (made_of h)
steps_told-is [] = refl
steps_told-is (x ∷ xs) = ap (λ ts. x.made.taken ∷ ts) (steps_told-is xs)

-- a whole history whose steps are those of the replay is the history of the lines
history_of : (given : Given) (lines : List ScriptLine) (h : List Told) → IsWhole given lines h → made_of h ≡ replayed given lines → IsHistoryOf given lines h
history_of given lines h whole fixed = record {
  whole = whole;
  in_file_order = rw fixed (ordered_from given lines lines [] (first_machine given) refl).0;
  who_gets_in = right_in_turns given lines (AreOver lines) h whole;
  fixed = fixed;
}

-- no lines have an empty history
pub no_history : (given : Given) → IsHistoryOf given [] []
no_history given = history_of given [] [] (whole_none given) refl

-- ---- one more line

-- what a line makes behind this history of the lines before it, with these words
abbrev pub told_next : Given → List ScriptLine → List Told → ScriptLine → List CacheWord → List Told
told_next given lines h line shown =
    told_by (actor_of line) (own_count (actor_of line) lines + 1) (ran given (machine_after given (first_machine given) (steps_told h)) line).0 shown

-- where words are shown behind all steps, the steps are all told
told_all : (given : Given) (m : Machine) (k : Kept) (actor n : ℕ) (ts : List Taken) (shown : List CacheWord) → AreShown given m k ts shown
    → made_of (told_by actor n ts shown) ≡ map (made_by actor n) ts
told_all given m k actor n [] shown are = nothing shown
  where
    nothing : (ws : List CacheWord) → made_of (told_by actor n [] ws) ≡ []
    nothing [] = refl
    nothing (w ∷ ws) = refl
told_all given m k actor n (t ∷ ts) [] are = absurd are
told_all given m k actor n (t ∷ ts) (w ∷ ws) are =
    ap (λ ms. made_by actor n t ∷ ms) (told_all given (step given m t.event).1 (kept_after given m k t.event t.outcome w) actor n ts ws are.1)

pub steps_told-next : (given : Given) (m : Machine) (k : Kept) (actor n : ℕ) (ts : List Taken) (shown : List CacheWord) → AreShown given m k ts shown
    → steps_told (told_by actor n ts shown) ≡ ts
steps_told-next given m k actor n ts shown are =
    steps_told-is (told_by actor n ts shown) ∙ ap steps_of (told_all given m k actor n ts shown are) ∙ steps_made actor n ts

machine_after-append : (given : Given) (m : Machine) (xs ys : List Taken) → machine_after given m (xs ++ ys) ≡ machine_after given (machine_after given m xs) ys
machine_after-append given m [] ys = refl
machine_after-append given m (x ∷ xs) ys = machine_after-append given (step given m x.event).1 xs ys

-- what steps cost that are told, and others behind them
cost_from-append : (given : Given) (m : Machine) (k : Kept) (xs ys : List Told)
    → cost_from given m k (steps_told (xs ++ ys)) (words_told (xs ++ ys))
    ≡ cost_from given m k (steps_told xs) (words_told xs)
    + cost_from given (machine_after given m (steps_told xs)) (kept_told given m k xs) (steps_told ys) (words_told ys)
cost_from-append given m k [] ys = omega arith
cost_from-append given m k (x ∷ xs) ys =
    omega (arith, cost_from-append given (step given m x.made.taken.event).1 (kept_after given m k x.made.taken.event x.made.taken.outcome x.shown) xs ys)

-- where words are shown behind all steps, they are all told
words_told-next : (given : Given) (m : Machine) (k : Kept) (actor n : ℕ) (ts : List Taken) (shown : List CacheWord) → AreShown given m k ts shown
    → words_told (told_by actor n ts shown) ≡ shown
words_told-next given m k actor n [] [] are = refl
words_told-next given m k actor n [] (w ∷ ws) are = absurd are
words_told-next given m k actor n (t ∷ ts) [] are = absurd are
words_told-next given m k actor n (t ∷ ts) (w ∷ ws) are =
    ap (λ words. w ∷ words) (words_told-next given (step given m t.event).1 (kept_after given m k t.event t.outcome w) actor n ts ws are.1)

steps_told-append : (xs ys : List Told) → steps_told (xs ++ ys) ≡ steps_told xs ++ steps_told ys
steps_told-append xs ys = map-append (λ (x : Told). x.made.taken) xs ys

made_of-append : (xs ys : List Told) → made_of (xs ++ ys) ≡ made_of xs ++ made_of ys
made_of-append xs ys = map-append (λ (x : Told). x.made) xs ys

kept_told-append : (given : Given) (m : Machine) (k : Kept) (xs ys : List Told)
    → kept_told given m k (xs ++ ys) ≡ kept_told given (machine_after given m (steps_told xs)) (kept_told given m k xs) ys
kept_told-append given m k [] ys = refl
kept_told-append given m k (x ∷ xs) ys =
    kept_told-append given (step given m x.made.taken.event).1 (kept_after given m k x.made.taken.event x.made.taken.outcome x.shown) xs ys

-- what a replay has with one more line
replayed_push : (given : Given) (m : Machine) (earlier lines : List ScriptLine) (line : ScriptLine)
    → replayed_after given m earlier (lines ++ line ∷ []) ≡ replayed_after given m earlier lines
    ++ map (made_by (actor_of line) (own_count (actor_of line) (earlier ++ lines) + 1)) (ran given (machine_after given m (steps_of (replayed_after given m earlier lines))) line).0
replayed_push given m earlier [] line =
    append-nil _ ∙ ap (λ ls. map (made_by (actor_of line) (own_count (actor_of line) ls + 1)) (ran given m line).0) (sym (append-nil earlier))
replayed_push given m earlier (x ∷ xs) line =
    let r = ran given m x in
    let here = map (made_by (actor_of x) (own_count (actor_of x) earlier + 1)) r.0 in
    let later = replayed_after given r.1 (earlier ++ x ∷ []) xs in
    let steps : steps_of (here ++ later) ≡ r.0 ++ steps_of later = map-append (λ (y : Made). y.taken) here later ∙ ap (λ ts. ts ++ steps_of later) (steps_made (actor_of x) (own_count (actor_of x) earlier + 1) r.0) in
    let stands : machine_after given m (steps_of (here ++ later)) ≡ machine_after given r.1 (steps_of later) =
    ap (machine_after given m) steps ∙ (machine_after-append given m r.0 (steps_of later) ∙ ap (λ (n : Machine). machine_after given n (steps_of later)) (ran_is_run given m x).1) in
    ap (λ h. here ++ h) (replayed_push given r.1 (earlier ++ x ∷ []) xs line)
    ∙ (sym (append_assoc here later _)
    ∙ (ap (λ ls. (here ++ later) ++ map (made_by (actor_of line) (own_count (actor_of line) ls + 1)) (ran given (machine_after given r.1 (steps_of later)) line).0) (append_assoc earlier (x ∷ []) xs)
    ∙ ap (λ (n : Machine). (here ++ later) ++ map (made_by (actor_of line) (own_count (actor_of line) (earlier ++ (x ∷ xs)) + 1)) (ran given n line).0) (sym stands)))

-- a history goes on by what one more line makes, whatever words are shown that may be
module _ (given : Given) (lines : List ScriptLine) (h : List Told) (line : ScriptLine) (shown : List CacheWord) where
  abbrev m : Machine
  m = machine_after given (first_machine given) (steps_told h)

  abbrev k : Kept
  k = kept_told given (first_machine given) (first_kept given) h

  pub history_next : IsHistoryOf given lines h → AreShown given m k (ran given m line).0 shown
      → IsHistoryOf given (lines ++ line ∷ []) (h ++ told_next given lines h line shown)
  history_next is are =
      let n = own_count (actor_of line) lines + 1 in
      let same : steps_told h ≡ steps_of (replayed given lines) = steps_told-is h ∙ ap steps_of is.fixed in
      history_of given (lines ++ line ∷ []) (h ++ told_next given lines h line shown) (whole_next given lines h line shown is.whole are)
      (made_of-append h (told_next given lines h line shown)
      ∙ ap (λ ms. made_of h ++ ms) (told_all given m k (actor_of line) n (ran given m line).0 shown are)
      ∙ ap (λ (ts : List Taken). made_of h ++ map (made_by (actor_of line) n) (ran given (machine_after given (first_machine given) ts) line).0) same
      ∙ ap (λ ms. ms ++ map (made_by (actor_of line) n) (ran given (machine_after given (first_machine given) (steps_of (replayed given lines))) line).0) is.fixed
      ∙ sym (replayed_push given (first_machine given) [] lines line))

  pub machine_next : AreShown given m k (ran given m line).0 shown
      → machine_after given (first_machine given) (steps_told (h ++ told_next given lines h line shown)) ≡ (ran given m line).1
  machine_next are =
      ap (machine_after given (first_machine given)) (steps_told-append h (told_next given lines h line shown)
      ∙ ap (λ ts. steps_told h ++ ts) (steps_told-next given m k (actor_of line) (own_count (actor_of line) lines + 1) (ran given m line).0 shown are))
      ∙ machine_after-append given (first_machine given) (steps_told h) (ran given m line).0
      ∙ (ran_is_run given m line).1

  pub cost_next : AreShown given m k (ran given m line).0 shown
      → cost_from given (first_machine given) (first_kept given) (steps_told (h ++ told_next given lines h line shown)) (words_told (h ++ told_next given lines h line shown))
      ≡ cost_from given (first_machine given) (first_kept given) (steps_told h) (words_told h) + cost_from given m k (ran given m line).0 shown
  cost_next are =
      let next = told_next given lines h line shown in
      let n = own_count (actor_of line) lines + 1 in
      let steps = steps_told-next given m k (actor_of line) n (ran given m line).0 shown are in
      let words = words_told-next given m k (actor_of line) n (ran given m line).0 shown are in
      cost_from-append given (first_machine given) (first_kept given) h next
      ∙ ap₂ (λ ts ws. cost_from given (first_machine given) (first_kept given) (steps_told h) (words_told h) + cost_from given m k ts ws) steps words

-- what is kept after what a line makes
kept_line : (given : Given) (m : Machine) (k : Kept) (actor n : ℕ) (ts : List Taken) (shown : List CacheWord) → AreShown given m k ts shown
    → kept_told given m k (told_by actor n ts shown) ≡ kept_past given m k ts shown
kept_line given m k actor n [] shown are = nothing shown
  where
    nothing : (ws : List CacheWord) → kept_told given m k (told_by actor n [] ws) ≡ kept_past given m k [] ws
    nothing [] = refl
    nothing (w ∷ ws) = refl
kept_line given m k actor n (t ∷ ts) [] are = absurd are
kept_line given m k actor n (t ∷ ts) (w ∷ ws) are =
    kept_line given (step given m t.event).1 (kept_after given m k t.event t.outcome w) actor n ts ws are.1

pub kept_next : (given : Given) (lines : List ScriptLine) (h : List Told) (line : ScriptLine) (shown : List CacheWord)
    → (let m = machine_after given (first_machine given) (steps_told h) in
    let k = kept_told given (first_machine given) (first_kept given) h in
    AreShown given m k (ran given m line).0 shown
    → kept_told given (first_machine given) (first_kept given) (h ++ told_next given lines h line shown) ≡ kept_past given m k (ran given m line).0 shown)
kept_next given lines h line shown are =
    let m = machine_after given (first_machine given) (steps_told h) in
    let k = kept_told given (first_machine given) (first_kept given) h in
    kept_told-append given (first_machine given) (first_kept given) h (told_next given lines h line shown)
    ∙ kept_line given m k (actor_of line) (own_count (actor_of line) lines + 1) (ran given m line).0 shown are

-- ---- more lines

-- a word that is due stands for itself
in_stands : (list : Option RealmKeys) (key : Key) → stands_for (word_in list key) ≡ word_in list key
in_stands None key = refl
in_stands (Some l) key = by (has_key key l.keys)
  where
    by : (b : Bool) → stands_for (cond b words.Hit words.Miss) ≡ cond b words.Hit words.Miss
    by true = refl
    by false = refl

after_stands : (found : CacheWord) (touched : Bool) → stands_for (word_after found touched) ≡ word_after found touched
after_stands found touched = by (is_miss found) touched
  where
    by : (b touched : Bool) → stands_for (cond b (cond touched words.Late words.Kept) words.Dash) ≡ cond b (cond touched words.Late words.Kept) words.Dash
    by true true = refl
    by true false = refl
    by false touched = refl

by_stands : (known : Known) (lists : List RealmKeys) (found : CacheWord) (meaning : Meaning) → stands_for (word_by known lists found meaning) ≡ word_by known lists found meaning
by_stands known lists found Nothing = refl
by_stands known lists found (Begins mech pin) = in_stands (list_of lists pin.place.realm) (sought mech pin)
by_stands known lists found (Ends mech pin) = after_stands found (touched_since known.edits pin.version (deps known pin.place))

on_stands : (known : Known) (live : Live) (k : Kept) (c : ℕ) (event : Event) (outcome : Outcome) → stands_for (word_on known live k c event outcome) ≡ word_on known live k c event outcome
on_stands known live k c event outcome = by (is_accepted outcome) (by_stands known k.lists (found_at k.founds c) (meaning known live c event))
  where
    by : (b : Bool) {word : CacheWord} → stands_for word ≡ word → stands_for (cond b word words.None) ≡ cond b word words.None
    by true h = h
    by false h = refl

due_stands : (given : Given) (m : Machine) (k : Kept) (event : Event) (outcome : Outcome)
    → stands_for (word_due given m k event outcome) ≡ word_due given m k event outcome
due_stands given m k (events.Name1 c claim) outcome = on_stands (known given m) m.live k c (events.Name1 c claim) outcome
due_stands given m k (events.Name2 c serial brought) outcome = on_stands (known given m) m.live k c (events.Name2 c serial brought) outcome
due_stands given m k (events.Bad bad) outcome = refl
due_stands given m k (events.Change edit) outcome = refl
due_stands given m k (events.Begin c mech brought) outcome = refl
due_stands given m k (events.Check1 c serial evidence) outcome = refl
due_stands given m k (events.Check2 c serial brought) outcome = refl
due_stands given m k (events.Authorize c) outcome = refl
due_stands given m k (events.Allows c wanted) outcome = refl
due_stands given m k (events.Succeed c) outcome = refl
due_stands given m k (events.Fail c) outcome = refl
due_stands given m k (events.Close c) outcome = refl

-- the words that are due behind steps
abbrev pub words_due : Given → Machine → Kept → List Taken → List CacheWord
words_due given m k [] = []
words_due given m k (t ∷ ts) =
    let w = word_due given m k t.event t.outcome in
    w ∷ words_due given (step given m t.event).1 (kept_after given m k t.event t.outcome w) ts

due_are_shown : (given : Given) (m : Machine) (k : Kept) (ts : List Taken) → AreShown given m k ts (words_due given m k ts)
due_are_shown given m k [] = tt
due_are_shown given m k (t ∷ ts) =
    (due_stands given m k t.event t.outcome, due_are_shown given (step given m t.event).1 (kept_after given m k t.event t.outcome (word_due given m k t.event t.outcome)) ts)

-- a history of lines is the prefix of one of more lines
pub history_on : (given : Given) (rest lines : List ScriptLine) (h : List Told) → IsHistoryOf given lines h → (more : List Told) × IsHistoryOf given (lines ++ rest) (h ++ more)
history_on given [] lines h is = ([], subst (λ ls. IsHistoryOf given ls (h ++ [])) (sym (append-nil lines)) (subst (IsHistoryOf given lines) (sym (append-nil h)) is))
history_on given (line ∷ rest) lines h is =
    let m = machine_after given (first_machine given) (steps_told h) in
    let k = kept_told given (first_machine given) (first_kept given) h in
    let words = words_due given m k (ran given m line).0 in
    let next = told_next given lines h line words in
    let later = history_on given rest (lines ++ line ∷ []) (h ++ next) (history_next given lines h line words is (due_are_shown given m k (ran given m line).0)) in (
      next ++ later.0,
      subst (λ ls. IsHistoryOf given ls (h ++ (next ++ later.0))) (append_assoc lines (line ∷ []) rest)
          (subst (IsHistoryOf given ((lines ++ line ∷ []) ++ rest)) (append_assoc h next later.0) later.1),
    )
