-- A history goes on by a line: its steps are legal, and then every line is over.
use Rattle.std.proofs.Common.{◌≡◌, ℕ, zero, suc, ◌+◌, Bool, true, false, ◌&&◌, cond, eqb, ltb, List, [], ◌∷◌, ◌++◌, length, drop, Option, Some, None, Ok, Err, refl, sym, ap, subst, ◌∙◌, add-one, add-zero, arith, length-drop}
use Rattle.std.specs.Prelude.{slice_get, filter}
use Rattle.std.proofs.lemmas.Bool.{eqb-true, eq-eqb}
use Rattle.std.proofs.lemmas.Bool.Decides.{nat_tests}
use Rattle.std.proofs.lemmas.List.Elements.{filter-append}
use Rattle.std.proofs.lemmas.List.Sums.{length-filter, sum_by-append}
use Rattle.ely_script.specs.declared.command.LineError.TheVariants as errors
use Rattle.ely_script.specs.declared.command.Verb.{Verb}
use Rattle.ely_script.specs.declared.command.Verb.TheVariants as verbs
use Rattle.ely_login.specs.declared.word.CacheWord.{CacheWord}
use Rattle.ely_script.specs.Lines.{ScriptLine}
use Rattle.ely_login.specs.Outcomes.{is_accepted}
use Rattle.ely_domain.specs.declared.event.Event.{Event}
use Rattle.ely_domain.specs.Given.{Given}
use Rattle.ely_history.specs.Histories.{machine_after}
use Rattle.ely_domain.specs.Keeping.{Kept, word_due, kept_after, first_kept}
use Rattle.ely_domain.specs.KeptKeys.{stands_for}
use Rattle.ely_history.specs.Legal.{Cursor, Point, first_point, own_lines, IsNext, cursor_after, point_after, IsLegalFrom, AreOver, IsWhole}
use Rattle.ely_history.specs.Lines.{Taken, Ran, taken, after_first, carried_after, run_parts, ran, AreShown, kept_past}
use Rattle.ely_domain.specs.Machine.{Machine, Stepped, first_machine, step}
use Rattle.ely_history.specs.Parts.{Part, actor_of, parts_by, parts_of, event_of}
use Rattle.ely_history.specs.Replays.{Told, made_by, told_by, steps_told, kept_told, own_count}
use Rattle.ely_history.proofs.Serving.{Serves, serves_line}

-- ---- legal histories, put together and read otherwise

-- what is legal up to points from which the rest is legal is legal with the rest
pub legal_append : (given : Given) (lines : List ScriptLine) (ends : Point → Type 0) (p : Point) (xs ys : List Told)
    → IsLegalFrom given lines (λ q. IsLegalFrom given lines ends q ys) p xs → IsLegalFrom given lines ends p (xs ++ ys)
legal_append given lines ends p [] ys legal = legal
legal_append given lines ends p (x ∷ xs) ys legal =
    (legal.0, legal.1, legal_append given lines ends (point_after given p legal.0 x) xs ys legal.2)

-- a history stays legal where more is asked of its end that holds there
legal_ends : (given : Given) (lines : List ScriptLine) (ends ends' : Point → Type 0) (p : Point) (h : List Told)
    → ((q : Point) → ends q → q.machine ≡ machine_after given p.machine (steps_told h) → q.kept ≡ kept_told given p.machine p.kept h → ends' q)
    → IsLegalFrom given lines ends p h → IsLegalFrom given lines ends' p h
legal_ends given lines ends ends' p [] more legal = more p legal refl refl
legal_ends given lines ends ends' p (x ∷ xs) more legal =
    (legal.0, legal.1, legal_ends given lines ends ends' (point_after given p legal.0 x) xs more legal.2)

-- what is found in a prefix is found in the whole
found_on : (xs ys : List ScriptLine) (i : ℕ) (l : ScriptLine) → slice_get xs i ≡ Some l → slice_get (xs ++ ys) i ≡ Some l
found_on [] ys i l h = cc
found_on (x ∷ xs) ys zero l h = h
found_on (x ∷ xs) ys (suc i) l h = found_on xs ys i l h

-- and where more lines come
legal_more : (given : Given) (lines more : List ScriptLine) (ends : Point → Type 0) (p : Point) (h : List Told)
    → IsLegalFrom given lines ends p h → IsLegalFrom given (lines ++ more) ends p h
legal_more given lines more ends p [] legal = legal
legal_more given lines more ends p (x ∷ xs) legal =
    let is = legal.1 in
    let a = x.made.actor in
    let own : own_lines (lines ++ more) a ≡ own_lines lines a ++ own_lines more a = filter-append (λ l. eqb (actor_of l) a) lines more in (
      legal.0,
      record {
        part = is.part;
        line_is = rw own (found_on (own_lines lines a) (own_lines more a) (p.cursors a).over legal.0 is.line_is);
        number_is = is.number_is;
        part_is = is.part_is;
        event_is = is.event_is;
        outcome_is = is.outcome_is;
        word_is = is.word_is;
      },
      legal_more given lines more ends (point_after given p legal.0 x) xs legal.2,
    )

-- ---- one line

-- the element after these
get_after : (xs ys : List ScriptLine) (y : ScriptLine) → slice_get (xs ++ y ∷ ys) (length xs) ≡ Some y
get_after [] ys y = refl
get_after (x ∷ xs) ys y = get_after xs ys y

-- a line is its actor's next after the earlier ones
line_here : (earlier later : List ScriptLine) (l : ScriptLine) → slice_get (own_lines (earlier ++ l ∷ later) (actor_of l)) (own_count (actor_of l) earlier) ≡ Some l
line_here earlier later l =
    let p : ScriptLine → Bool = λ x. eqb (actor_of x) (actor_of l) in
    let here : filter p (l ∷ later) ≡ l ∷ filter p later = rw (eq-eqb (actor_of l) (actor_of l) refl) refl in
    let all : own_lines (earlier ++ l ∷ later) (actor_of l) ≡ filter p earlier ++ l ∷ filter p later = filter-append p earlier (l ∷ later) ∙ ap (λ xs. filter p earlier ++ xs) here in
    rw (all, ← length-filter p earlier) (get_after (filter p earlier) (filter p later) l)

-- one more line of its actor
pub count_push : (earlier : List ScriptLine) (l : ScriptLine) (a : ℕ) → own_count a (earlier ++ l ∷ []) ≡ own_count a earlier + cond (eqb (actor_of l) a) 1 0
count_push earlier l a = sum_by-append (λ x. cond (eqb (actor_of x) a) 1 0) earlier (l ∷ []) ∙ ap (λ n. own_count a earlier + n) (zero_add_ (cond (eqb (actor_of l) a) 1 0))
  where
    zero_add_ : (n : ℕ) → 0 + n ≡ n
    zero_add_ n = omega arith

-- the part at an index
part_here : (xs : List Part) (i : ℕ) (w : Part) (ws : List Part) → drop i xs ≡ w ∷ ws → slice_get xs i ≡ Some w
part_here [] zero w ws h = cc
part_here [] (suc i) w ws h = cc
part_here (x ∷ xs) zero w ws h = cc
part_here (x ∷ xs) (suc i) w ws h = part_here xs i w ws h

parts_behind : (xs : List Part) (i : ℕ) (w : Part) (ws : List Part) → drop i xs ≡ w ∷ ws → drop (i + 1) xs ≡ ws
parts_behind xs i w ws h = rw add-one (by_list xs i h)
  where
    by_list : (xs : List Part) (i : ℕ) → drop i xs ≡ w ∷ ws → drop (suc i) xs ≡ ws
    by_list [] zero h = cc
    by_list [] (suc i) h = cc
    by_list (x ∷ xs) zero h = cc
    by_list (x ∷ xs) (suc i) h = by_list xs i h

-- the cursor of an actor whose next line is untouched
abbrev pub untouched : ℕ → Cursor
untouched over = record { over = over; made = 0; carried = None }

-- the steps of one line, from one of its parts on
module _ (given : Given) (lines earlier : List ScriptLine) (l : ScriptLine)
    (found : slice_get (own_lines lines (actor_of l)) (own_count (actor_of l) earlier) ≡ Some l) (ends : Point → Type 0) where
  -- the cursors where the line has come to a part
  abbrev InLine : (ℕ → Cursor) → ℕ → Option ℕ → Type 0
  InLine cs i carried =
      (cs (actor_of l) ≡ record { over = own_count (actor_of l) earlier; made = i; carried = carried })
      × ((b : ℕ) → eqb b (actor_of l) ≡ false → cs b ≡ untouched (own_count b earlier))

  abbrev Over : (ℕ → Cursor) → Type 0
  Over cs = (b : ℕ) → cs b ≡ untouched (own_count b (earlier ++ l ∷ []))

  -- the cursors after a step
  abbrev stepped : (ℕ → Cursor) → Taken → Stepped → ℕ → Cursor
  stepped cs t s = λ b. cond (eqb b (actor_of l)) (cursor_after l (cs b) t (carried_after (cs b).carried t.event s)) (cs b)

  stepped_on : (cs : ℕ → Cursor) (t : Taken) (s : Stepped) (i : ℕ) (carried : Option ℕ) → InLine cs i carried
      → is_accepted t.outcome ≡ true → ltb (i + 1) (length (parts_of l)) ≡ true → InLine (stepped cs t s) (i + 1) (carried_after carried t.event s)
  stepped_on cs t s i carried at accepted more =
      (rw (eq-eqb (actor_of l) (actor_of l) refl) (rw at.0 (rw (accepted, more) refl)), λ b other. rw other (at.1 b other))

  stepped_over : (cs : ℕ → Cursor) (t : Taken) (s : Stepped) (i : ℕ) (carried : Option ℕ) → InLine cs i carried
      → (is_accepted t.outcome && ltb (i + 1) (length (parts_of l))) ≡ false → Over (stepped cs t s)
  stepped_over cs t s i carried at last b = by_actor (eqb b (actor_of l)) refl
    where
      by_actor : (test : Bool) → eqb b (actor_of l) ≡ test
          → cond (eqb b (actor_of l)) (cursor_after l (cs b) t (carried_after (cs b).carried t.event s)) (cs b) ≡ untouched (own_count b (earlier ++ l ∷ []))
      by_actor true e =
          let same : b ≡ actor_of l = eqb-true b (actor_of l) e in
          rw e (rw (count_push earlier l b) (rw same (rw (eq-eqb (actor_of l) (actor_of l) refl) (rw at.0 (rw last refl)))))
      by_actor false e =
          let other : eqb (actor_of l) b ≡ false = grind (arith, nat_tests) in
          rw e (rw (count_push earlier l b) (rw other (rw add-zero (at.1 b e))))

  -- what is needed of the point where the line is over
  abbrev Finishes : Machine → Kept → Type 0
  Finishes m k = (cs : ℕ → Cursor) → Over cs → ends (record { machine = m; kept = k; cursors = cs })

  abbrev told_at : Taken → CacheWord → Told
  told_at t w = record { made = made_by (actor_of l) (own_count (actor_of l) earlier + 1) t; shown = w }

  next_step : (m : Machine) (k : Kept) (cs : ℕ → Cursor) (i : ℕ) (carried : Option ℕ) (part : Part) (rest : List Part) (event : Event) (w : CacheWord)
      → InLine cs i carried → drop i (parts_of l) ≡ part ∷ rest → event_of part carried ≡ Some event
      → stands_for w ≡ word_due given m k event (step given m event).0
      → IsNext given lines (record { machine = m; kept = k; cursors = cs }) l (told_at (taken given m event) w)
  next_step m k cs i carried part rest event w at drops has due = record {
    part = part;
    line_is = rw at.0 found;
    number_is = rw at.0 refl;
    part_is = rw at.0 (part_here (parts_of l) i part rest drops);
    event_is = rw at.0 has;
    outcome_is = refl;
    word_is = due;
  }

  more_parts : (i : ℕ) (w x : Part) (ws : List Part) → drop i (parts_of l) ≡ w ∷ x ∷ ws → ltb (i + 1) (length (parts_of l)) ≡ true
  more_parts i w x ws h =
      let count : length (drop i (parts_of l)) ≡ suc (suc (length ws)) = ap length h in
      let left = length-drop i (parts_of l) in
      grind (arith, nat_tests)

  no_more_parts : (i : ℕ) (w : Part) → drop i (parts_of l) ≡ w ∷ [] → ltb (i + 1) (length (parts_of l)) ≡ false
  no_more_parts i w h =
      let count : length (drop i (parts_of l)) ≡ 1 = ap length h in
      let left = length-drop i (parts_of l) in
      grind (arith, nat_tests)

  and_false : (b : Bool) → (b && false) ≡ false
  and_false true = refl
  and_false false = refl

  -- what is asked of what some parts make, from a machine on
  abbrev LegalRan : Machine → Kept → (ℕ → Cursor) → Ran → Type 0
  LegalRan m k cs r = (shown : List CacheWord) → AreShown given m k r.0 shown → Finishes r.1 (kept_past given m k r.0 shown)
      → IsLegalFrom given lines ends (record { machine = m; kept = k; cursors = cs }) (told_by (actor_of l) (own_count (actor_of l) earlier + 1) r.0 shown)

  line_legal : (m : Machine) (k : Kept) (cs : ℕ → Cursor) (i : ℕ) (carried : Option ℕ) (part : Part) (rest : List Part)
      → InLine cs i carried → drop i (parts_of l) ≡ part ∷ rest → Serves given carried (part ∷ rest)
      → LegalRan m k cs (run_parts given m carried (part ∷ rest))
  unfolding run_parts
  line_legal m k cs i carried part [] at drops serves =
      rw serves.1 (by (is_accepted (step given m serves.0).0))
    where
      by : (b : Bool) → LegalRan m k cs (after_first (taken given m serves.0) (cond {A = Ran} b ([], (step given m serves.0).1) ([], (step given m serves.0).1)))
      by true [] shown done = absurd shown
      by true (w ∷ []) shown done = (
        l,
        next_step m k cs i carried part [] serves.0 w at drops serves.1 shown.0,
        done _ (stepped_over cs (taken given m serves.0) (step given m serves.0) i carried at (rw (no_more_parts i part drops) (and_false (is_accepted (step given m serves.0).0)))),
      )
      by true (w ∷ v ∷ vs) shown done = absurd shown.1
      by false [] shown done = absurd shown
      by false (w ∷ []) shown done = (
        l,
        next_step m k cs i carried part [] serves.0 w at drops serves.1 shown.0,
        done _ (stepped_over cs (taken given m serves.0) (step given m serves.0) i carried at (rw (no_more_parts i part drops) (and_false (is_accepted (step given m serves.0).0)))),
      )
      by false (w ∷ v ∷ vs) shown done = absurd shown.1
  line_legal m k cs i carried part (x ∷ ps) at drops serves =
      rw serves.1 (by (is_accepted (step given m serves.0).0) refl
      (λ accepted w. line_legal (step given m serves.0).1 (kept_after given m k serves.0 (step given m serves.0).0 w) (stepped cs (taken given m serves.0) (step given m serves.0)) (i + 1)
      (carried_after carried serves.0 (step given m serves.0)) x ps
      (stepped_on cs (taken given m serves.0) (step given m serves.0) i carried at accepted (more_parts i part x ps drops))
      (parts_behind (parts_of l) i part (x ∷ ps) drops) (serves.2 m accepted)))
    where
      by : (b : Bool) → is_accepted (step given m serves.0).0 ≡ b
          → (is_accepted (step given m serves.0).0 ≡ true → (w : CacheWord)
          → LegalRan (step given m serves.0).1 (kept_after given m k serves.0 (step given m serves.0).0 w) (stepped cs (taken given m serves.0) (step given m serves.0))
          (run_parts given (step given m serves.0).1 (carried_after carried serves.0 (step given m serves.0)) (x ∷ ps)))
          → LegalRan m k cs (after_first (taken given m serves.0) (cond {A = Ran} b (run_parts given (step given m serves.0).1 (carried_after carried serves.0 (step given m serves.0)) (x ∷ ps)) ([], (step given m serves.0).1)))
      by true e later [] shown done = absurd shown
      by true e later (w ∷ ws) shown done =
          (l, next_step m k cs i carried part (x ∷ ps) serves.0 w at drops serves.1 shown.0, later e w ws shown.1 done)
      by false e later [] shown done = absurd shown
      by false e later (w ∷ []) shown done = (
        l,
        next_step m k cs i carried part (x ∷ ps) serves.0 w at drops serves.1 shown.0,
        done _ (stepped_over cs (taken given m serves.0) (step given m serves.0) i carried at (rw e refl)),
      )
      by false e later (w ∷ v ∷ vs) shown done = absurd shown.1

-- every line has a part
has_parts : (l : ScriptLine) → (part : Part) × (rest : List Part) × (parts_of l ≡ part ∷ rest)
has_parts (Err (errors.Bad actor bad)) = (_, _, refl)
has_parts (Ok command) = by_verb command.verb
  where
    by_verb : (verb : Verb) → (part : Part) × (rest : List Part) × (parts_by verb ≡ part ∷ rest)
    by_verb (verbs.Change edit) = (_, _, refl)
    by_verb (verbs.Begin c mech brought) = (_, _, refl)
    by_verb (verbs.Plain c message) = (_, _, refl)
    by_verb (verbs.First c message) = (_, _, refl)
    by_verb (verbs.Last c message) = (_, _, refl)
    by_verb (verbs.Digest c method target reply) = (_, _, refl)
    by_verb (verbs.Authorize c) = (_, _, refl)
    by_verb (verbs.Succeed c) = (_, _, refl)
    by_verb (verbs.Fail c) = (_, _, refl)
    by_verb (verbs.Close c) = (_, _, refl)
    by_verb (verbs.Allows c wanted) = (_, _, refl)

whole_line : (given : Given) (lines earlier : List ScriptLine) (l : ScriptLine) (found : slice_get (own_lines lines (actor_of l)) (own_count (actor_of l) earlier) ≡ Some l)
    (ends : Point → Type 0) (m : Machine) (k : Kept) (cs : ℕ → Cursor) → ((b : ℕ) → cs b ≡ untouched (own_count b earlier))
    → LegalRan given lines earlier l found ends m k cs (ran given m l)
whole_line given lines earlier l found ends m k cs at =
    let has = has_parts l in
    rw has.2 (line_legal given lines earlier l found ends m k cs 0 None has.0 has.1 (at (actor_of l), λ b other. at b) has.2 (rw has.2 at (serves_line given l)))

-- ---- the whole history

-- a whole history goes on by one more line
pub whole_next : (given : Given) (lines : List ScriptLine) (h : List Told) (l : ScriptLine) (shown : List CacheWord)
    → (let m = machine_after given (first_machine given) (steps_told h) in
    let k = kept_told given (first_machine given) (first_kept given) h in
    IsWhole given lines h → AreShown given m k (ran given m l).0 shown
    → IsWhole given (lines ++ l ∷ []) (h ++ told_by (actor_of l) (own_count (actor_of l) lines + 1) (ran given m l).0 shown))
whole_next given lines h l shown whole are =
    let m = machine_after given (first_machine given) (steps_told h) in
    let k = kept_told given (first_machine given) (first_kept given) h in
    let all = lines ++ l ∷ [] in
    let new = told_by (actor_of l) (own_count (actor_of l) lines + 1) (ran given m l).0 shown in
    let found : slice_get (own_lines all (actor_of l)) (own_count (actor_of l) lines) ≡ Some l = line_here lines [] l in
    legal_append given all (AreOver all) (first_point given) h new
    (legal_ends given all (AreOver lines) (λ q. IsLegalFrom given all (AreOver all) q new) (first_point given) h
    (λ q over machine_is kept_is.
    subst (λ (mm : Machine). IsLegalFrom given all (AreOver all) (record { machine = mm; kept = q.kept; cursors = q.cursors }) new) (sym machine_is)
    (subst (λ (kk : Kept). IsLegalFrom given all (AreOver all) (record { machine = m; kept = kk; cursors = q.cursors }) new) (sym kept_is)
    (whole_line given all lines l found (AreOver all) m k q.cursors (λ b. over b ∙ ap untouched (length-filter (λ x. eqb (actor_of x) b) lines)) shown are
    (λ cs done a. done a ∙ ap untouched (sym (length-filter (λ x. eqb (actor_of x) a) all))))))
    (legal_more given lines (l ∷ []) (AreOver lines) (first_point given) h whole))

-- no lines have an empty history
pub whole_none : (given : Given) → IsWhole given [] []
whole_none given a = refl
