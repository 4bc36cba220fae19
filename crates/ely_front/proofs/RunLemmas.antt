-- A line that is run part by part.
use Rattle.std.proofs.Common.{◌≡◌, ℕ, zero, suc, ◌+◌, ◌-◌, ◌^◌, ◌<◌, ◌≤◌, Bool, true, false, not, List, [], ◌∷◌, ◌++◌, length, drop, Option, Some, None, Result, Ok, Err, OnErr, refl, sym, ap, ◌∙◌, ⊎_elim, ◌⊎◌, arith, add-one, append_assoc, append-nil}
use Rattle.std.specs.Prelude.{slice_get}
use Rattle.ely_script.specs.declared.entry.Entry.{Entry}
use Rattle.ely_script.specs.Lines.{ScriptLine}
use Rattle.ely_login.specs.Outcomes.{is_accepted}
use Rattle.ely_domain.specs.declared.event.Event.{Event}
use Rattle.ely_domain.specs.Costs.{RoseBy, step_cost}
use Rattle.ely_history.specs.Costs.{cost_from}
use Rattle.ely_domain.specs.Domains.{Seen}
use Rattle.ely_domain.specs.Given.{Given}
use Rattle.ely_domain.specs.Keeping.{kept_after}
use Rattle.ely_history.specs.Lines.{Ran, Taken, taken, carried_after, after_first, run_parts, entries_at}
use Rattle.ely_domain.specs.Machine.{Machine, step}
use Rattle.ely_history.specs.Parts.{Part, parts_of, event_of}
use Rattle.ely_history.proofs.Opened.{step_opens, stays_by, quiet, quiet_drop, quiet_first, lone_or_quiet}
use Rattle.ely_front.specs.Line.{MakesStep, Makes, StopsIn, HasRoomFor}

-- ---- one step of what is left

-- where the part has no event, nothing is made
pub run_none : (given : Given) (m : Machine) (carried : Option ℕ) (part : Part) (rest : List Part) → event_of part carried ≡ None
    → run_parts given m carried (part ∷ rest) ≡ ([], m)
unfolding run_parts
run_none given m carried part rest none = rw none refl

-- a step that was refused is the last
pub run_last : (given : Given) (m : Machine) (carried : Option ℕ) (part : Part) (rest : List Part) (event : Event) → event_of part carried ≡ Some event
    → is_accepted (step given m event).0 ≡ false
    → run_parts given m carried (part ∷ rest) ≡ (taken given m event ∷ [], (step given m event).1)
unfolding run_parts
run_last given m carried part rest event is refused = rw (is, refused) refl

-- behind a step that was accepted the rest is made
pub run_more : (given : Given) (m : Machine) (carried : Option ℕ) (part : Part) (rest : List Part) (event : Event) → event_of part carried ≡ Some event
    → is_accepted (step given m event).0 ≡ true
    → run_parts given m carried (part ∷ rest) ≡ after_first (taken given m event) (run_parts given (step given m event).1 (carried_after carried event (step given m event)) rest)
unfolding run_parts
run_more given m carried part rest event is accepted = rw (is, accepted) refl

-- at any rate the step is the first
run_first : (given : Given) (m : Machine) (carried : Option ℕ) (part : Part) (rest : List Part) (event : Event) → event_of part carried ≡ Some event
    → (more : List Taken) × ((run_parts given m carried (part ∷ rest)).0 ≡ taken given m event ∷ more)
run_first given m carried part rest event is = by (is_accepted (step given m event).0) refl
  where
    by : (b : Bool) → is_accepted (step given m event).0 ≡ b → (more : List Taken) × ((run_parts given m carried (part ∷ rest)).0 ≡ taken given m event ∷ more)
    by true e = (_, ap (λ (r : Ran). r.0) (run_more given m carried part rest event is e))
    by false e = ([], ap (λ (r : Ran). r.0) (run_last given m carried part rest event is e))

pub run_nothing : (given : Given) (m : Machine) (carried : Option ℕ) → run_parts given m carried [] ≡ ([], m)
unfolding run_parts
run_nothing given m carried = refl

-- ---- the parts that are left

-- where there is a part at an index, it is the first from there on
here_suc : (xs : List Part) (i : ℕ) (p : Part) → Some p ≡ slice_get xs i → drop i xs ≡ p ∷ drop (suc i) xs
here_suc [] i p h = absurd cc
here_suc (x ∷ xs) zero p h =
    let same : p ≡ x = cc in
    rw same refl
here_suc (x ∷ xs) (suc i) p h = here_suc xs i p h

pub part_here : (xs : List Part) (i : ℕ) (p : Part) → Some p ≡ slice_get xs i → drop i xs ≡ p ∷ drop (i + 1) xs
part_here xs i p h = rw add-one (here_suc xs i p h)

-- where there is none, nothing is left
pub none_here : (xs : List Part) (i : ℕ) → None ≡ slice_get xs i → drop i xs ≡ []
none_here [] zero h = refl
none_here [] (suc i) h = refl
none_here (x ∷ xs) zero h = absurd cc
none_here (x ∷ xs) (suc i) h = none_here xs i h

-- the index of a part is below the count of them
pub place_below : (xs : List Part) (i : ℕ) (p : Part) → Some p ≡ slice_get xs i → i < length xs
place_below [] i p h = absurd cc
place_below (x ∷ xs) zero p h = omega arith
place_below (x ∷ xs) (suc i) p h = omega (arith, place_below xs i p h)

-- ---- how many logins are opened

-- behind a step that isn't the last of its line there is room for the next
pub room_next : (given : Given) (m : Machine) (line : ScriptLine) (carried : Option ℕ) (i : ℕ) (p : Part) (event : Event) (rest : List Part)
    → drop i (parts_of line) ≡ p ∷ rest → event_of p carried ≡ Some event → m.opened < 2 ^ 64 - 1 → HasRoomFor (step given m event).1 rest
room_next given m line carried i p event [] h is room = tt
room_next given m line carried i p event (q ∷ qs) h is room = ⊎_elim
    (λ (lone : length (parts_of line) ≤ 1). absurd (too_many i (parts_of line) lone h))
    (λ (all : quiet (parts_of line) ≡ true).
    let here : quiet (p ∷ q ∷ qs) ≡ true = rw h at (quiet_drop (parts_of line) i all) in
    rw (stays_by given m p carried event is (quiet_first p (q ∷ qs) here)) room)
    (lone_or_quiet line)
  where
    too_many : (i : ℕ) (xs : List Part) → length xs ≤ 1 → drop i xs ≡ p ∷ q ∷ qs → ⊥
    too_many zero xs lone h = absurd (omega (arith, ap length h, lone))
    too_many (suc i) [] lone h = absurd cc
    too_many (suc i) (x ∷ xs) lone h = too_many i xs (omega (arith, lone)) h

-- how many steps some parts make
pub run_short : (given : Given) (m : Machine) (carried : Option ℕ) (ps : List Part) → length (run_parts given m carried ps).0 ≤ length ps
run_short given m carried [] = rw (run_nothing given m carried) (omega arith)
run_short given m carried (p ∷ ps) = by_event (λ event. run_short given (step given m event).1 (carried_after carried event (step given m event)) ps) (event_of p carried) refl
  where
    by_event : ((event : Event) → length (run_parts given (step given m event).1 (carried_after carried event (step given m event)) ps).0 ≤ length ps)
        → (o : Option Event) → event_of p carried ≡ o → length (run_parts given m carried (p ∷ ps)).0 ≤ suc (length ps)
    by_event more None is = rw (run_none given m carried p ps is) (omega arith)
    by_event more (Some event) is = by (is_accepted (step given m event).0) refl
      where
        by : (b : Bool) → is_accepted (step given m event).0 ≡ b → length (run_parts given m carried (p ∷ ps)).0 ≤ suc (length ps)
        by true e = rw (run_more given m carried p ps event is e) (omega (arith, more event))
        by false e = rw (run_last given m carried p ps event is e) (omega arith)

-- how many logins they open
pub run_opens : (given : Given) (m : Machine) (carried : Option ℕ) (ps : List Part) → (run_parts given m carried ps).1.opened ≤ m.opened + length ps
run_opens given m carried [] = rw (run_nothing given m carried) (omega arith)
run_opens given m carried (p ∷ ps) = by_event (λ event. run_opens given (step given m event).1 (carried_after carried event (step given m event)) ps) (event_of p carried) refl
  where
    by_event : ((event : Event) → (run_parts given (step given m event).1 (carried_after carried event (step given m event)) ps).1.opened ≤ (step given m event).1.opened + length ps)
        → (o : Option Event) → event_of p carried ≡ o → (run_parts given m carried (p ∷ ps)).1.opened ≤ m.opened + suc (length ps)
    by_event more None is = rw (run_none given m carried p ps is) (omega arith)
    by_event more (Some event) is = by (is_accepted (step given m event).0) refl
      where
        by : (b : Bool) → is_accepted (step given m event).0 ≡ b → (run_parts given m carried (p ∷ ps)).1.opened ≤ m.opened + suc (length ps)
        by true e = rw (run_more given m carried p ps event is e) (omega (arith, more event, step_opens given m event))
        by false e = rw (run_last given m carried p ps event is e) (omega (arith, step_opens given m event))

-- ---- what is made

-- nothing was made
pub makes_nothing : (old : Seen) (actor : ℕ) (made : List Entry) (n : ℕ) → Makes old old actor ([], old.machine) made made n n
makes_nothing old actor made n = record {
  shown = [];
  are_shown = tt;
  entries = sym (append-nil made);
  machine = refl;
  kept = refl;
  paid = (omega arith, omega arith);
}

-- one step was made, and it is all
makes_last : (old new : Seen) (actor : ℕ) (event : Event) (before after : List Entry) (n k : ℕ) → MakesStep old new actor event before after
    → RoseBy n k (step_cost old.given old.machine old.kept event)
    → Makes old new actor (taken old.given old.machine event ∷ [], (step old.given old.machine event).1) before after n k
makes_last old new actor event before after n k s rose = record {
  shown = s.shown ∷ [];
  are_shown = (s.stands, tt);
  entries = s.entry;
  machine = s.machine;
  kept = s.kept;
  paid = (rose.0, omega (arith, rose.1));
}

-- one step was made, and others behind it
makes_more : (old mid new : Seen) (actor : ℕ) (event : Event) (rest : Ran) (before between after : List Entry) (n j k : ℕ) → mid.given ≡ old.given
    → MakesStep old mid actor event before between → RoseBy n j (step_cost old.given old.machine old.kept event)
    → Makes mid new actor rest between after j k
    → Makes old new actor (after_first (taken old.given old.machine event) rest) before after n k
makes_more old mid new actor event rest before between after n j k same s rose m =
    let more : RoseBy j k (cost_from old.given (step old.given old.machine event).1 (kept_after old.given old.machine old.kept event (step old.given old.machine event).0 s.shown) rest.0 m.shown) =
    rw (same, s.machine, s.kept) at m.paid in
    record {
      shown = s.shown ∷ m.shown;
      are_shown = (s.stands, rw (same, s.machine, s.kept) at m.are_shown);
      entries = m.entries ∙ (ap (λ es. es ++ entries_at actor 0 rest.0 m.shown) s.entry ∙ append_assoc before _ _);
      machine = m.machine;
      kept = rw (same, s.machine, s.kept) at m.kept;
      paid = (omega (arith, rose.0, more.0), omega (arith, rose.1, more.1));
    }

-- what holds at any rate holds where an error is answered
pub at_any_rate : {T E : Type 0} (r : Result T E) (P : Type 0) → P → OnErr r P
at_any_rate (Ok x) P p = tt
at_any_rate (Err e) P p = p

-- a part of a line is the first of what is left, and its event is this; the line carries that serial
module _ (old : Seen) (carried : Option ℕ) (left : List Part) (part : Part) (rest : List Part) (event : Event)
    (here : left ≡ part ∷ rest) (is : event_of part carried ≡ Some event) where
  -- nothing was made, or the first step was
  pub stops_first : (m' : Machine) → (m' ≡ old.machine) ⊎ (m' ≡ (step old.given old.machine event).1) → StopsIn old.given old.machine m' (run_parts old.given old.machine carried left)
  stops_first m' stood = ⊎_elim
      (λ (h : m' ≡ old.machine). record { prefix = []; back = (run_parts old.given old.machine carried left).0; are = refl; machine = h })
      (λ (h : m' ≡ (step old.given old.machine event).1).
      let first = run_first old.given old.machine carried part rest event is in
      record { prefix = taken old.given old.machine event ∷ []; back = first.0; are = rw here first.1; machine = h })
      stood

  -- the first step was made and accepted, and some of those behind it
  pub stops_later : (m' : Machine) → is_accepted (step old.given old.machine event).0 ≡ true
      → StopsIn old.given (step old.given old.machine event).1 m' (run_parts old.given (step old.given old.machine event).1 (carried_after carried event (step old.given old.machine event)) rest)
      → StopsIn old.given old.machine m' (run_parts old.given old.machine carried left)
  stops_later m' accepted s =
      let all : (run_parts old.given old.machine carried left).0 ≡ taken old.given old.machine event ∷ (run_parts old.given (step old.given old.machine event).1 (carried_after carried event (step old.given old.machine event)) rest).0 =
      rw here (ap (λ (r : Ran). r.0) (run_more old.given old.machine carried part rest event is accepted)) in
      record {
        prefix = taken old.given old.machine event ∷ s.prefix;
        back = s.back;
        are = all ∙ ap (λ ts. taken old.given old.machine event ∷ ts) s.are;
        machine = s.machine;
      }

  pub made_last : (new : Seen) (actor : ℕ) (before after : List Entry) (n k : ℕ) → is_accepted (step old.given old.machine event).0 ≡ false
      → MakesStep old new actor event before after → RoseBy n k (step_cost old.given old.machine old.kept event)
      → Makes old new actor (run_parts old.given old.machine carried left) before after n k
  made_last new actor before after n k refused s rose =
      rw (here, run_last old.given old.machine carried part rest event is refused) (makes_last old new actor event before after n k s rose)

  pub made_more : (mid new : Seen) (actor : ℕ) (before between after : List Entry) (n j k : ℕ) → mid.given ≡ old.given
      → is_accepted (step old.given old.machine event).0 ≡ true
      → MakesStep old mid actor event before between → RoseBy n j (step_cost old.given old.machine old.kept event)
      → Makes mid new actor (run_parts old.given (step old.given old.machine event).1 (carried_after carried event (step old.given old.machine event)) rest) between after j k
      → Makes old new actor (run_parts old.given old.machine carried left) before after n k
  made_more mid new actor before between after n j k same accepted s rose more =
      rw (here, run_more old.given old.machine carried part rest event is accepted) (makes_more old mid new actor event _ before between after n j k same s rose more)

not_true : (b : Bool) → not b ≡ true → b ≡ false
not_true true h = sym h
not_true false h = refl

pub not_false : (b : Bool) → not b ≡ false → b ≡ true
not_false true h = refl
not_false false h = sym h

-- ---- what is made from an index on leads to the whole line

-- From here on this is left of all: whatever makes it or stops in it does so for all.
pub record LeadsOn (first now : Seen) (actor : ℕ) (all left : Ran) (start made : List Entry) (before paid : ℕ) : Type 0 where
  pub makes : (new : Seen) (after : List Entry) (k : ℕ) → Makes now new actor left made after paid k → Makes first new actor all start after before k
  pub stops : (m : Machine) → StopsIn now.given now.machine m left → StopsIn first.given first.machine m all

module _ (first now : Seen) (actor : ℕ) (line : ScriptLine) (all : Ran) (start made : List Entry) (before paid : ℕ) (carried : Option ℕ) (index : ℕ)
    (on : LeadsOn first now actor all (run_parts now.given now.machine carried (drop index (parts_of line))) start made before paid) where
  -- behind the last part nothing is left
  pub no_part : None ≡ slice_get (parts_of line) index → Makes first now actor all start made before paid
  no_part none =
      let left : run_parts now.given now.machine carried (drop index (parts_of line)) ≡ ([], now.machine) = rw (none_here (parts_of line) index none) (run_nothing now.given now.machine carried) in
      on.makes now made paid (rw left (makes_nothing now actor made paid))

  module _ (part : Part) (found : Some part ≡ slice_get (parts_of line) index) where
    here : drop index (parts_of line) ≡ part ∷ drop (index + 1) (parts_of line)
    here = part_here (parts_of line) index part found

    pub no_event : event_of part carried ≡ None → Makes first now actor all start made before paid
    no_event none =
        let left : run_parts now.given now.machine carried (drop index (parts_of line)) ≡ ([], now.machine) = rw here (run_none now.given now.machine carried part (drop (index + 1) (parts_of line)) none) in
        on.makes now made paid (rw left (makes_nothing now actor made paid))

    module _ (event : Event) (is : event_of part carried ≡ Some event) where
      pub breaks : (m : Machine) → (m ≡ now.machine) ⊎ (m ≡ (step now.given now.machine event).1) → StopsIn first.given first.machine m all
      breaks m stood = on.stops m (stops_first now carried (drop index (parts_of line)) part (drop (index + 1) (parts_of line)) event here is m stood)

      -- the step was refused
      pub ends : (new : Seen) (after : List Entry) (k : ℕ) (accepted : Bool) → accepted ≡ is_accepted (step now.given now.machine event).0 → not accepted ≡ true
          → MakesStep now new actor event made after → RoseBy paid k (step_cost now.given now.machine now.kept event)
          → Makes first new actor all start after before k
      ends new after k accepted accepted_is refused s rose =
          on.makes new after k (made_last now carried (drop index (parts_of line)) part (drop (index + 1) (parts_of line)) event here is new actor made after paid k (sym accepted_is ∙ not_true accepted refused) s rose)

      -- the step was accepted
      module _ (mid : Seen) (between : List Entry) (later : ℕ) (carried' : Option ℕ) (same : mid.given ≡ now.given) (accepted : is_accepted (step now.given now.machine event).0 ≡ true)
          (s : MakesStep now mid actor event made between) (rose : RoseBy paid later (step_cost now.given now.machine now.kept event)) (carried_is : carried' ≡ carried_after carried event (step now.given now.machine event)) where
        abbrev rest : List Part
        rest = drop (index + 1) (parts_of line)

        left_is : run_parts mid.given mid.machine carried' rest ≡ run_parts now.given (step now.given now.machine event).1 (carried_after carried event (step now.given now.machine event)) rest
        left_is = rw (same, s.machine, carried_is) refl

        pub leads : LeadsOn first mid actor all (run_parts mid.given mid.machine carried' rest) start between before later
        leads = record {
          makes = λ new after k h.
              on.makes new after k (made_more now carried (drop index (parts_of line)) part rest event here is mid new actor made between after paid later k same accepted s rose (rw left_is at h));
          stops = λ m h.
              on.stops m (stops_later now carried (drop index (parts_of line)) part rest event here is m accepted (rw (left_is, same, s.machine) at h));
        }
