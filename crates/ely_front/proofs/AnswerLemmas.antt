-- One more line of a replay.
use Rattle.std.proofs.Common.{◌≡◌, ℕ, ◌+◌, ◌≤◌, Bool, true, false, cond, eqb, List, [], ◌∷◌, ◌++◌, length, map, refl, sym, ap, subst, ◌∙◌, append_assoc, append-nil, add-zero, arith, Some, None, length-append}
use Rattle.std.specs.Prelude.{unwrap_or}
use Rattle.std.proofs.lemmas.List.Sums.{count_by-le-length}
use Rattle.std.specs.Io.KnownBytes.{Appends}
use Rattle.std.proofs.lemmas.Bool.{eqb-true, eq-eqb, false≢true}
use Rattle.std.specs.Ordering.{nat_cmp}
use Rattle.std.specs.BTreeMap.{get}
use Rattle.ely_script.specs.declared.entry.Entry.{Entry}
use Rattle.ely_login.specs.declared.word.CacheWord.{CacheWord}
use Rattle.ely_script.specs.Lines.{ScriptLine}
use Rattle.ely_script.specs.Text.{text_from, numbered}
use Rattle.ely_domain.specs.Costs.{RoseBy}
use Rattle.ely_history.specs.Costs.{cost_from}
use Rattle.ely_domain.specs.Domains.{Seen}
use Rattle.ely_domain.specs.Given.{Given}
use Rattle.ely_history.specs.Histories.{machine_after}
use Rattle.ely_domain.specs.Keeping.{Kept, first_kept, kept_after}
use Rattle.ely_history.specs.Lines.{Taken, ran, entry_at, entries_at, AreShown}
use Rattle.ely_domain.specs.Machine.{Machine, first_machine, step}
use Rattle.ely_history.specs.Parts.{actor_of, parts_of}
use Rattle.ely_history.specs.Replays.{Told, told_by, entry_of, own_count, steps_told, words_told, kept_told}
use Rattle.ely_history.proofs.Opened.{four_parts}
use Rattle.ely_history.proofs.Whole.{count_push}
use Rattle.ely_history.proofs.Extends.{told_next, machine_next, cost_next, kept_next, history_next}
use Rattle.ely_front.specs.declared.replay.Replay.{Replay}
use Rattle.ely_front.specs.Line.{Makes}
use Rattle.ely_front.specs.Lines.{text_of, cost_of}
use Rattle.ely_front.specs.Moments.{Moment}
use Rattle.ely_front.specs.Modes.{HasRoom, Answers, Finishes}
use Rattle.ely_front.specs.Replayed.{IsPaidTextOf, IsReplayed}
use Rattle.ely_front.specs.Replay.{IsAfter, HasReplayed, HasSpace, count_of}
use Rattle.ely_front.specs.Ending.{IsDone}
use Rattle.ely_front.specs.LawProofs.{text_of-append}
use Rattle.ely_front.proofs.RunLemmas.{run_short, run_opens}

-- what a history costs
pub cost_is : (given : Given) (h : List Told)
    → cost_of given h ≡ cost_from given (first_machine given) (first_kept given) (steps_told h) (words_told h)
unfolding cost_of
cost_is given h = refl

-- the entries of a line are those of its steps, once they have its number
entries_told : (actor n : ℕ) (ts : List Taken) (shown : List CacheWord) → map entry_of (told_by actor n ts shown) ≡ map (numbered n) (entries_at actor 0 ts shown)
entries_told actor n [] shown = refl
entries_told actor n (t ∷ ts) [] = refl
entries_told actor n (t ∷ ts) (w ∷ ws) = ap (λ es. entry_at actor n t w ∷ es) (entries_told actor n ts ws)

-- where words are shown behind all steps, there are as many entries
as_many : (given : Given) (m : Machine) (k : Kept) (actor n : ℕ) (ts : List Taken) (shown : List CacheWord) → AreShown given m k ts shown
    → (length (told_by actor n ts shown) ≡ length ts) × (length (entries_at actor 0 ts shown) ≡ length ts)
as_many given m k actor n [] [] are = (refl, refl)
as_many given m k actor n [] (w ∷ ws) are = absurd are
as_many given m k actor n (t ∷ ts) [] are = absurd are
as_many given m k actor n (t ∷ ts) (w ∷ ws) are =
    let more = as_many given (step given m t.event).1 (kept_after given m k t.event t.outcome w) actor n ts ws are.1 in
    (omega (arith, more.0), omega (arith, more.1))

-- a line has four steps at most, and opens as many logins
few_steps : (given : Given) (m : Machine) (line : ScriptLine) → length (ran given m line).0 ≤ 4
few_steps given m line =
    let steps = run_short given m None (parts_of line) in
    omega (arith, steps, four_parts line)

few_opened : (given : Given) (m m' : Machine) (line : ScriptLine) → m' ≡ (ran given m line).1 → m'.opened ≤ m.opened + 4
few_opened given m m' line is =
    let opens = run_opens given m None (parts_of line) in
    let same : m'.opened ≡ (ran given m line).1.opened = ap (λ (x : Machine). x.opened) is in
    omega (arith, opens, same, four_parts line)

-- and so it leaves four entries at most
pub few_entries : (old new : Seen) (actor : ℕ) (line : ScriptLine) (entries : List Entry) (before now : ℕ) → Makes old new actor (ran old.given old.machine line) [] entries before now → length entries ≤ 4
few_entries old new actor line entries before now makes =
    let many = as_many old.given old.machine old.kept actor 0 (ran old.given old.machine line).0 makes.shown makes.are_shown in
    omega (arith, few_steps old.given old.machine line, many.1, ap length makes.entries)

-- A line was run on the domain of a replay, its steps were printed, and it was counted.
pub record IsAnswered (old new : Replay) (line : ScriptLine) (n : ℕ) (entries : List Entry) (said : List ℕ) (before now : ℕ) : Type 0 where
  pub makes : Makes old.domain new.domain (actor_of line) (ran old.domain.given old.domain.machine line) [] entries before now
  pub given_is : new.domain.given ≡ old.domain.given
  pub line_is : n ≡ count_of old (actor_of line) + 1
  pub here : get nat_cmp new.counts (actor_of line) ≡ Some n
  pub others : (a : ℕ) → (a ≡ actor_of line → ⊥) → get nat_cmp new.counts a ≡ get nat_cmp old.counts a
  pub number_is : new.number ≡ old.number + length entries
  pub said_is : said ≡ text_from old.number (map (numbered n) entries)

module _ (old new : Replay) (line : ScriptLine) (n : ℕ) (entries : List Entry) (said : List ℕ) (before now : ℕ) (answered : IsAnswered old new line n entries said before now) (given : Given) (lines : List ScriptLine) (h : List Told) (after : IsAfter given old lines h) where
  abbrev stood : Machine
  stood = machine_after given (first_machine given) (steps_told h)

  abbrev keeping : Kept
  keeping = kept_told given (first_machine given) (first_kept given) h

  -- the words that were shown, and the steps behind which they were
  abbrev words : List CacheWord
  words = answered.makes.shown

  abbrev next : List Told
  next = told_next given lines h line words

  are_here : AreShown given stood keeping (ran given stood line).0 words
  are_here = rw (after.given_is, after.machine_is, after.kept_is) at answered.makes.are_shown

  entries_here : entries ≡ entries_at (actor_of line) 0 (ran given stood line).0 words
  entries_here = rw (after.given_is, after.machine_is) at answered.makes.entries

  machine_here : new.domain.machine ≡ (ran given stood line).1
  machine_here = rw (after.given_is, after.machine_is) at answered.makes.machine

  keeps_here : new.domain.kept ≡ kept_told given (first_machine given) (first_kept given) (h ++ next)
  keeps_here = (rw (after.given_is, after.machine_is, after.kept_is) at answered.makes.kept) ∙ sym (kept_next given lines h line words are_here)

  number_here : n ≡ own_count (actor_of line) lines + 1
  number_here = answered.line_is ∙ ap (λ k. k + 1) (after.counted (actor_of line))

  told_here : map entry_of next ≡ map (numbered n) entries
  told_here =
      entries_told (actor_of line) (own_count (actor_of line) lines + 1) (ran given stood line).0 words
      ∙ (ap (map (numbered (own_count (actor_of line) lines + 1))) (sym entries_here)
      ∙ ap (λ k. map (numbered k) entries) (sym number_here))

  text_here : text_of (h ++ next) ≡ text_of h ++ said
  text_here =
      text_of-append h next
      ∙ ap (λ t. text_of h ++ t)
      (ap (text_from (length h + 1)) told_here
      ∙ (ap (λ k. text_from k (map (numbered n) entries)) (sym after.number_is)
      ∙ sym answered.said_is))

  steps_here : (length next ≡ length (ran given stood line).0) × (length entries ≡ length (ran given stood line).0)
  steps_here =
      let many = as_many given stood keeping (actor_of line) (own_count (actor_of line) lines + 1) (ran given stood line).0 words are_here in
      (many.0, ap length entries_here ∙ many.1)

  counted_on : (a : ℕ) → count_of new a ≡ own_count a (lines ++ line ∷ [])
  counted_on a = by_test (eqb (actor_of line) a) refl ∙ sym (count_push lines line a)
    where
      by_test : (b : Bool) → eqb (actor_of line) a ≡ b → unwrap_or (get nat_cmp new.counts a) 0 ≡ own_count a lines + cond (eqb (actor_of line) a) 1 0
      by_test true e =
          let same : actor_of line ≡ a = eqb-true (actor_of line) a e in
          rw e (rw (← same) (rw answered.here number_here))
      by_test false e =
          let differs : a ≡ actor_of line → ⊥ = λ i. false≢true (sym e ∙ eq-eqb (actor_of line) a (sym i)) in
          rw e (rw (answered.others a differs) (after.counted a ∙ sym (add-zero _)))

  stands : IsAfter given new (lines ++ line ∷ []) (h ++ next)
  stands =
      let few = few_steps given stood line in
      let opens = few_opened given stood new.domain.machine line machine_here in
      let was : old.domain.machine.opened ≡ stood.opened = ap (λ (m : Machine). m.opened) after.machine_is in
      let more = length-append lines (line ∷ []) in
      let made = length-append h next in
      record {
        given_is = answered.given_is ∙ after.given_is;
        is_history = history_next given lines h line words after.is_history are_here;
        machine_is = machine_here ∙ sym (machine_next given lines h line words are_here);
        kept_is = keeps_here;
        number_is = omega (arith, answered.number_is, after.number_is, steps_here.0, steps_here.1, made);
        counted = counted_on;
        few = omega (arith, few, more, made, steps_here.0, after.few);
        opened = omega (arith, opens, was, more, after.opened);
      }

  -- what the steps of the line cost
  abbrev price : ℕ
  price = cost_from given stood keeping (ran given stood line).0 words

  paid_here : RoseBy before now price
  paid_here = rw (after.given_is, after.machine_is, after.kept_is) at answered.makes.paid

  cost_here : cost_of given h + price ≡ cost_of given (h ++ next)
  cost_here = omega (arith, cost_is given h, cost_is given (h ++ next), cost_next given lines h line words are_here)

-- one more line was answered
pub line_answered : (old new : Replay) (line : ScriptLine) (n : ℕ) (entries : List Entry) (said : List ℕ) (before now : ℕ) (out out' : List ℕ) → IsAnswered old new line n entries said before now → out' ≡ out ++ said
    → (given : Given) (lines : List ScriptLine) (told : List ℕ) (cost : ℕ) → HasReplayed given old lines told cost
    → Answers (HasReplayed given new (lines ++ line ∷ [])) told cost out out' before now
line_answered old new line n entries said before now out out' answered collected given lines told cost has =
    let h = has.history in
    let made = next old new line n entries said before now answered given lines h has.is_after in
    record {
      piece = said;
      paid = price old new line n entries said before now answered given lines h has.is_after;
      is = record {
        history = h ++ made;
        is_after = stands old new line n entries said before now answered given lines h has.is_after;
        text_is = ap (λ xs. xs ++ said) has.text_is ∙ sym (text_here old new line n entries said before now answered given lines h has.is_after);
        cost_is = ap (λ c. c + price old new line n entries said before now answered given lines h has.is_after) has.cost_is ∙ cost_here old new line n entries said before now answered given lines h has.is_after;
      };
      collected = collected;
      is_paid = paid_here old new line n entries said before now answered given lines h has.is_after;
    }

-- few lines leave space for one more
pub has_space : (r : Replay) → HasRoom HasReplayed r → HasSpace r
has_space r room =
    let after = room.is.is_after in
    record {
      number = omega (arith, after.number_is, after.few, room.few);
      opened = omega (arith, after.opened, room.few);
      counted = λ a. omega (arith, after.counted a, count_by-le-length (λ l. eqb (actor_of l) a) room.lines, room.few);
    }

-- before the first line nothing was answered
pub has_begun : (given : Given) (r : Replay) → IsAfter given r [] [] → HasReplayed given r [] [] 0
has_begun given r after = record { history = []; is_after = after; text_is = refl; cost_is = sym (no_cost given) }
  where
    no_cost : (given : Given) → cost_of given [] ≡ 0
    no_cost given = cost_is given [] ∙ refl

-- a replay prints nothing behind its last line
pub has_finished : (given : Given) (r : Replay) (lines : List ScriptLine) (said : List ℕ) (cost : ℕ) (out : List ℕ) → HasReplayed given r lines said cost → Finishes (IsPaidTextOf given lines) said cost out out
has_finished given r lines said cost out has = record {
  piece = [];
  is = (has.history, has.is_after.is_history, append-nil said ∙ has.text_is, has.cost_is);
  collected = sym (append-nil out);
}

-- what is done by a replay is replayed
pub replayed : (gave : List ℕ) (before after : Moment) → IsDone IsPaidTextOf gave before after → IsReplayed gave before after
replayed gave before after is = record {
  given = is.given;
  first = is.first;
  lines = is.lines;
  history = is.is_told.0;
  at_end = is.at_end_of_input;
  few = is.few;
  is_read = is.is_read;
  configures = is.configures;
  is_history = is.is_told.1;
  is_written = subst (Appends before.output.held after.output.held) is.is_told.2 is.is_written;
  is_paid = omega (arith, is.is_told.3, is.is_paid.1);
}
