-- What a check tells of its lines, and what it has counted.
use Rattle.std.proofs.Common.{◌≡◌, ℕ, ◌+◌, ◌^◌, ◌<◌, ◌≤◌, List, [], ◌∷◌, ◌++◌, length, Ok, Err, refl, sym, ap, subst, ◌∙◌, inl, inr, ⊎_elim, arith, append_assoc, append-nil, length-append}
use Rattle.std.specs.Io.KnownBytes.{Appends}
use Rattle.ely_io.specs.Streams.{Input, Output}
use Rattle.ely_script.specs.Lines.{ScriptLine}
use Rattle.ely_domain.specs.Given.{Given}
use Rattle.ely_front.specs.declared.check.Check.{Check}
use Rattle.ely_front.specs.declared.ending.Ending.{Ending}
use Rattle.ely_front.specs.declared.ending.Ending.TheVariants as ending
use Rattle.ely_front.specs.Moments.{Moment, at}
use Rattle.ely_front.specs.Modes.{HasRoom, Answers, Finishes}
use Rattle.ely_front.specs.Check.{line_told, bad_lines, count_bad, total_text, check_text, TellsBad, TellsTotal, HasCounted, HasChecked, IsChecked}
use Rattle.ely_front.specs.Ending.{IsDone, EndsAs, status_of}
use Rattle.ely_front.specs.Call.{Runs, IsComplete}
use Rattle.ely_front.specs.LawProofs.{bad_lines-append}

-- how many of more lines can't be read
pub count_bad-append : (xs ys : List ScriptLine) → count_bad (xs ++ ys) ≡ count_bad xs + count_bad ys
count_bad-append [] ys = omega arith
count_bad-append (Ok command ∷ xs) ys = count_bad-append xs ys
count_bad-append (Err fault ∷ xs) ys = omega (arith, count_bad-append xs ys)

-- no more lines can't be read than there are
pub few_bad : (xs : List ScriptLine) → count_bad xs ≤ length xs
few_bad [] = omega arith
few_bad (Ok command ∷ xs) = omega (arith, few_bad xs)
few_bad (Err fault ∷ xs) = omega (arith, few_bad xs)

-- the counts have room for one more line
pub few_checked : (check : Check) → HasRoom HasChecked check → (check.lines ≤ 2 ^ 40) × (check.bad ≤ 2 ^ 40)
few_checked check room =
    let counted = room.is.counted in
    (omega (arith, room.few, counted.lines_are), omega (arith, room.few, counted.bad_are, few_bad room.lines))

-- one more line was counted, and what is told of it was collected
pub line_checked : (old new : Check) (line : ScriptLine) (out out' : List ℕ) (steps : ℕ) → new.lines ≡ old.lines + 1 → new.bad ≡ old.bad + count_bad (line ∷ []) → out' ≡ out ++ line_told (old.lines + 1) line
    → (given : Given) (lines : List ScriptLine) (said : List ℕ) (cost : ℕ) → HasChecked given old lines said cost
    → Answers (HasChecked given new (lines ++ line ∷ [])) said cost out out' steps steps
line_checked old new line out out' steps lines_on bad_on collected given lines said cost has =
    let counted = has.counted in
    let number : old.lines + 1 ≡ 1 + length lines = omega (arith, counted.lines_are) in
    let piece : List ℕ = line_told (old.lines + 1) line in
    record {
      piece = piece;
      paid = 0;
      is = record {
        counted = record {
          lines_are = omega (arith, lines_on, counted.lines_are, length-append lines (line ∷ []));
          bad_are = omega (arith, bad_on, counted.bad_are, count_bad-append lines (line ∷ []));
        };
        text_is = ap (λ xs. xs ++ piece) has.text_is
            ∙ (ap (λ k. bad_lines 1 lines ++ line_told k line) number
            ∙ (ap (λ xs. bad_lines 1 lines ++ xs) (sym (append-nil (line_told (1 + length lines) line)))
            ∙ sym (bad_lines-append 1 lines (line ∷ []))));
        free = omega (arith, has.free);
      };
      collected = collected;
      is_paid = (omega arith, omega arith);
    }

-- the total was collected
pub has_totalled : (given : Given) (check : Check) (lines : List ScriptLine) (said : List ℕ) (cost : ℕ) (out out' : List ℕ) → out' ≡ out ++ total_text check.lines check.bad
    → HasChecked given check lines said cost → Finishes (TellsTotal given lines) said cost out out'
has_totalled given check lines said cost out out' collected has =
    let counted = has.counted in
    record {
      piece = total_text check.lines check.bad;
      is = (
        ap (λ xs. xs ++ total_text check.lines check.bad) has.text_is
            ∙ (ap (λ k. bad_lines 1 lines ++ total_text k check.bad) counted.lines_are
            ∙ ap (λ k. bad_lines 1 lines ++ total_text (length lines) k) counted.bad_are),
        has.free,
      );
      collected = collected;
    }

module _ (input input' : Input) (output output' : Output) (before after steps : ℕ) where
  -- a check counts nothing, so it is done whatever was counted before
  pub done_any : (gave : List ℕ) → IsDone TellsTotal gave (at input output before) (at input' output' after) → IsDone TellsTotal gave (at input output steps) (at input' output' steps)
  done_any gave is = record {
    given = is.given;
    first = is.first;
    lines = is.lines;
    said = is.said;
    cost = is.cost;
    at_end_of_input = is.at_end_of_input;
    few = is.few;
    is_read = is.is_read;
    configures = is.configures;
    is_told = is.is_told;
    is_written = is.is_written;
    is_paid = (omega arith, omega arith);
  }

  -- and so it ends alike
  ends_any : (e : Ending) → EndsAs TellsBad TellsTotal (at input output before) (at input' output' after) e → EndsAs TellsBad TellsTotal (at input output steps) (at input' output' steps) e
  ends_any ending.Done (gave, took, few, is) = (gave, took, few, done_any gave is)
  ends_any ending.NoMemory ends = ends
  ends_any ending.Words ends = ends
  ends_any ending.Config ends = ends
  ends_any ending.Read ends = ends
  ends_any ending.Write ends = ends
  ends_any ending.ConfigLimit ends = ends
  ends_any ending.BytesLimit ends = ends

  pub runs_any : (status : ℕ) → Runs TellsBad TellsTotal (at input output before) (at input' output' after) status → Runs TellsBad TellsTotal (at input output steps) (at input' output' steps) status
  runs_any status (e, is, ends) = (e, is, ends_any e ends)

  pub complete_any : (status : ℕ) → IsComplete TellsTotal (at input output before) (at input' output' after) status → IsComplete TellsTotal (at input output steps) (at input' output' steps) status
  complete_any status all bytes within source sink = ⊎_elim
      (λ (h : (status ≡ 0) × IsDone TellsTotal bytes (at input output before) (at input' output' after)). inl (h.0, done_any bytes h.1))
      (λ (h : status ≡ 1). inr h)
      (all bytes within source sink)

-- what is done by a check is checked
pub checked : (gave : List ℕ) (before after : Moment) → IsDone TellsTotal gave before after → IsChecked gave before after
checked gave before after is = record {
  given = is.given;
  first = is.first;
  lines = is.lines;
  at_end = is.at_end_of_input;
  few = is.few;
  is_read = is.is_read;
  configures = is.configures;
  is_written = subst (Appends before.output.held after.output.held) is.is_told.0 is.is_written;
  uncounted = omega (arith, is.is_told.1, is.is_paid.0, is.is_paid.1);
}
