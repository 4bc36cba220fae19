-- What the loop over the lines of a script keeps, and how it ends.
use Rattle.std.proofs.Common.{◌≡◌, ℕ, ◌+◌, ◌<◌, Bool, true, false, List, [], ◌∷◌, ◌++◌, length, Ok, sym, ap, subst, ◌∙◌, ◌⊎◌, ⊎_elim, arith, append_assoc, append-nil}
use Rattle.ely_io.specs.declared.line.Line.{Line as Read}
use Rattle.ely_io.specs.Streams.{Input, Output}
use Rattle.ely_io.specs.Causes.{AppendsPrefix}
use Rattle.ely_io.specs.Reading.{Reader, Next, Counts}
use Rattle.ely_script.specs.declared.limits.TheConstants.{MAX_LINE_BYTES}
use Rattle.ely_script.specs.Lines.{ScriptLine}
use Rattle.ely_domain.specs.Costs.{RoseBy}
use Rattle.ely_domain.specs.Given.{Given}
use Rattle.ely_front.specs.declared.ending.Ending.{Ending}
use Rattle.ely_front.specs.declared.ending.Ending.TheVariants as ending
use Rattle.ely_front.specs.Moments.{Moment, at}
use Rattle.ely_front.specs.Lines.{script_of, heard}
use Rattle.ely_front.specs.Modes.{Telling, TellingAll, Standing, TellsInOrder, HasRoom, Answers, Finishes}
use Rattle.ely_front.specs.Loop.{IsUnderWay, WritesOn, EndsWith}
use Rattle.ely_front.specs.Ending.{Ends, EndsAs, Closes}
use Rattle.ely_front.proofs.EndingLemmas.{closes_behind, closed_done, closed_short}
use Rattle.ely_front.proofs.LoopLemmas.{ReadsAll, script_on, took_on, few_on, goes_on_by, given_rises, text_now, reads_on, at_end, cut_inside, wrote_part, few_lines}

-- there is room for one more line
pub has_room : {M : Type 0} (stands : Standing M) (start now : Moment) (reader : Reader) (mode : M) (out : List ℕ) → IsUnderWay stands start now reader mode out → HasRoom stands mode
has_room stands start now reader mode out s = record {
  given = s.given;
  lines = script_of s.lines;
  said = s.said;
  cost = s.cost;
  is = s.stood;
  few = few_lines start now reader s.given s.lines s.said out s.has_read;
}

-- where there was no line nothing is answered
pub nothing_answered : {M : Type 0} (stands : Standing M) (mode : M) (out : List ℕ) (now : ℕ) (given : Given) (lines : List ScriptLine) (said : List ℕ) (cost : ℕ) → stands given mode lines said cost
    → Answers (stands given mode (lines ++ [])) said cost out out now now
nothing_answered stands mode out now given lines said cost has =
    let same : cost + 0 ≡ cost = omega arith in
    record {
      piece = [];
      paid = 0;
      is = subst (λ ls. stands given mode ls (said ++ []) (cost + 0)) (sym (append-nil lines))
          (subst (λ xs. stands given mode lines xs (cost + 0)) (sym (append-nil said)) (subst (stands given mode lines said) (sym same) has));
      collected = sym (append-nil out);
      is_paid = (omega arith, omega arith);
    }

-- a line was given and answered, and its text is collected
module _ {M : Type 0} (stands : Standing M) (telling : Telling) (closing : TellingAll) (law : TellsInOrder telling closing)
    (tells : (given : Given) (mode : M) (lines : List ScriptLine) (said : List ℕ) (cost : ℕ) → stands given mode lines said cost → telling given lines said)
    (start now : Moment) (reader new : Reader) (mode mode' : M) (out out' : List ℕ) (after : Input) (line : Read) (steps : ℕ) (s : IsUnderWay stands start now reader mode out)
    (n : Next MAX_LINE_BYTES reader new now.input after (Ok line)) (counts : Counts new)
    (a : Answers (stands s.given mode' (script_of s.lines ++ heard line)) s.said s.cost out out' now.steps steps) where
  paid_on : RoseBy start.steps steps (s.cost + a.paid)
  paid_on = (omega (arith, s.is_paid.0, a.is_paid.0), omega (arith, s.is_paid.1, a.is_paid.1))

  told : telling s.given (script_of s.lines) s.said
  told = tells s.given mode (script_of s.lines) s.said s.cost s.stood

  told_more : telling s.given (script_of s.lines ++ heard line) (s.said ++ a.piece)
  told_more = tells s.given mode' (script_of s.lines ++ heard line) (s.said ++ a.piece) (s.cost + a.paid) a.is

  -- a line has a byte, its LF
  pub rises : new.ended ≡ false → reader.given < new.given
  rises open_still = given_rises telling closing law start now reader new s.given s.lines s.said a.piece out out' after line steps s.has_read told n counts told_more a.collected open_still

  -- the loop goes on
  pub goes_on : (output : Output) (rest : List ℕ) (more : Bool) → new.ended ≡ false → WritesOn now.output output out' rest more → IsUnderWay stands start (at after output steps) new mode' rest
  goes_on output rest more open_still w =
      let g = goes_on_by reader new n.0 now.input after line open_still n.3 in
      let script : script_of s.lines ++ heard line ≡ script_of (s.lines ++ g.line ∷ []) = script_on s.lines (g.line ∷ []) line g.is in
      record {
        given = s.given;
        lines = s.lines ++ g.line ∷ [];
        said = s.said ++ a.piece;
        cost = s.cost + a.paid;
        has_read = reads_on telling closing law start now reader new s.given s.lines s.said a.piece out out' after line steps s.has_read told n counts told_more a.collected output rest more g open_still w;
        stood = subst (λ ls. stands s.given mode' ls (s.said ++ a.piece) (s.cost + a.paid)) script a.is;
        is_paid = paid_on;
      }

  -- at the end of the input
  pub is_done : (output : Output) (end : Ending) → new.ended ≡ true
      → EndsWith (closing s.given (script_of s.lines ++ heard line)) (s.said ++ a.piece) (s.cost + a.paid) out' now.output output end
      → EndsAs telling closing start (at after output steps) end
  is_done output end ended closes = (s.has_read.gave ++ n.0, l.took, l.few, ⊎_elim whole part closes)
    where
      l : ReadsAll start reader new s.given s.lines s.has_read.first after line (s.has_read.gave ++ n.0)
      l = at_end telling closing law start now reader new s.given s.lines s.said a.piece out out' after line steps s.has_read told n counts told_more a.collected ended

      text : s.said ++ a.piece ≡ s.has_read.written ++ out'
      text = text_now telling closing law start now reader new s.given s.lines s.said a.piece out out' after line steps s.has_read told n counts told_more a.collected

      behind : (xs : List ℕ) (e : Ending) → Closes now.output output xs e end → Closes start.output output (s.has_read.written ++ xs) e end
      behind xs e h = closes_behind start.output now.output output s.has_read.written xs e end s.has_read.is_written h

      whole : ((all : List ℕ) × Finishes (closing s.given (script_of s.lines ++ heard line)) (s.said ++ a.piece) (s.cost + a.paid) out' all × Closes now.output output all ending.Done end)
          → Ends telling closing (s.has_read.gave ++ n.0) start (at after output steps) end
      whole h =
          let f = h.1 in
          let same : s.has_read.written ++ h.0 ≡ (s.said ++ a.piece) ++ f.piece =
          ap (λ xs. s.has_read.written ++ xs) f.collected ∙ (sym (append_assoc s.has_read.written out' f.piece) ∙ ap (λ xs. xs ++ f.piece) (sym text)) in
          closed_done telling closing (s.has_read.gave ++ n.0) start (at after output steps) end s.given s.has_read.first (s.lines ++ l.last) ((s.said ++ a.piece) ++ f.piece) (s.cost + a.paid)
          l.at_end l.below l.is_read s.has_read.configures (subst (λ ls. closing s.given ls ((s.said ++ a.piece) ++ f.piece) (s.cost + a.paid)) l.script f.is) paid_on
          (subst (λ xs. Closes start.output output xs ending.Done end) same (behind h.0 ending.Done h.2))

      part : Closes now.output output out' ending.NoMemory end → Ends telling closing (s.has_read.gave ++ n.0) start (at after output steps) end
      part h =
          closed_short telling closing law (s.has_read.gave ++ n.0) start (at after output steps) end s.given s.has_read.first (s.lines ++ l.last) (s.said ++ a.piece)
          l.at_end l.below l.is_read s.has_read.configures (subst (λ ls. telling s.given ls (s.said ++ a.piece)) l.script told_more)
          (subst (λ xs. Closes start.output output xs ending.NoMemory end) (sym text) (behind out' ending.NoMemory h))

  -- the sink failed
  pub broke : (output : Output) → new.ended ≡ false → AppendsPrefix now.output.held output.held out' → EndsAs telling closing start (at after output steps) ending.Write
  broke output open_still wrote = (
    s.has_read.gave ++ n.0,
    took_on telling closing law start now reader new s.given s.lines s.said out after (Ok line) s.has_read told n counts,
    few_on telling closing law start now reader new s.given s.lines s.said out after (Ok line) s.has_read told n counts,
    cut_inside telling closing law start now reader new s.given s.lines s.said a.piece out out' after line steps s.has_read told n counts told_more a.collected output open_still
        (wrote_part telling closing law start now reader new s.given s.lines s.said a.piece out out' after line steps s.has_read told n counts told_more a.collected output wrote),
  )
