-- What the loop over the lines of a script keeps in each mode, and how it ends.
use Rattle.std.proofs.Common.{◌≡◌, ℕ, ◌^◌, ◌<◌, ◌≤◌, Bool, true, false, List, [], ◌∷◌, ◌++◌, length, Option, None, Result, Ok, Err, refl, sym, ap, subst, ◌∙◌, ⊎_elim, true≢false, arith, append_assoc, append-nil, length-append, ltb}
use Rattle.std.proofs.lemmas.List.{map-append, length-map}
use Rattle.std.proofs.lemmas.Bool.{cond-true}
use Rattle.std.proofs.lemmas.Bool.Decides.{nat_tests}
use Rattle.std.proofs.KnownBytes.{Consumes-trans, Appends-trans}
use Rattle.std.specs.Io.KnownBytes.{Consumes, IsAtEnd, Appends}
use Rattle.ely_base.specs.declared.refused.Refused.{Refused}
use Rattle.ely_base.specs.declared.refused.Refused.TheVariants.{Fault, NoMemory as OutOfMemory}
use Rattle.ely_base.specs.Parts.{parts_at}
use Rattle.ely_io.specs.declared.line.Line.{Line as Read}
use Rattle.ely_io.specs.declared.line.Line.TheVariants.{End, Text, TooLong}
use Rattle.ely_io.specs.declared.line.LineFault.{LineFault}
use Rattle.ely_io.specs.declared.line.LineFault.TheVariants.{Read as ReadFault, Spent as SpentFault}
use Rattle.ely_io.specs.Streams.{Input, Output}
use Rattle.ely_io.specs.Causes.{Rose, AppendsPrefix}
use Rattle.ely_io.specs.Lines.{HasNoLf, lines_of, whole_lines}
use Rattle.ely_io.specs.Reading.{Reader, most, IsGiven, IsGivenAt, GivesLine, Next, Counts}
use Rattle.ely_io.proofs.LineLaws.{lines_of-line, lines_of-last, whole_lines-line, whole_lines-none}
use Rattle.ely_io.proofs.Prefixes.{prefix_after}
use Rattle.ely_script.specs.declared.limits.TheConstants.{MAX_LINE_BYTES}
use Rattle.ely_script.specs.Lines.{ScriptLine, read_of, of_words, too_long}
use Rattle.ely_domain.specs.Given.{Given}
use Rattle.ely_front.specs.declared.ending.Ending.{Ending}
use Rattle.ely_front.specs.declared.ending.Ending.TheVariants as ending
use Rattle.ely_front.specs.Moments.{Moment, at}
use Rattle.ely_front.specs.Lines.{script_of, heard}
use Rattle.ely_front.specs.Modes.{Telling, TellingAll, TellsInOrder}
use Rattle.ely_front.specs.Printed.{IsPrinted}
use Rattle.ely_front.specs.Loop.{HasRead, WritesOn}
use Rattle.ely_front.specs.Ending.{EndsAs, Closes, IsCutShort, stop_ending, stop_text, bytes_limit_text}
use Rattle.ely_front.proofs.EndingLemmas.{printed_on, cut, closes_behind, closed, ran_out}

pub given_at : (b : Bool) (bytes line : List ℕ) (new : Reader) (left : Option (List ℕ)) → new.ended ≡ b → IsGiven bytes line new left → IsGivenAt b bytes line new left
given_at b bytes line new left e h = subst (λ b'. IsGivenAt b' bytes line new left) e h

-- a line that is too long is read as such
long : (line : List ℕ) → MAX_LINE_BYTES < length line → read_of line ≡ Err too_long
unfolding read_of
long line h =
    let test : ltb MAX_LINE_BYTES (length line) ≡ true = grind (arith, nat_tests) in
    cond-true (ltb MAX_LINE_BYTES (length line)) (Err too_long) (of_words (parts_at 32 line)) test

-- A line that was given with its LF, and what it is read as.
pub record GoesOn (old new : Reader) (bs : List ℕ) (read : List ScriptLine) : Type 0 where
  pub line : List ℕ
  pub no_lf : HasNoLf line
  pub is : read ≡ read_of line ∷ []
  pub bytes : old.held ++ bs ≡ line ++ 10 ∷ new.held

pub goes_on_by : (old new : Reader) (bs : List ℕ) (before after : Input) (line : Read) → new.ended ≡ false → GivesLine MAX_LINE_BYTES old new bs before after (Ok line) → GoesOn old new bs (heard line)
goes_on_by old new bs before after End open_still h = absurd (true≢false (sym h.5 ∙ open_still))
goes_on_by old new bs before after (Text line) open_still h = record { line = line; no_lf = h.0; is = refl; bytes = given_at false (old.held ++ bs) line new after.left open_still h.2 }
goes_on_by old new bs before after TooLong open_still h = record { line = h.0; no_lf = h.1; is = ap (λ r. r ∷ []) (sym (long h.0 h.2)); bytes = given_at false (old.held ++ bs) h.0 new after.left open_still h.3 }

-- What was left at the end of the input: a line without an LF, or none.
record IsLast (old new : Reader) (bs : List ℕ) (left : Option (List ℕ)) (read : List ScriptLine) : Type 0 where
  lines : List (List ℕ)
  is : read ≡ script_of lines
  all : lines_of (old.held ++ bs) ≡ lines
  at_end : IsAtEnd left
  few : new.taken < most
  empty : new.held ≡ []

last_by : (old new : Reader) (bs : List ℕ) (before after : Input) (line : Read) → new.ended ≡ true → GivesLine MAX_LINE_BYTES old new bs before after (Ok line) → IsLast old new bs after.left (heard line)
last_by old new bs before after End ended h = record { lines = []; is = refl; all = ap lines_of h.0; at_end = h.2; few = h.3; empty = h.1 }
last_by old new bs before after (Text line) ended h =
    let g = given_at true (old.held ++ bs) line new after.left ended h.2 in
    record { lines = line ∷ []; is = refl; all = ap lines_of g.0 ∙ lines_of-last line h.0 g.2; at_end = g.3; few = g.4; empty = g.1 }
last_by old new bs before after TooLong ended h =
    let g = given_at true (old.held ++ bs) h.0 new after.left ended h.3 in
    record { lines = h.0 ∷ []; is = ap (λ r. r ∷ []) (sym (long h.0 h.2)); all = ap lines_of g.0 ∙ lines_of-last h.0 h.1 g.2; at_end = g.3; few = g.4; empty = g.1 }

-- a line leaves no mark
unmarked_by : (old new : Reader) (bs : List ℕ) (before after : Input) (line : Read) → GivesLine MAX_LINE_BYTES old new bs before after (Ok line) → new.mark ≡ None
unmarked_by old new bs before after End h = h.4
unmarked_by old new bs before after (Text line) h = h.3
unmarked_by old new bs before after TooLong h = h.4

-- what was given was read as these lines
pub script_on : (lines more : List (List ℕ)) (line : Read) → heard line ≡ script_of more → script_of lines ++ heard line ≡ script_of (lines ++ more)
script_on lines more line is = ap (λ ls. script_of lines ++ ls) is ∙ sym (map-append read_of lines more)

-- All the bytes of the input were given, and these lines stand last.
pub record ReadsAll (start : Moment) (reader new : Reader) (given : Given) (lines : List (List ℕ)) (first : List ℕ) (after : Input) (line : Read) (gave : List ℕ) : Type 0 where
  pub last : List (List ℕ)
  pub took : Consumes start.input.left after.left gave
  pub few : length gave ≤ most
  pub below : length gave < most
  pub at_end : IsAtEnd after.left
  pub is_read : lines_of gave ≡ first ∷ (lines ++ last)
  pub script : script_of lines ++ heard line ≡ script_of (lines ++ last)
  pub empty : new.held ≡ []

-- what holds after a call of the reader, where the lines that were given were told
module _ (telling : Telling) (closing : TellingAll) (law : TellsInOrder telling closing) (start now : Moment) (reader new : Reader) (given : Given) (lines : List (List ℕ)) (said out : List ℕ) (after : Input) (result : Result Read (Refused LineFault)) (s : HasRead start now reader given lines said out) (told : telling given (script_of lines) said) (n : Next MAX_LINE_BYTES reader new now.input after result) (counts : Counts new) where
  pub took_on : Consumes start.input.left after.left (s.gave ++ n.0)
  took_on = Consumes-trans start.input.left now.input.left after.left s.gave n.0 s.took n.1

  count_on : new.taken ≡ length (s.gave ++ n.0)
  count_on = omega (arith, n.2, s.count, length-append s.gave n.0)

  pub few_on : length (s.gave ++ n.0) ≤ most
  few_on = omega (arith, count_on, counts.0)

  -- what is collected was written, and then a text
  closes_now : (output : Output) (text : List ℕ) (e end : Ending) → Closes now.output output (out ++ text) e end → Closes start.output output (said ++ text) e end
  closes_now output text e end closes =
      let same : s.written ++ (out ++ text) ≡ said ++ text = sym (append_assoc s.written out text) ∙ ap (λ xs. xs ++ text) (sym s.text_is) in
      subst (λ xs. Closes start.output output xs e end) same (closes_behind start.output now.output output s.written (out ++ text) e end s.is_written closes)

  -- memory ran out: what was told was written
  pub out_of_memory : (output : Output) (steps : ℕ) (end : Ending) → Closes now.output output (out ++ []) ending.NoMemory end → EndsAs telling closing start (at after output steps) end
  out_of_memory output steps end closes =
      let on = printed_on telling closing law given s.first lines (whole_lines (reader.held ++ n.0)) said s.configures told in
      let printed : IsPrinted telling (whole_lines (s.gave ++ n.0)) (said ++ on.0) = subst (λ ls. IsPrinted telling ls (said ++ on.0)) (sym (s.whole n.0)) on.1 in
      let closed = subst (λ xs. Closes start.output output xs ending.NoMemory end) (append-nil said) (closes_now output [] ending.NoMemory end closes) in
      (s.gave ++ n.0, took_on, few_on, ran_out telling closing (s.gave ++ n.0) start (at after output steps) end said on.0 few_on printed closed)

  -- where no LF was given, the lines that were given whole are those that were answered
  printed_whole : HasNoLf (reader.held ++ n.0) → IsPrinted telling (whole_lines (s.gave ++ n.0)) said
  printed_whole none =
      let is : whole_lines (s.gave ++ n.0) ≡ s.first ∷ lines = s.whole n.0 ∙ ap (λ ls. s.first ∷ ls) (ap (λ ls. lines ++ ls) (whole_lines-none (reader.held ++ n.0) none) ∙ append-nil lines) in
      subst (λ ls. IsPrinted telling ls said) (sym is) (given, s.configures, told)

-- the reader refused
pub stopped : (telling : Telling) (closing : TellingAll) (law : TellsInOrder telling closing) (start now : Moment) (reader new : Reader) (given : Given) (lines : List (List ℕ)) (said out : List ℕ) (after : Input) (output : Output) (refused : Refused LineFault) (end : Ending) (s : HasRead start now reader given lines said out) → telling given (script_of lines) said
    → Next MAX_LINE_BYTES reader new now.input after (Err refused) → Counts new → Closes now.output output (out ++ stop_text refused) (stop_ending refused) end → EndsAs telling closing start (at after output now.steps) end
stopped telling closing law start now reader new given lines said out after output OutOfMemory end s told n counts closes = out_of_memory telling closing law start now reader new given lines said out after (Err OutOfMemory) s told n counts output now.steps end closes
stopped telling closing law start now reader new given lines said out after output (Fault ReadFault) end s told n counts closes =
    let r : Result Read (Refused LineFault) = Err (Fault ReadFault) in
    let below : length (s.gave ++ n.0) < most = omega (arith, count_on telling closing law start now reader new given lines said out after r s told n counts, n.3.4) in
    let printed = subst (IsPrinted telling (whole_lines (s.gave ++ n.0))) (sym (append-nil said)) (printed_whole telling closing law start now reader new given lines said out after r s told n counts n.3.0) in (
      s.gave ++ n.0,
      took_on telling closing law start now reader new given lines said out after r s told n counts,
      few_on telling closing law start now reader new given lines said out after r s told n counts,
      closed telling closing (s.gave ++ n.0) start (at after output now.steps) ending.Read end (said ++ []) (λ is. absurd (cc)) (below, printed) (closes_now telling closing law start now reader new given lines said out after r s told n counts output [] ending.Read end closes),
    )
stopped telling closing law start now reader new given lines said out after output (Fault SpentFault) end s told n counts closes =
    let r : Result Read (Refused LineFault) = Err (Fault SpentFault) in
    let all : length (s.gave ++ n.0) ≡ most = omega (arith, count_on telling closing law start now reader new given lines said out after r s told n counts, n.3.1) in (
      s.gave ++ n.0,
      took_on telling closing law start now reader new given lines said out after r s told n counts,
      few_on telling closing law start now reader new given lines said out after r s told n counts,
      closed telling closing (s.gave ++ n.0) start (at after output now.steps) ending.BytesLimit end (said ++ bytes_limit_text) (λ is. absurd (cc))
          (all, said, printed_whole telling closing law start now reader new given lines said out after r s told n counts n.3.0, refl) (closes_now telling closing law start now reader new given lines said out after r s told n counts output bytes_limit_text ending.BytesLimit end closes),
    )

-- a line was given and answered, and its text is collected
module _ (telling : Telling) (closing : TellingAll) (law : TellsInOrder telling closing) (start now : Moment) (reader new : Reader) (given : Given) (lines : List (List ℕ)) (said piece out out' : List ℕ) (after : Input) (line : Read) (steps : ℕ) (s : HasRead start now reader given lines said out) (told : telling given (script_of lines) said) (n : Next MAX_LINE_BYTES reader new now.input after (Ok line)) (counts : Counts new)
    (told' : telling given (script_of lines ++ heard line) (said ++ piece)) (collected : out' ≡ out ++ piece) where
  pub text_now : said ++ piece ≡ s.written ++ out'
  text_now = ap (λ xs. xs ++ piece) s.text_is ∙ (append_assoc s.written out piece ∙ ap (λ xs. s.written ++ xs) (sym collected))

  -- a prefix of what is collected was written
  pub written_on : (output : Output) (rest : List ℕ) (more : Bool) (w : WritesOn now.output output out' rest more) → Appends start.output.held output.held (s.written ++ w.written)
  written_on output rest more w = Appends-trans start.output.held now.output.held output.held s.written w.written s.is_written w.appended

  pub text_on : (output : Output) (rest : List ℕ) (more : Bool) (w : WritesOn now.output output out' rest more) → said ++ piece ≡ (s.written ++ w.written) ++ rest
  text_on output rest more w = text_now ∙ (ap (λ xs. s.written ++ xs) w.kept ∙ sym (append_assoc s.written w.written rest))

  one_more : (l : List ℕ) (rest : List (List ℕ)) → s.first ∷ (lines ++ (l ∷ rest)) ≡ s.first ∷ ((lines ++ l ∷ []) ++ rest)
  one_more l rest = ap (λ ls. s.first ∷ ls) (sym (append_assoc lines (l ∷ []) rest))

  -- the bytes behind a line that was given with its LF
  behind : (g : GoesOn reader new n.0 (heard line)) (more : List ℕ) → reader.held ++ (n.0 ++ more) ≡ g.line ++ 10 ∷ (new.held ++ more)
  behind g more = sym (append_assoc reader.held n.0 more) ∙ (ap (λ xs. xs ++ more) g.bytes ∙ append_assoc g.line (10 ∷ new.held) more)

  all_on : (g : GoesOn reader new n.0 (heard line)) (more : List ℕ) → lines_of ((s.gave ++ n.0) ++ more) ≡ s.first ∷ ((lines ++ g.line ∷ []) ++ lines_of (new.held ++ more))
  all_on g more =
      ap lines_of (append_assoc s.gave n.0 more)
      ∙ (s.all (n.0 ++ more)
      ∙ (ap (λ ls. s.first ∷ (lines ++ ls)) (ap lines_of (behind g more) ∙ lines_of-line g.line (new.held ++ more) g.no_lf)
      ∙ one_more g.line (lines_of (new.held ++ more))))

  whole_on : (g : GoesOn reader new n.0 (heard line)) (more : List ℕ) → whole_lines ((s.gave ++ n.0) ++ more) ≡ s.first ∷ ((lines ++ g.line ∷ []) ++ whole_lines (new.held ++ more))
  whole_on g more =
      ap whole_lines (append_assoc s.gave n.0 more)
      ∙ (s.whole (n.0 ++ more)
      ∙ (ap (λ ls. s.first ∷ (lines ++ ls)) (ap whole_lines (behind g more) ∙ whole_lines-line g.line (new.held ++ more) g.no_lf)
      ∙ one_more g.line (whole_lines (new.held ++ more))))

  -- a line has a byte, its LF
  pub given_rises : new.ended ≡ false → reader.given < new.given
  given_rises open_still =
      let g = goes_on_by reader new n.0 now.input after line open_still n.3 in
      let mark = unmarked_by reader new n.0 now.input after line n.3 in
      omega (arith, ap length g.bytes, length-append reader.held n.0, length-append g.line (10 ∷ new.held), s.counts.1 s.mark, counts.1 mark, n.2)

  -- the reading goes on
  pub reads_on : (output : Output) (rest : List ℕ) (more : Bool) (g : GoesOn reader new n.0 (heard line)) → new.ended ≡ false → WritesOn now.output output out' rest more
      → HasRead start (at after output steps) new given (lines ++ g.line ∷ []) (said ++ piece) rest
  reads_on output rest more g open_still w = record {
    gave = s.gave ++ n.0;
    first = s.first;
    took = took_on telling closing law start now reader new given lines said out after (Ok line) s told n counts;
    count = count_on telling closing law start now reader new given lines said out after (Ok line) s told n counts;
    all = all_on g;
    whole = whole_on g;
    configures = s.configures;
    written = s.written ++ w.written;
    is_written = written_on output rest more w;
    text_is = text_on output rest more w;
    short = omega (arith, s.short, given_rises open_still, length-append lines (g.line ∷ []));
    mark = unmarked_by reader new n.0 now.input after line n.3;
    counts = counts;
  }

  -- what the source gave at the end of the input
  pub at_end : new.ended ≡ true → ReadsAll start reader new given lines s.first after line (s.gave ++ n.0)
  at_end ended =
      let l = last_by reader new n.0 now.input after line ended n.3 in
      record {
        last = l.lines;
        took = took_on telling closing law start now reader new given lines said out after (Ok line) s told n counts;
        few = few_on telling closing law start now reader new given lines said out after (Ok line) s told n counts;
        below = omega (arith, count_on telling closing law start now reader new given lines said out after (Ok line) s told n counts, l.few);
        at_end = l.at_end;
        is_read = s.all n.0 ∙ ap (λ ls. s.first ∷ (lines ++ ls)) l.all;
        script = script_on lines l.lines line l.is;
        empty = l.empty;
      }

  -- what is told of the lines whose LF was given is written in part
  pub cut_inside : (output : Output) → new.ended ≡ false → AppendsPrefix start.output.held output.held (said ++ piece) → IsCutShort telling closing (s.gave ++ n.0) start (at after output steps)
  cut_inside output open_still wrote =
      let g = goes_on_by reader new n.0 now.input after line open_still n.3 in
      let told_all = subst (λ ls. telling given ls (said ++ piece)) (script_on lines (g.line ∷ []) line g.is) told' in
      let on = printed_on telling closing law given s.first (lines ++ g.line ∷ []) (whole_lines (new.held ++ [])) (said ++ piece) s.configures told_all in
      let is = ap whole_lines (sym (append-nil (s.gave ++ n.0))) ∙ whole_on g [] in
      cut telling closing (s.gave ++ n.0) start (at after output steps) (said ++ piece) on.0 (few_on telling closing law start now reader new given lines said out after (Ok line) s told n counts) (subst (λ ls. IsPrinted telling ls ((said ++ piece) ++ on.0)) (sym is) on.1) wrote

  -- what the sink has of what is collected, where it failed
  pub wrote_part : (output : Output) → AppendsPrefix now.output.held output.held out' → AppendsPrefix start.output.held output.held (said ++ piece)
  wrote_part output wrote = subst (AppendsPrefix start.output.held output.held) (sym text_now) (prefix_after start.output.held now.output.held output.held s.written out' s.is_written wrote)

-- no more lines were given than bytes
pub few_lines : (start now : Moment) (reader : Reader) (given : Given) (lines : List (List ℕ)) (said out : List ℕ) → HasRead start now reader given lines said out → length (script_of lines) ≤ 2 ^ 40
few_lines start now reader given lines said out s =
    let below : reader.given ≤ reader.taken = omega (arith, s.counts.1 s.mark) in
    omega (arith, s.short, below, s.counts.0, length-map lines read_of)

-- the count of the source's faults rose where it is said that it failed
pub read_rose : (old new : Reader) (before after : Input) (a b : Output) (said : List ℕ) (refused : Refused LineFault) (end : Ending) → Next MAX_LINE_BYTES old new before after (Err refused) → Closes a b said (stop_ending refused) end → end ≡ ending.Read → Rose before.faults after.faults
read_rose old new before after a b said (Fault ReadFault) end n closes is = n.3.1
read_rose old new before after a b said OutOfMemory end n closes is =
    ⊎_elim (λ (h : (end ≡ ending.NoMemory) × Appends a.held b.held said). absurd (cc)) (λ (h : (end ≡ ending.Write) × AppendsPrefix a.held b.held said). absurd (cc)) closes
read_rose old new before after a b said (Fault SpentFault) end n closes is =
    ⊎_elim (λ (h : (end ≡ ending.BytesLimit) × Appends a.held b.held said). absurd (cc)) (λ (h : (end ≡ ending.Write) × AppendsPrefix a.held b.held said). absurd (cc)) closes
