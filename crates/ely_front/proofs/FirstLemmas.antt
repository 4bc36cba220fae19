-- The first line of a script, and what is behind it.
use Rattle.std.proofs.Common.{◌≡◌, ℕ, ◌⊎◌, ◌<◌, ◌≤◌, Bool, true, false, List, [], ◌∷◌, ◌++◌, length, Result, Ok, Err, refl, sym, ap, subst, ◌∙◌, inl, inr, ⊎_elim, arith, append_assoc}
use Rattle.std.proofs.KnownBytes.{Appends-nil}
use Rattle.std.proofs.Math.Seq.{take-nil}
use Rattle.std.specs.Io.KnownBytes.{Consumes, Appends}
use Rattle.ely_base.specs.declared.refused.Refused.{Refused}
use Rattle.ely_base.specs.declared.refused.Refused.TheVariants.{Fault, NoMemory as OutOfMemory}
use Rattle.ely_io.specs.declared.line.Line.{Line}
use Rattle.ely_io.specs.declared.line.Line.TheVariants.{End, Text, TooLong}
use Rattle.ely_io.specs.declared.line.LineFault.{LineFault}
use Rattle.ely_io.specs.declared.line.LineFault.TheVariants.{Read as ReadFault, Spent as SpentFault}
use Rattle.ely_io.specs.Streams.{Input, Output}
use Rattle.ely_io.specs.Causes.{AppendsPrefix}
use Rattle.ely_io.specs.Lines.{HasNoLf, lines_of, whole_lines}
use Rattle.ely_io.specs.Reading.{Reader, new_reader, most, IsGivenAt, GivesLine, Next, Counts}
use Rattle.ely_io.proofs.LineLaws.{lines_of-line, lines_of-last, whole_lines-line, whole_lines-none}
use Rattle.ely_config_text.specs.declared.fault.TextFault.{TextFault}
use Rattle.ely_config_text.specs.declared.fault.TextFault.TheVariants.{NotJson}
use Rattle.ely_domain.specs.Given.{Given}
use Rattle.ely_config_text.proofs.Empty.{empty_is_no_json}
use Rattle.ely_front.specs.declared.ending.Ending.{Ending}
use Rattle.ely_front.specs.declared.ending.Ending.TheVariants as ending
use Rattle.ely_front.specs.declared.first_line.FirstFault.{FirstFault}
use Rattle.ely_front.specs.declared.first_line.FirstFault.TheVariants.{Config, Long}
use Rattle.ely_front.specs.Moments.{at}
use Rattle.ely_front.specs.FirstLine.{conf, given_or, config_most, or_refused, first_of, first_text, first_ending, IsFirstLine, IsBegun}
use Rattle.ely_front.specs.Modes.{Telling, TellingAll, Standing, TellsInOrder, Finishes}
use Rattle.ely_front.specs.Printed.{IsPrinted}
use Rattle.ely_front.specs.Loop.{HasRead, IsUnderWay, EndsWith}
use Rattle.ely_front.specs.Ending.{Ends, EndsAs, Says, Closes, stop_ending, stop_text, bytes_limit_text}
use Rattle.ely_front.proofs.EndingLemmas.{closed, closed_done, closed_short}
use Rattle.ely_front.proofs.LoopLemmas.{given_at}

-- without an LF nothing is printed
printed_none : (telling : Telling) (bytes : List ℕ) → HasNoLf bytes → IsPrinted telling (whole_lines bytes) []
printed_none telling bytes none = subst (λ ls. IsPrinted telling ls []) (sym (whole_lines-none bytes none)) refl

-- nothing is to be written, whether the sink failed or not
nothing : (a b : Output) (e end : Ending) → Closes a b [] e end → Appends a.held b.held []
nothing a b e end closes = ⊎_elim
    (λ (h : (end ≡ e) × Appends a.held b.held []). h.1)
    (λ (h : (end ≡ ending.Write) × AppendsPrefix a.held b.held []). subst (Appends a.held b.held) (take-nil h.1.0) h.1.2)
    closes

-- the reader refused the first line
stopped_at : (telling : Telling) (closing : TellingAll) (before after : Input) (out out' : Output) (steps : ℕ) (r : Reader) (refused : Refused LineFault) (end : Ending) → Next config_most new_reader r before after (Err refused) → Counts r → Closes out out' (stop_text refused) (stop_ending refused) end → EndsAs telling closing (at before out steps) (at after out' steps) end
stopped_at telling closing before after out out' steps r OutOfMemory end n counts closes = (n.0, n.1, omega (arith, n.2, counts.0), short)
  where
    short : Ends telling closing n.0 (at before out steps) (at after out' steps) end
    short = ⊎_elim
        (λ (h : (end ≡ ending.NoMemory) × Appends out.held out'.held []). subst (Ends telling closing n.0 (at before out steps) (at after out' steps)) (sym h.0) (inl (nothing out out' ending.NoMemory end closes)))
        (λ (h : (end ≡ ending.Write) × AppendsPrefix out.held out'.held []). subst (Ends telling closing n.0 (at before out steps) (at after out' steps)) (sym h.0) (inl (nothing out out' ending.NoMemory end closes)))
        closes
stopped_at telling closing before after out out' steps r (Fault ReadFault) end n counts closes = (
  n.0,
  n.1,
  omega (arith, n.2, counts.0),
  closed telling closing n.0 (at before out steps) (at after out' steps) ending.Read end [] (λ is. absurd (cc)) (omega (arith, n.2, n.3.4), printed_none telling n.0 n.3.0) closes,
)
stopped_at telling closing before after out out' steps r (Fault SpentFault) end n counts closes = (
  n.0,
  n.1,
  omega (arith, n.2, counts.0),
  closed telling closing n.0 (at before out steps) (at after out' steps) ending.BytesLimit end bytes_limit_text (λ is. absurd (cc)) (omega (arith, n.2, n.3.1), [], printed_none telling n.0 n.3.0, refl) closes,
)

pub stopped_first : (telling : Telling) (closing : TellingAll) (before after : Input) (out out' : Output) (steps : ℕ) (begun r : Reader) (refused : Refused LineFault) (end : Ending) → begun ≡ new_reader → Next config_most begun r before after (Err refused) → Counts r → Closes out out' (stop_text refused) (stop_ending refused) end → EndsAs telling closing (at before out steps) (at after out' steps) end
stopped_first telling closing before after out out' steps begun r refused end is n counts closes =
    stopped_at telling closing before after out out' steps r refused end (subst (λ (s : Reader). Next config_most s r before after (Err refused)) is n) counts closes

-- a line that was given is the first line
first_given : (b : Bool) (bytes line : List ℕ) (r : Reader) (input : Input) → r.taken ≡ length bytes → HasNoLf line → IsGivenAt b bytes line r input.left → IsFirstLine bytes input line
first_given true bytes line r input count none h = record { no_lf = none; given = inr (h.0, h.3, omega (arith, count, h.4)) }
first_given false bytes line r input count none h = record { no_lf = none; given = inl (r.held, h) }

-- what a reading of a configuration gives
is_config : (r : Result Given TextFault) (given : Given) → or_refused r ≡ Ok given → r ≡ Ok given
is_config (Ok g) given h = ap Ok cc
is_config (Err f) given h = absurd (cc)

is_fault : (r : Result Given TextFault) (fault : FirstFault) → or_refused r ≡ Err fault → (f : TextFault) × (r ≡ Err f) × (fault ≡ Config f)
is_fault (Ok g) fault h = absurd (cc)
is_fault (Err f) fault h = (f, refl, cc)

-- the first line is no configuration
no_config : (telling : Telling) (closing : TellingAll) (gave first : List ℕ) (after : Input) (fault : FirstFault) → IsFirstLine gave after first → length first ≤ config_most → or_refused (conf first) ≡ Err fault → Says telling closing gave after (first_ending fault) (first_text fault)
no_config telling closing gave first after fault is short h =
    let f = is_fault (conf first) fault h in
    subst (λ k. Says telling closing gave after (first_ending k) (first_text k)) (sym f.2) (first, f.0, is, short, f.1, refl)

refused_says : (telling : Telling) (closing : TellingAll) (gave : List ℕ) (before after : Input) (r : Reader) (line : Line) (fault : FirstFault) → r.taken ≡ length gave → GivesLine config_most new_reader r gave before after (Ok line) → first_of line ≡ Err fault → Says telling closing gave after (first_ending fault) (first_text fault)
refused_says telling closing gave before after r End fault count h is = no_config telling closing gave [] after fault (record { no_lf = tt; given = inr (h.0, h.2, omega (arith, count, h.3)) }) (omega arith) is
refused_says telling closing gave before after r (Text line) fault count h is = no_config telling closing gave line after fault (first_given r.ended gave line r after count h.0 h.2) h.1 is
refused_says telling closing gave before after r TooLong fault count h is =
    let long : fault ≡ Long = cc in
    subst (λ k. Says telling closing gave after (first_ending k) (first_text k)) (sym long) (h.0, first_given r.ended gave h.0 r after count h.1 h.3, h.2, refl)

-- the first line that is refused doesn't end a mode as done
not_done : (fault : FirstFault) → first_ending fault ≡ ending.Done → ⊥
not_done (Config fault) h = absurd (cc)
not_done Long h = absurd (cc)

-- the first line was read, and nothing was written for want of memory
pub unwritten_first : (telling : Telling) (closing : TellingAll) (before after : Input) (out : Output) (steps : ℕ) (begun r : Reader) (line : Line) → begun ≡ new_reader → Next config_most begun r before after (Ok line) → Counts r → EndsAs telling closing (at before out steps) (at after out steps) ending.NoMemory
unwritten_first telling closing before after out steps begun r line is n counts =
    let m : Next config_most new_reader r before after (Ok line) = subst (λ (s : Reader). Next config_most s r before after (Ok line)) is n in (
      m.0,
      m.1,
      omega (arith, m.2, counts.0),
      inl (Appends-nil _),
    )

pub refused_first : (telling : Telling) (closing : TellingAll) (before after : Input) (out out' : Output) (steps : ℕ) (begun r : Reader) (line : Line) (fault : FirstFault) (result : Ending) → begun ≡ new_reader → Next config_most begun r before after (Ok line) → Counts r → first_of line ≡ Err fault → Closes out out' (first_text fault) (first_ending fault) result
    → EndsAs telling closing (at before out steps) (at after out' steps) result
refused_first telling closing before after out out' steps begun r line fault result is n counts refused closes =
    let m : Next config_most new_reader r before after (Ok line) = subst (λ (s : Reader). Next config_most s r before after (Ok line)) is n in (
      m.0,
      m.1,
      omega (arith, m.2, counts.0),
      closed telling closing m.0 (at before out steps) (at after out' steps) (first_ending fault) result (first_text fault) (not_done fault) (refused_says telling closing m.0 before after r line fault (omega (arith, m.2)) m.3 refused) closes,
    )

-- the empty line is no configuration
empty_fault : conf [] ≡ Err NotJson
unfolding conf
empty_fault = ap given_or empty_is_no_json

-- the first line is the configuration
begun_by : (gave : List ℕ) (before after : Input) (r : Reader) (line : Line) (given : Given) → Consumes before.left after.left gave → r.taken ≡ length gave → Counts r → GivesLine config_most new_reader r gave before after (Ok line) → first_of line ≡ Ok given → IsBegun before after r given
begun_by gave before after r End given took count counts h is =
    let read : conf [] ≡ Ok given = is_config (conf []) given is in
    absurd (cc (empty_fault))
begun_by gave before after r (Text line) given took count counts h is = record {
  gave = gave;
  first = line;
  took = took;
  count = count;
  no_lf = h.0;
  is_given = h.2;
  configures = (h.1, is_config (conf line) given is);
  mark = h.3;
  counts = counts;
}
begun_by gave before after r TooLong given took count counts h is = absurd (cc)

pub begins : (before after : Input) (begun r : Reader) (line : Line) (given : Given) → begun ≡ new_reader → Next config_most begun r before after (Ok line) → Counts r → first_of line ≡ Ok given → IsBegun before after r given
begins before after begun r line given is n counts read =
    let m : Next config_most new_reader r before after (Ok line) = subst (λ (s : Reader). Next config_most s r before after (Ok line)) is n in
    begun_by m.0 before after r line given m.1 (omega (arith, m.2)) counts m.3 read

module _ (before after : Input) (out output : Output) (steps : ℕ) (reader : Reader) (given : Given) (b : IsBegun before after reader given) (same : output ≡ out) where
  unwritten : Appends out.held output.held []
  unwritten = subst (λ (o : Output). Appends out.held o.held []) (sym same) (Appends-nil out.held)

  few : length b.gave ≤ most
  few = omega (arith, b.count, b.counts.0)

  -- there is nothing behind the configuration, and what is printed then was written, or memory ran out
  pub nothing_behind : (telling : Telling) (closing : TellingAll) → TellsInOrder telling closing → (last : Output) (end : Ending) → reader.ended ≡ true → telling given [] []
      → EndsWith (closing given []) [] 0 [] output last end → EndsAs telling closing (at before out steps) (at after last steps) end
  nothing_behind telling closing law last end ended told closes = (b.gave, b.took, few, ⊎_elim whole part closes)
    where
      g : IsGivenAt true b.gave b.first reader after.left
      g = given_at true b.gave b.first reader after.left ended b.is_given

      below : length b.gave < most
      below = omega (arith, b.count, g.4)

      is_read : lines_of b.gave ≡ b.first ∷ []
      is_read = ap lines_of g.0 ∙ lines_of-last b.first b.no_lf g.2

      whole : ((all : List ℕ) × Finishes (closing given []) [] 0 [] all × Closes output last all ending.Done end) → Ends telling closing b.gave (at before out steps) (at after last steps) end
      whole h =
          closed_done telling closing b.gave (at before out steps) (at after last steps) end given b.first [] h.0 0 g.3 below is_read b.configures
          (subst (λ xs. closing given [] xs 0) (sym h.1.collected) h.1.is) (omega arith, omega arith)
          (subst (λ (o : Output). Closes o last h.0 ending.Done end) same h.2)

      part : Closes output last [] ending.NoMemory end → Ends telling closing b.gave (at before out steps) (at after last steps) end
      part h =
          closed_short telling closing law b.gave (at before out steps) (at after last steps) end given b.first [] [] g.3 below is_read b.configures told
          (subst (λ (o : Output). Closes o last [] ending.NoMemory end) same h)

  -- memory ran out
  pub unmade : (telling : Telling) (closing : TellingAll) → EndsAs telling closing (at before out steps) (at after output steps) ending.NoMemory
  unmade telling closing = (b.gave, b.took, few, inl unwritten)

  -- the lines behind it are read on
  begun : reader.ended ≡ false → HasRead (at before out steps) (at after output steps) reader given [] [] []
  begun open_still =
      let g = given_at false b.gave b.first reader after.left open_still b.is_given in
      let bytes : (more : List ℕ) → b.gave ++ more ≡ b.first ++ 10 ∷ (reader.held ++ more) = λ more. ap (λ xs. xs ++ more) g ∙ append_assoc b.first (10 ∷ reader.held) more in
      record {
        gave = b.gave;
        first = b.first;
        took = b.took;
        count = b.count;
        all = λ more. ap lines_of (bytes more) ∙ lines_of-line b.first (reader.held ++ more) b.no_lf;
        whole = λ more. ap whole_lines (bytes more) ∙ whole_lines-line b.first (reader.held ++ more) b.no_lf;
        configures = b.configures;
        written = [];
        is_written = unwritten;
        text_is = refl;
        short = omega arith;
        mark = b.mark;
        counts = b.counts;
      }

  -- a mode of the lines behind it begins
  pub under_way : {M : Type 0} (stands : Standing M) (mode : M) → reader.ended ≡ false → stands given mode [] [] 0 → IsUnderWay stands (at before out steps) (at after output steps) reader mode []
  under_way stands mode open_still stood = record {
    given = given;
    lines = [];
    said = [];
    cost = 0;
    has_read = begun open_still;
    stood = stood;
    is_paid = (omega arith, omega arith);
  }
