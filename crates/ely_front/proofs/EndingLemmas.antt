-- What was written where a mode ends or is cut short.
use Rattle.std.proofs.Common.{◌≡◌, ℕ, ◌<◌, ◌≤◌, List, [], ◌∷◌, ◌++◌, length, refl, sym, subst, inl, inr, ◌⊎◌, ⊎_elim, arith}
use Rattle.std.proofs.lemmas.List.{map-append}
use Rattle.std.proofs.lemmas.Bool.{cases_lt}
use Rattle.std.proofs.KnownBytes.{Appends-trans}
use Rattle.std.specs.Io.KnownBytes.{Appends, IsAtEnd}
use Rattle.ely_io.specs.Causes.{AppendsPrefix}
use Rattle.ely_io.specs.Streams.{Output}
use Rattle.ely_io.specs.Lines.{lines_of, whole_lines}
use Rattle.ely_io.specs.Reading.{most}
use Rattle.ely_io.proofs.Prefixes.{prefix_after, prefix_of_more, prefix_whole}
use Rattle.ely_script.specs.Lines.{read_of}
use Rattle.ely_domain.specs.Costs.{RoseBy}
use Rattle.ely_domain.specs.Given.{Given}
use Rattle.ely_front.specs.declared.ending.Ending.{Ending}
use Rattle.ely_front.specs.declared.ending.Ending.TheVariants as ending
use Rattle.ely_front.specs.Moments.{Moment}
use Rattle.ely_front.specs.FirstLine.{Configures}
use Rattle.ely_front.specs.Lines.{script_of}
use Rattle.ely_front.specs.Modes.{Telling, TellingAll, TellsInOrder}
use Rattle.ely_front.specs.Printed.{IsPrinted, IsPrintedWhole}
use Rattle.ely_front.specs.Ending.{Ends, IsDone, Says, Closes, IsCutShort, bytes_limit_text}

-- what is printed of lines whose LF was given begins what is printed of more of them
pub printed_on : (told : Telling) (at_end : TellingAll) → TellsInOrder told at_end → (given : Given) (first : List ℕ) (ls rest : List (List ℕ)) (said : List ℕ) → Configures first given → told given (script_of ls) said → (more : List ℕ) × IsPrinted told (first ∷ (ls ++ rest)) (said ++ more)
printed_on told at_end law given first ls rest said configures is =
    let on = law.on given (script_of ls) (script_of rest) said is in
    (on.0, (given, configures, subst (λ xs. told given xs (said ++ on.0)) (sym (map-append read_of ls rest)) on.1))

-- a prefix of what is printed of the lines whose LF was given
pub cut : (told : Telling) (at_end : TellingAll) (gave : List ℕ) (before after : Moment) (prefix more : List ℕ) → length gave ≤ most → IsPrinted told (whole_lines gave) (prefix ++ more) → AppendsPrefix before.output.held after.output.held prefix → IsCutShort told at_end gave before after
cut told at_end gave before after prefix more few printed wrote =
    let longer = prefix_of_more before.output.held after.output.held prefix more wrote in
    ⊎_elim
    (λ (below : length gave < most). inr (ending.Read, prefix ++ more, (below, printed), longer))
    (λ (above : most ≤ length gave).
    let all : length gave ≡ most = omega (arith, above, few) in
    inr (ending.BytesLimit, (prefix ++ more) ++ bytes_limit_text, (all, prefix ++ more, printed, refl), prefix_of_more before.output.held after.output.held (prefix ++ more) bytes_limit_text longer))
    (cases_lt (length gave) most)

-- bytes were written, and then a text that belongs to an ending
pub closes_behind : (a b c : Output) (xs ys : List ℕ) (e result : Ending) → Appends a.held b.held xs → Closes b c ys e result → Closes a c (xs ++ ys) e result
closes_behind a b c xs ys e result wrote closes = ⊎_elim
    (λ (h : (result ≡ e) × Appends b.held c.held ys). inl (h.0, Appends-trans a.held b.held c.held xs ys wrote h.1))
    (λ (h : (result ≡ ending.Write) × AppendsPrefix b.held c.held ys). inr (h.0, prefix_after a.held b.held c.held xs ys wrote h.1))
    closes

-- a text that belongs to an ending was written, or the sink failed
pub closed : (told : Telling) (at_end : TellingAll) (gave : List ℕ) (before after : Moment) (e result : Ending) (said : List ℕ) → (e ≡ ending.Done → ⊥) → Says told at_end gave after.input e said → Closes before.output after.output said e result → Ends told at_end gave before after result
closed told at_end gave before after e result said other says closes = ⊎_elim
    (λ (h : (result ≡ e) × Appends before.output.held after.output.held said). subst (Ends told at_end gave before after) (sym h.0) (whole e other says h.1))
    (λ (h : (result ≡ ending.Write) × AppendsPrefix before.output.held after.output.held said). subst (Ends told at_end gave before after) (sym h.0) (inr (e, said, says, h.1)))
    closes
  where
    whole : (e : Ending) → (e ≡ ending.Done → ⊥) → Says told at_end gave after.input e said → Appends before.output.held after.output.held said → Ends told at_end gave before after e
    whole ending.Done other s w = absurd (other refl)
    whole ending.NoMemory other s w = absurd s
    whole ending.Words other s w = absurd s
    whole ending.Config other s w = (said, s, w)
    whole ending.Read other s w = (said, s, w)
    whole ending.Write other s w = absurd s
    whole ending.ConfigLimit other s w = (said, s, w)
    whole ending.BytesLimit other s w = (said, s, w)

-- memory ran out, and a prefix of what is printed was written, or the sink failed
pub ran_out : (told : Telling) (at_end : TellingAll) (gave : List ℕ) (before after : Moment) (result : Ending) (prefix more : List ℕ) → length gave ≤ most → IsPrinted told (whole_lines gave) (prefix ++ more) → Closes before.output after.output prefix ending.NoMemory result → Ends told at_end gave before after result
ran_out told at_end gave before after result prefix more few printed closes = ⊎_elim
    (λ (h : (result ≡ ending.NoMemory) × Appends before.output.held after.output.held prefix). subst (Ends told at_end gave before after) (sym h.0) (cut told at_end gave before after prefix more few printed (prefix_whole before.output.held after.output.held prefix h.1)))
    (λ (h : (result ≡ ending.Write) × AppendsPrefix before.output.held after.output.held prefix). subst (Ends told at_end gave before after) (sym h.0) (cut told at_end gave before after prefix more few printed h.1))
    closes

-- The whole input was read, and its text with what stands behind the last line was written, or the sink failed.
pub closed_done : (told : Telling) (at_end : TellingAll) (gave : List ℕ) (before after : Moment) (result : Ending) (given : Given) (first : List ℕ) (lines : List (List ℕ)) (said : List ℕ) (cost : ℕ)
    → IsAtEnd after.input.left → length gave < most → lines_of gave ≡ first ∷ lines → Configures first given → at_end given (script_of lines) said cost → RoseBy before.steps after.steps cost
    → Closes before.output after.output said ending.Done result → Ends told at_end gave before after result
closed_done told at_end gave before after result given first lines said cost at_input_end few is_read configures is paid closes = ⊎_elim
    (λ (h : (result ≡ ending.Done) × Appends before.output.held after.output.held said). subst (Ends told at_end gave before after) (sym h.0) (done h.1))
    (λ (h : (result ≡ ending.Write) × AppendsPrefix before.output.held after.output.held said). subst (Ends told at_end gave before after) (sym h.0) (inr (ending.Done, said, (at_input_end, few, printed), h.1)))
    closes
  where
    printed : IsPrintedWhole at_end (lines_of gave) said
    printed = subst (λ ls. IsPrintedWhole at_end ls said) (sym is_read) (given, configures, cost, is)

    done : Appends before.output.held after.output.held said → IsDone at_end gave before after
    done wrote = record {
      given = given;
      first = first;
      lines = lines;
      said = said;
      cost = cost;
      at_end_of_input = at_input_end;
      few = few;
      is_read = is_read;
      configures = configures;
      is_told = is;
      is_written = wrote;
      is_paid = paid;
    }

-- The whole input was read, and a prefix of what was answered was written.
pub short_at_end : (told : Telling) (at_end : TellingAll) → TellsInOrder told at_end → (gave : List ℕ) (before after : Moment) (given : Given) (first : List ℕ) (lines : List (List ℕ)) (said : List ℕ)
    → IsAtEnd after.input.left → length gave < most → lines_of gave ≡ first ∷ lines → Configures first given → told given (script_of lines) said
    → AppendsPrefix before.output.held after.output.held said → IsCutShort told at_end gave before after
short_at_end told at_end law gave before after given first lines said at_input_end few is_read configures is wrote =
    let all = law.ends given (script_of lines) said is in
    let printed : IsPrintedWhole at_end (lines_of gave) (said ++ all.0) = subst (λ ls. IsPrintedWhole at_end ls (said ++ all.0)) (sym is_read) (given, configures, all.1, all.2) in
    inr (ending.Done, said ++ all.0, (at_input_end, few, printed), prefix_of_more before.output.held after.output.held said all.0 wrote)

-- the same, where memory ran out or the sink failed
pub closed_short : (told : Telling) (at_end : TellingAll) → TellsInOrder told at_end → (gave : List ℕ) (before after : Moment) (result : Ending) (given : Given) (first : List ℕ) (lines : List (List ℕ)) (said : List ℕ)
    → IsAtEnd after.input.left → length gave < most → lines_of gave ≡ first ∷ lines → Configures first given → told given (script_of lines) said
    → Closes before.output after.output said ending.NoMemory result → Ends told at_end gave before after result
closed_short told at_end law gave before after result given first lines said at_input_end few is_read configures is closes =
    let short = short_at_end told at_end law gave before after given first lines said at_input_end few is_read configures is in
    ⊎_elim
    (λ (h : (result ≡ ending.NoMemory) × Appends before.output.held after.output.held said). subst (Ends told at_end gave before after) (sym h.0) (short (prefix_whole before.output.held after.output.held said h.1)))
    (λ (h : (result ≡ ending.Write) × AppendsPrefix before.output.held after.output.held said). subst (Ends told at_end gave before after) (sym h.0) (short h.1))
    closes
