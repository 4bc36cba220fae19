-- Where nothing failed and no limit was met, all was written, or memory ran out.
use Rattle.std.proofs.Common.{◌≡◌, ℕ, ◌<◌, List, [], ◌∷◌, ◌++◌, length, Option, Some, None, Ok, Err, refl, sym, ap, subst, ◌∙◌, ◌⊎◌, inl, inr, ⊎_elim, arith, append_assoc, append-nil, length-append}
use Rattle.std.proofs.KnownBytes.{Appends-nil}
use Rattle.std.specs.Io.KnownBytes.{Consumes, Appends, IsAtEnd}
use Rattle.ely_io.specs.Streams.{Input}
use Rattle.ely_io.specs.Causes.{Rose}
use Rattle.ely_io.specs.Lines.{HasNoLf, lines_of}
use Rattle.ely_io.specs.Reading.{most}
use Rattle.ely_io.proofs.LineLaws.{lines_of-line, lines_of-last}
use Rattle.ely_front.specs.declared.ending.Ending.{Ending}
use Rattle.ely_front.specs.declared.ending.Ending.TheVariants as ending
use Rattle.ely_config_text.specs.declared.fault.TextFault.{TextFault}
use Rattle.ely_domain.specs.Given.{Given}
use Rattle.ely_front.specs.Moments.{Moment}
use Rattle.ely_front.specs.FirstLine.{conf, IsFirstLine}
use Rattle.ely_front.specs.Modes.{Telling, TellingAll}
use Rattle.ely_front.specs.Ending.{Ends, EndsAs, IsDone, status_of}
use Rattle.ely_front.specs.Call.{Runs, HasCauses, IsComplete, IsWithinLimits}

-- status 0 is that of one ending alone
pub is_done : (e : Ending) → status_of e ≡ 0 → e ≡ ending.Done
is_done ending.Done h = refl
is_done ending.NoMemory h = absurd cc
is_done ending.Words h = absurd cc
is_done ending.Config h = absurd cc
is_done ending.Read h = absurd cc
is_done ending.Write h = absurd cc
is_done ending.ConfigLimit h = absurd cc
is_done ending.BytesLimit h = absurd cc

-- the status of a source or a sink that failed is that of one ending alone
pub is_read : (e : Ending) → status_of e ≡ 4 → e ≡ ending.Read
is_read ending.Read h = refl
is_read ending.Done h = absurd cc
is_read ending.NoMemory h = absurd cc
is_read ending.Words h = absurd cc
is_read ending.Config h = absurd cc
is_read ending.Write h = absurd cc
is_read ending.ConfigLimit h = absurd cc
is_read ending.BytesLimit h = absurd cc

pub is_write : (e : Ending) → status_of e ≡ 5 → e ≡ ending.Write
is_write ending.Write h = refl
is_write ending.Done h = absurd cc
is_write ending.NoMemory h = absurd cc
is_write ending.Words h = absurd cc
is_write ending.Config h = absurd cc
is_write ending.Read h = absurd cc
is_write ending.ConfigLimit h = absurd cc
is_write ending.BytesLimit h = absurd cc

same_head : (x y : List ℕ) (xs ys : List (List ℕ)) → x ∷ xs ≡ y ∷ ys → x ≡ y
same_head x y xs ys h = cc

-- bytes that were given are a prefix of all
prefix_of_all : (bytes gave : List ℕ) (left : Option (List ℕ)) → Consumes (Some bytes) left gave → (rest : List ℕ) × (left ≡ Some rest) × (bytes ≡ gave ++ rest)
prefix_of_all bytes gave None took = absurd took
prefix_of_all bytes gave (Some rest) took = (rest, refl, took)

-- the only line of bytes without an LF, where there is a line
only_line : (first : List ℕ) (line : List ℕ) (lines : List (List ℕ)) → HasNoLf first → lines_of first ≡ line ∷ lines → first ≡ line
only_line [] line lines none h = absurd cc
only_line (x ∷ xs) line lines none h = same_head (x ∷ xs) line [] lines (sym (lines_of-last (x ∷ xs) none (omega arith)) ∙ h)

-- the first line that was given is the first of all
first_of_all : (bytes gave : List ℕ) (input : Input) (first line : List ℕ) (lines : List (List ℕ)) → Consumes (Some bytes) input.left gave → IsFirstLine gave input first → lines_of bytes ≡ line ∷ lines → first ≡ line
first_of_all bytes gave input first line lines took is h =
    let f = prefix_of_all bytes gave input.left took in
    ⊎_elim
    (λ (g : (rest : List ℕ) × (gave ≡ first ++ 10 ∷ rest)).
    let all : bytes ≡ first ++ 10 ∷ (g.0 ++ f.0) = f.2 ∙ (ap (λ xs. xs ++ f.0) g.1 ∙ append_assoc first (10 ∷ g.0) f.0) in
    same_head first line (lines_of (g.0 ++ f.0)) lines (sym (lines_of-line first (g.0 ++ f.0) is.no_lf) ∙ (ap lines_of (sym all) ∙ h)))
    (λ (g : (gave ≡ first) × IsAtEnd input.left × (length gave < most)).
    let none : f.0 ≡ [] = subst IsAtEnd f.1 g.1 in
    let all : bytes ≡ first = f.2 ∙ (ap (λ xs. gave ++ xs) none ∙ (append-nil gave ∙ g.0)) in
    only_line first line lines is.no_lf (ap lines_of (sym all) ∙ h))
    is.given

-- at the end of the input all was given
all_given : (bytes gave : List ℕ) (left : Option (List ℕ)) → Consumes (Some bytes) left gave → IsAtEnd left → gave ≡ bytes
all_given bytes gave left took at_end =
    let f = prefix_of_all bytes gave left took in
    let none : f.0 ≡ [] = subst IsAtEnd f.1 at_end in
    sym (f.2 ∙ (ap (λ xs. gave ++ xs) none ∙ append-nil gave))

given_or_fault : (given : Given) (fault : TextFault) (line first : List ℕ) → line ≡ first → conf line ≡ Err fault → conf first ≡ Ok given → ⊥
given_or_fault given fault line first same bad good = absurd (cc)

module _ (telling : Telling) (closing : TellingAll) (bytes gave : List ℕ) (before after : Moment) (status : ℕ) (within : IsWithinLimits before.input bytes) (took : Consumes (Some bytes) after.input.left gave) (causes : HasCauses before after status)
    (source : Rose before.input.faults after.input.faults → ⊥) (sink : Rose before.output.faults after.output.faults → ⊥) where
  by_ending : (e : Ending) → status ≡ status_of e → Ends telling closing gave before after e → ((status ≡ 0) × IsDone closing bytes before after) ⊎ (status ≡ 1)
  by_ending ending.Done is ends = inl (is, subst (λ xs. IsDone closing xs before after) (all_given bytes gave after.input.left took ends.at_end_of_input) ends)
  by_ending ending.NoMemory is ends = inr is
  by_ending ending.Words is ends = absurd ends
  by_ending ending.Read is ends = absurd (source (causes.read is))
  by_ending ending.Write is ends = absurd (sink (causes.write is))
  by_ending ending.BytesLimit is ends =
      let f = prefix_of_all bytes gave after.input.left took in
      absurd (omega (arith, within.few, ends.1.0, ap length f.2, length-append gave f.0))
  by_ending ending.Config is ends =
      let says = ends.1 in
      absurd (given_or_fault within.given says.1 says.0 within.first (first_of_all bytes gave after.input says.0 within.first within.lines took says.2 within.is_read) says.4 within.configures.1)
  by_ending ending.ConfigLimit is ends =
      let says = ends.1 in
      let same : says.0 ≡ within.first = first_of_all bytes gave after.input says.0 within.first within.lines took says.1 within.is_read in
      absurd (omega (arith, within.configures.0, says.2, ap length same))

pub complete : (telling : Telling) (closing : TellingAll) (before after : Moment) (status : ℕ) → Runs telling closing before after status → HasCauses before after status → IsComplete closing before after status
complete telling closing before after status runs causes bytes within source sink =
    let ends = runs.2 in
    by_ending telling closing bytes ends.0 before after status within (subst (λ l. Consumes l after.input.left ends.0) within.told ends.1) causes source sink runs.0 runs.1 ends.3

consumes_none : (left : Option (List ℕ)) → Consumes left left []
consumes_none None = tt
consumes_none (Some xs) = refl

-- memory ran out before anything was read
pub nothing_ran : (telling : Telling) (closing : TellingAll) (m : Moment) → EndsAs telling closing m m ending.NoMemory
nothing_ran telling closing m = ([], consumes_none m.input.left, omega arith, inl (Appends-nil m.output.held))

-- with status 0 the bytes that the source gave were done
pub done_by : (telling : Telling) (closing : TellingAll) (before after : Moment) (status : ℕ) → Runs telling closing before after status → status ≡ 0
    → (gave : List ℕ) × Consumes before.input.left after.input.left gave × IsDone closing gave before after
done_by telling closing before after status runs zero =
    let e = is_done runs.0 (sym runs.1 ∙ zero) in
    let ends = runs.2 in
    (ends.0, ends.1, subst (Ends telling closing ends.0 before after) e ends.3)
