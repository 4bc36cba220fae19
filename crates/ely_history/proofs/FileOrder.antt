-- The steps of a replay are in file order.
use Rattle.std.proofs.Common.{◌≡◌, ℕ, ◌+◌, ◌-◌, ◌<◌, ◌≤◌, Bool, true, false, cond, eqb, List, [], ◌∷◌, ◌++◌, length, map, refl, sym, ap, ◌∙◌, append_assoc, arith, length-append}
use Rattle.std.proofs.lemmas.Bool.{eq-eqb}
use Rattle.std.proofs.lemmas.Bool.Decides.{nat_tests}
use Rattle.std.proofs.lemmas.List.Sums.{sum_by-cons}
use Rattle.ely_script.specs.Lines.{ScriptLine}
use Rattle.ely_domain.specs.Given.{Given}
use Rattle.ely_domain.specs.Machine.{Machine}
use Rattle.ely_history.specs.Lines.{Taken, ran}
use Rattle.ely_history.specs.Parts.{actor_of}
use Rattle.ely_history.specs.Replays.{Made, made_by, own_count, replayed_after}
use Rattle.ely_history.specs.Legal.{file_index, IsInFileOrder}

-- one line more at the front
own_first : (x : ScriptLine) (xs : List ScriptLine) (a : ℕ) (b : Bool) → eqb (actor_of x) a ≡ b → own_count a (x ∷ xs) ≡ cond b 1 0 + own_count a xs
own_first x xs a b e = sum_by-cons (λ l. cond (eqb (actor_of l) a) 1 0) x xs ∙ ap (λ t. cond t 1 0 + own_count a xs) e

-- a further line of the actor stands one place further than it does behind the first
behind_own : (x : ScriptLine) (rest : List ScriptLine) (a number k place : ℕ) → eqb (actor_of x) a ≡ true → number ≡ k + 1 → 0 < k → file_index rest a k ≡ place → file_index (x ∷ rest) a number ≡ place + 1
behind_own x rest a number k place e is some more =
    let other : eqb number 1 ≡ false = grind (arith, nat_tests) in
    let before : number - 1 ≡ k = omega (arith, is) in
    rw (e, other, before) (ap (λ n. n + 1) more)

behind_other : (x : ScriptLine) (rest : List ScriptLine) (a number place : ℕ) → eqb (actor_of x) a ≡ false → file_index rest a number ≡ place → file_index (x ∷ rest) a number ≡ place + 1
behind_other x rest a number place e more = rw e (ap (λ n. n + 1) more)

-- the next line of its actor stands behind the earlier ones
place_of_next : (earlier later : List ScriptLine) (l : ScriptLine) → file_index (earlier ++ l ∷ later) (actor_of l) (own_count (actor_of l) earlier + 1) ≡ length earlier
place_of_next [] later l = rw (eq-eqb (actor_of l) (actor_of l) refl) refl
place_of_next (x ∷ xs) later l = by_test (place_of_next xs later l) (eqb (actor_of x) (actor_of l)) refl
  where
    by_test : file_index (xs ++ l ∷ later) (actor_of l) (own_count (actor_of l) xs + 1) ≡ length xs → (b : Bool) → eqb (actor_of x) (actor_of l) ≡ b → file_index (x ∷ (xs ++ l ∷ later)) (actor_of l) (own_count (actor_of l) (x ∷ xs) + 1) ≡ length (x ∷ xs)
    by_test more true e =
        let one : own_count (actor_of l) (x ∷ xs) ≡ 1 + own_count (actor_of l) xs = own_first x xs (actor_of l) true e in
        behind_own x (xs ++ l ∷ later) (actor_of l) (own_count (actor_of l) (x ∷ xs) + 1) (own_count (actor_of l) xs + 1) (length xs) e (omega (arith, one)) (omega arith) more ∙ omega arith
    by_test more false e =
        let same : own_count (actor_of l) (x ∷ xs) + 1 ≡ own_count (actor_of l) xs + 1 = omega (arith, own_first x xs (actor_of l) false e) in
        ap (file_index (x ∷ (xs ++ l ∷ later)) (actor_of l)) same ∙ (behind_other x (xs ++ l ∷ later) (actor_of l) (own_count (actor_of l) xs + 1) (length xs) e more ∙ omega arith)

-- the first step, if there is one, stands at this place or behind it
abbrev pub StartsAt : List ScriptLine → ℕ → List Made → Type 0
StartsAt lines place [] = Unit {0}
StartsAt lines place (m ∷ ms) = place ≤ file_index lines m.actor m.line

later_start : (lines : List ScriptLine) (place : ℕ) (h : List Made) → StartsAt lines (place + 1) h → StartsAt lines place h
later_start lines place [] starts = tt
later_start lines place (m ∷ ms) starts = omega (arith, starts)

in_front : (lines : List ScriptLine) (m : Made) (h : List Made) → IsInFileOrder lines h → StartsAt lines (file_index lines m.actor m.line) h → IsInFileOrder lines (m ∷ h)
in_front lines m [] order starts = tt
in_front lines m (n ∷ h) order starts = (starts, order)

-- the steps of one line before those of later lines
one_line : (lines : List ScriptLine) (actor n place : ℕ) (ts : List Taken) (h : List Made) → file_index lines actor n ≡ place → IsInFileOrder lines h → StartsAt lines (place + 1) h
    → IsInFileOrder lines (map (made_by actor n) ts ++ h) × StartsAt lines place (map (made_by actor n) ts ++ h)
one_line lines actor n place [] h at order starts = (order, later_start lines place h starts)
one_line lines actor n place (t ∷ ts) h at order starts =
    let more = one_line lines actor n place ts h at order starts in
    (in_front lines (made_by actor n t) (map (made_by actor n) ts ++ h) more.0 (rw at more.1), omega (arith, at))

pub ordered_from : (given : Given) (lines rest earlier : List ScriptLine) (m : Machine) → lines ≡ earlier ++ rest
    → IsInFileOrder lines (replayed_after given m earlier rest) × StartsAt lines (length earlier) (replayed_after given m earlier rest)
ordered_from given lines [] earlier m is = (tt, tt)
ordered_from given lines (l ∷ rest) earlier m is =
    let r = ran given m l in
    let later = ordered_from given lines rest (earlier ++ l ∷ []) r.1 (is ∙ sym (append_assoc earlier (l ∷ []) rest)) in
    let place : file_index lines (actor_of l) (own_count (actor_of l) earlier + 1) ≡ length earlier = rw is (place_of_next earlier rest l) in
    let next : length (earlier ++ l ∷ []) ≡ length earlier + 1 = length-append earlier (l ∷ []) in
    one_line lines (actor_of l) (own_count (actor_of l) earlier + 1) (length earlier) r.0 (replayed_after given r.1 (earlier ++ l ∷ []) rest) place later.0 (rw next at later.1)
