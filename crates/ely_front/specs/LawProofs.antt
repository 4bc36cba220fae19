-- Replay and check keep the laws of modes. The proofs stand here, where the implementations of the trait can cite them.
use Rattle.std.proofs.Common.{◌≡◌, ℕ, ◌+◌, List, [], ◌∷◌, ◌++◌, length, map, refl, sym, ap, ◌∙◌, arith, append_assoc, append-nil, add-zero}
use Rattle.std.proofs.lemmas.List.{map-append, length-map}
use Rattle.ely_script.specs.declared.entry.Entry.{Entry}
use Rattle.ely_script.specs.Lines.{ScriptLine}
use Rattle.ely_script.specs.Text.{line_text, text, text_from}
use Rattle.ely_domain.specs.Given.{Given}
use Rattle.ely_history.specs.Replays.{Told, entry_of}
use Rattle.ely_history.proofs.Extends.{history_on}
use Rattle.ely_front.specs.Lines.{text_of, cost_of}
use Rattle.ely_front.specs.Modes.{TellsInOrder}
use Rattle.ely_front.specs.Replayed.{IsTextOf, IsPaidTextOf}
use Rattle.ely_front.specs.Check.{line_told, bad_lines, count_bad, total_text, TellsBad, TellsTotal}

-- the text of steps goes on where the steps do
text_from-append : (xs ys : List Entry) (number : ℕ) → text_from number (xs ++ ys) ≡ text_from number xs ++ text_from (number + length xs) ys
text_from-append [] ys number = rw add-zero refl
text_from-append (x ∷ xs) ys number =
    let more = text_from-append xs ys (number + 1) in
    let same : (number + 1) + length xs ≡ number + length (x ∷ xs) = omega arith in
    ap (λ t. line_text number x ++ t) (rw same at more) ∙ sym (append_assoc (line_text number x) (text_from (number + 1) xs) _)

-- the text of a history goes on where the history does
pub text_of-append : (h made : List Told) → text_of (h ++ made) ≡ text_of h ++ text_from (length h + 1) (map entry_of made)
text_of-append h made =
    let number : 1 + length (map entry_of h) ≡ length h + 1 = omega (arith, length-map h entry_of) in
    ap text (map-append entry_of h made)
    ∙ (text_from-append (map entry_of h) (map entry_of made) 1
    ∙ ap (λ n. text_of h ++ text_from n (map entry_of made)) number)

-- what a check tells of lines goes on where the lines do
pub bad_lines-append : (number : ℕ) (xs ys : List ScriptLine) → bad_lines number (xs ++ ys) ≡ bad_lines number xs ++ bad_lines (number + length xs) ys
bad_lines-append number [] ys = rw add-zero refl
bad_lines-append number (x ∷ xs) ys =
    let more = bad_lines-append (number + 1) xs ys in
    let same : (number + 1) + length xs ≡ number + length (x ∷ xs) = omega arith in
    ap (λ t. line_told number x ++ t) (rw same at more) ∙ sym (append_assoc (line_told number x) (bad_lines (number + 1) xs) _)

-- a replay tells its lines in order
pub replay_in_order : TellsInOrder IsTextOf IsPaidTextOf
replay_in_order = record {
  on = λ given lines more said is.
      let on = history_on given more lines is.0 is.1 in
      let behind : List ℕ = text_from (length is.0 + 1) (map entry_of on.0) in
      (behind, (is.0 ++ on.0, on.1, ap (λ xs. xs ++ behind) is.2 ∙ sym (text_of-append is.0 on.0)));
  ends = λ given lines said is. ([], cost_of given is.0, (is.0, is.1, append-nil said ∙ is.2, refl));
}

-- a check tells its lines in order
pub check_in_order : TellsInOrder TellsBad TellsTotal
check_in_order = record {
  on = λ given lines more said is.
      let behind : List ℕ = bad_lines (1 + length lines) more in
      (behind, ap (λ xs. xs ++ behind) is ∙ sym (bad_lines-append 1 lines more));
  ends = λ given lines said is.
      let behind : List ℕ = total_text (length lines) (count_bad lines) in
      (behind, 0, (ap (λ xs. xs ++ behind) is, refl));
}
