-- One more word.
use Rattle.std.proofs.Common.{◌≡◌, Bool, true, false, ◌||◌, cond, List, [], ◌∷◌, ◌++◌, Option, Some, None, refl, ap, ◌∙◌}
use Rattle.std.specs.Option.{option_map}
use Rattle.std.specs.List.{list_any}
use Rattle.std.proofs.lemmas.List.Folds.{list_any-append}
use Rattle.ely_login.specs.declared.word.StepWord.{StepWord}
use Rattle.ely_login.specs.declared.word.StepWord.TheVariants as words
use Rattle.ely_login.specs.Words.{same_word}
use Rattle.ely_history.specs.Histories.{after_open, since_open, left, needed, is_end}

-- the words since the last open, after one more accepted step or none
abbrev pub next : Option (List StepWord) → Option StepWord → Option (List StepWord)
next s None = s
next s (Some w) = cond (same_word w words.Begin) (Some []) (option_map (λ r. r ++ w ∷ []) s)

open_push : (x w : StepWord) (xs : List StepWord) (s : Option (List StepWord)) (b : Bool) → same_word w words.Begin ≡ b → after_open x (xs ++ w ∷ []) (next s (Some w)) ≡ next (after_open x xs s) (Some w)
open_push x w xs s true e = rw e refl
open_push x w xs (Some r) false e = rw e refl
open_push x w xs None false e = rw e (by_first (same_word x words.Begin))
  where
    by_first : (a : Bool) → cond a (Some (xs ++ w ∷ [])) None ≡ option_map (λ r. r ++ w ∷ []) (cond a (Some xs) None)
    by_first true = refl
    by_first false = refl

pub since_open_push : (ws : List StepWord) (w : StepWord) → since_open (ws ++ w ∷ []) ≡ next (since_open ws) (Some w)
since_open_push [] w = refl
since_open_push (x ∷ xs) w = ap (after_open x (xs ++ w ∷ [])) (since_open_push xs w) ∙ open_push x w xs (since_open xs) (same_word w words.Begin) refl

left_cons : (x : StepWord) (xs : List StepWord) (w : StepWord) (ws vs : List StepWord) (b : Bool) → ((ys : List StepWord) → left ys (ws ++ vs) ≡ left (left ys ws) vs) → cond b (left xs (ws ++ vs)) (left (x ∷ xs) (ws ++ vs)) ≡ left (cond b (left xs ws) (left (x ∷ xs) ws)) vs
left_cons x xs w ws vs true h = h xs
left_cons x xs w ws vs false h = h (x ∷ xs)

pub left-append : (ws vs xs : List StepWord) → left xs (ws ++ vs) ≡ left (left xs ws) vs
left-append [] vs [] = refl
left-append [] vs (x ∷ xs) = refl
left-append (w ∷ ws) vs [] = refl
left-append (w ∷ ws) vs (x ∷ xs) = left_cons x xs w ws vs (same_word w x) (λ ys. left-append ws vs ys)

-- how far a login has come, where nothing ended it
pub record IsAt (rest wanted : List StepWord) : Type 0 where
  pub going : list_any is_end rest ≡ false
  pub need : left needed rest ≡ wanted

pub moved_on : (rest need more : List StepWord) (w : StepWord) → IsAt rest need → left need (w ∷ []) ≡ more → is_end w ≡ false → IsAt (rest ++ w ∷ []) more
moved_on rest need more w at is goes = record {
  going = list_any-append is_end rest (w ∷ []) ∙ rw (at.going, goes) refl;
  need = left-append rest (w ∷ []) needed ∙ rw at.need is;
}

pub ended : (rest : List StepWord) (w : StepWord) → is_end w ≡ true → list_any is_end (rest ++ w ∷ []) ≡ true
ended rest w h = list_any-append is_end rest (w ∷ []) ∙ rw h (or_true (list_any is_end rest))
  where
    or_true : (b : Bool) → (b || true) ≡ true
    or_true true = refl
    or_true false = refl
