-- Runs of the machine, and when a login is ready to succeed.
use Rattle.std.specs.Prelude.{ℕ, ◌≡◌, Bool, true, false, ◌||◌, if◌then◌else◌, List, [], ◌∷◌, ◌++◌, Option, Some, None}
use Rattle.std.specs.List.{list_any, filter_map}
use Rattle.ely_login.specs.declared.outcome.Outcome.{Outcome}
use Rattle.ely_login.specs.declared.outcome.Outcome.TheVariants as outcomes
use Rattle.ely_login.specs.declared.word.StepWord.{StepWord}
use Rattle.ely_login.specs.declared.word.StepWord.TheVariants as words
use Rattle.ely_login.specs.Outcomes.{is_accepted}
use Rattle.ely_login.specs.Words.{same_word}
use Rattle.ely_domain.specs.declared.event.Event.{Event}
use Rattle.ely_domain.specs.Events.{word_of, is_on}
use Rattle.ely_domain.specs.Given.{Given}
use Rattle.ely_history.specs.Lines.{Taken}
use Rattle.ely_domain.specs.Machine.{Machine, step}

-- each outcome is the machine's at that point
abbrev pub IsRun : Given → Machine → List Taken → Type 0
IsRun given m [] = Unit {0}
IsRun given m (t ∷ ts) = (t.outcome ≡ (step given m t.event).0) × IsRun given (step given m t.event).1 ts

-- the machine after these steps
abbrev pub machine_after : Given → Machine → List Taken → Machine
machine_after given m [] = m
machine_after given m (t ∷ ts) = machine_after given (step given m t.event).1 ts

-- the word of an accepted step on c
abbrev pub accepted_word : ℕ → Event → Outcome → Option StepWord
accepted_word c event outcome = if is_on c event then (if is_accepted outcome then Some (word_of event) else None) else None

-- the words of the accepted steps on c, in order
abbrev pub words_on : ℕ → List Taken → List StepWord
words_on c h = filter_map (λ t. accepted_word c t.event t.outcome) h

-- the words after the last open, of a first word, of those behind it, and of what is after an open among these
abbrev pub after_open : StepWord → List StepWord → Option (List StepWord) → Option (List StepWord)
after_open w ws (Some rest) = Some rest
after_open w ws None = if same_word w words.Begin then Some ws else None

-- the words after the last open
abbrev pub since_open : List StepWord → Option (List StepWord)
since_open [] = None
since_open (w ∷ ws) = after_open w ws (since_open ws)

-- what is left of these words, once those that stand in order are taken away
abbrev pub left : List StepWord → List StepWord → List StepWord
left [] ws = []
left (x ∷ xs) [] = x ∷ xs
left (x ∷ xs) (w ∷ ws) = if same_word w x then left xs ws else left (x ∷ xs) ws

-- there are no words
abbrev pub is_empty : List StepWord → Bool
is_empty [] = true
is_empty (x ∷ xs) = false

-- the steps that a login needs before it succeeds
abbrev pub needed : List StepWord
needed = words.Name1 ∷ words.Name2 ∷ words.Check1 ∷ words.Check2 ∷ words.Authorize ∷ []

-- an accepted step that ends a login
abbrev pub is_end : StepWord → Bool
is_end w = same_word w words.Succeed || (same_word w words.Fail || same_word w words.Close)

-- the needed steps stand in order among the words since an open, and none that ends the login
abbrev pub is_ready_since : Option (List StepWord) → Bool
is_ready_since None = false
is_ready_since (Some rest) = if list_any is_end rest then false else is_empty (left needed rest)

-- after the last accepted open of c the needed steps stand in order, and none that ends it
unfoldable pub is_ready : ℕ → List Taken → Bool
is_ready c h = is_ready_since (since_open (words_on c h))

-- an identity was established
abbrev pub is_established : Outcome → Bool
is_established (outcomes.Established version place roles) = true
is_established _ = false

-- wherever a succeed of c stands, its outcome is established exactly where c is ready
abbrev pub IsEstablishedWhereReady : List Taken → Type 0
IsEstablishedWhereReady h = (prefix : List Taken) (t : Taken) (back : List Taken) (c : ℕ)
    → h ≡ prefix ++ t ∷ back → word_of t.event ≡ words.Succeed → is_on c t.event ≡ true
    → is_established t.outcome ≡ is_ready c prefix
