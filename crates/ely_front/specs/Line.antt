-- What the code leaves that makes the steps of a line.
use Rattle.std.specs.Prelude.{ℕ, ◌≡◌, ◌<◌, ◌-◌, ◌^◌, List, [], ◌∷◌, ◌++◌}
use Rattle.ely_script.specs.declared.entry.Entry.{Entry}
use Rattle.ely_login.specs.declared.word.CacheWord.{CacheWord}
use Rattle.ely_domain.specs.declared.event.Event.{Event}
use Rattle.ely_domain.specs.Costs.{RoseBy}
use Rattle.ely_history.specs.Costs.{cost_from}
use Rattle.ely_domain.specs.Domains.{Seen}
use Rattle.ely_domain.specs.Given.{Given}
use Rattle.ely_history.specs.Histories.{machine_after}
use Rattle.ely_domain.specs.Keeping.{word_due, kept_after}
use Rattle.ely_domain.specs.KeptKeys.{stands_for}
use Rattle.ely_history.specs.Lines.{Taken, Ran, taken, entry_at, entries_at, AreShown, kept_past}
use Rattle.ely_domain.specs.Machine.{Machine, step}
use Rattle.ely_history.specs.Parts.{Part}

-- one step was made: it is the machine's, and its entry, with a word that stands for the one that is due, is behind the others
pub record MakesStep (old new : Seen) (actor : ℕ) (event : Event) (before after : List Entry) : Type 0 where
  pub shown : CacheWord
  pub stands : stands_for shown ≡ word_due old.given old.machine old.kept event (step old.given old.machine event).0
  pub entry : after ≡ before ++ entry_at actor 0 (taken old.given old.machine event) shown ∷ []
  pub machine : new.machine ≡ (step old.given old.machine event).1
  pub kept : new.kept ≡ kept_after old.given old.machine old.kept event (step old.given old.machine event).0 shown

-- these steps were made: their entries, with words that may be shown, are behind the others, the domain stands after them, and
-- the counter rose by their cost at most
pub record Makes (old new : Seen) (actor : ℕ) (ran : Ran) (before after : List Entry) (counted counts : ℕ) : Type 0 where
  pub shown : List CacheWord
  pub are_shown : AreShown old.given old.machine old.kept ran.0 shown
  pub entries : after ≡ before ++ entries_at actor 0 ran.0 shown
  pub machine : new.machine ≡ ran.1
  pub kept : new.kept ≡ kept_past old.given old.machine old.kept ran.0 shown
  pub paid : RoseBy counted counts (cost_from old.given old.machine old.kept ran.0 shown)

-- some first steps of these were made
pub record StopsIn (given : Given) (old new : Machine) (ran : Ran) : Type 0 where
  pub prefix : List Taken
  pub back : List Taken
  pub are : ran.0 ≡ prefix ++ back
  pub machine : new ≡ machine_after given old prefix

-- where a step is left to make, one more login may be opened
abbrev pub HasRoomFor : Machine → List Part → Type 0
HasRoomFor m [] = Unit {0}
HasRoomFor m (part ∷ rest) = m.opened < 2 ^ 64 - 1
