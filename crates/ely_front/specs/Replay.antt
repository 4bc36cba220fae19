-- What a replay stands for once some lines of its script were answered.
use Rattle.std.specs.Prelude.{ℕ, ◌≡◌, ◌+◌, ◌*◌, ◌<◌, ◌≤◌, ◌^◌, List, length, unwrap_or}
use Rattle.std.specs.Ordering.{nat_cmp}
use Rattle.std.specs.BTreeMap.{get}
use Rattle.ely_script.specs.Lines.{ScriptLine}
use Rattle.ely_domain.specs.Given.{Given}
use Rattle.ely_domain.specs.Machine.{first_machine}
use Rattle.ely_history.specs.Headline.{IsHistoryOf}
use Rattle.ely_history.specs.Histories.{machine_after}
use Rattle.ely_domain.specs.Keeping.{first_kept}
use Rattle.ely_history.specs.Replays.{Told, steps_told, kept_told, own_count}
use Rattle.ely_front.specs.declared.replay.Replay.{Replay}
use Rattle.ely_front.specs.Lines.{text_of, cost_of}

-- the number of an actor's lines so far
abbrev pub count_of : Replay → ℕ → ℕ
count_of r actor = unwrap_or (get nat_cmp r.counts actor) 0

-- it stands after this history of these lines
pub record IsAfter (given : Given) (r : Replay) (lines : List ScriptLine) (h : List Told) : Type 0 where
  pub given_is : r.domain.given ≡ given
  pub is_history : IsHistoryOf given lines h
  pub machine_is : r.domain.machine ≡ machine_after given (first_machine given) (steps_told h)
  pub kept_is : r.domain.kept ≡ kept_told given (first_machine given) (first_kept given) h
  pub number_is : r.number ≡ length h + 1
  pub counted : (actor : ℕ) → count_of r actor ≡ own_count actor lines
  pub few : length h ≤ 4 * length lines
  pub opened : r.domain.machine.opened ≤ 4 * length lines

-- it has answered these lines: the text is that of their history, and the cost too
pub record HasReplayed (given : Given) (r : Replay) (lines : List ScriptLine) (said : List ℕ) (cost : ℕ) : Type 0 where
  pub history : List Told
  pub is_after : IsAfter given r lines history
  pub text_is : said ≡ text_of history
  pub cost_is : cost ≡ cost_of given history

-- its counters have room for another line
pub record HasSpace (r : Replay) : Type 0 where
  pub number : r.number < 2 ^ 62
  pub opened : r.domain.machine.opened < 2 ^ 62
  pub counted : (actor : ℕ) → count_of r actor < 2 ^ 62
