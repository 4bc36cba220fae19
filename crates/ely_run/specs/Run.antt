-- The whole program: its words, and what it reads, writes and answers.
use Rattle.std.specs.Prelude.{ℕ, ◌≡◌, ◌⊎◌, List, [], codes}
use Rattle.std.specs.Io.KnownBytes.{Appends}
use Rattle.ely_io.specs.Causes.{AppendsPrefix}
use Rattle.ely_words.specs.declared.asked.Asked.{Asked}
use Rattle.ely_words.specs.declared.asked.Asked.TheVariants.{Replay, Check}
use Rattle.ely_front.specs.Moments.{Moment}
use Rattle.ely_front.specs.Replayed.{IsTextOf, IsPaidTextOf}
use Rattle.ely_front.specs.Check.{TellsBad, TellsTotal}
use Rattle.ely_front.specs.Call.{Runs, IsComplete}

-- the table of the modes: what was asked was done to an ending, with its status
abbrev pub Does : Asked → Moment → Moment → ℕ → Type 0
Does Replay before after status = Runs IsTextOf IsPaidTextOf before after status
Does Check before after status = Runs TellsBad TellsTotal before after status

-- where neither the source nor the sink failed, it was done whole, or memory ran out
abbrev pub DoesWhole : Asked → Moment → Moment → ℕ → Type 0
DoesWhole Replay before after status = IsComplete IsPaidTextOf before after status
DoesWhole Check before after status = IsComplete TellsTotal before after status

-- the line that is written where the words are no command
abbrev pub words_text : List ℕ
words_text = codes "words\n"

-- that the words are no command was written, or the sink failed, or memory ran out and nothing was written; nothing was
-- counted
pub record RefusesWords (before after : Moment) (status : ℕ) : Type 0 where
  pub uncounted : after.steps ≡ before.steps
  pub written : ((status ≡ 2) × Appends before.output.held after.output.held words_text)
      ⊎ (((status ≡ 5) × AppendsPrefix before.output.held after.output.held words_text)
      ⊎ ((status ≡ 1) × Appends before.output.held after.output.held []))
