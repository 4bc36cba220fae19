-- What the words ask for, and what is answered where they are no command.
use Rattle.std.proofs.Common.{◌≡◌, ℕ, Option, Some, inr}
use Rattle.ely_words.specs.declared.asked.Asked.{Asked}
use Rattle.ely_words.specs.declared.asked.Asked.TheVariants.{Replay, Check}
use Rattle.ely_front.specs.declared.ending.Ending.TheVariants as ending
use Rattle.ely_front.specs.Moments.{Moment}
use Rattle.ely_front.specs.Replayed.{IsTextOf, IsPaidTextOf}
use Rattle.ely_front.specs.Check.{TellsBad, TellsTotal}
use Rattle.ely_front.specs.Ending.{status_of}
use Rattle.ely_front.proofs.CompleteLemmas.{nothing_ran}
use Rattle.ely_run.specs.Run.{Does, DoesWhole}

-- the words ask for one thing at most
pub same_asked : (o : Option Asked) (a b : Asked) → o ≡ Some a → o ≡ Some b → a ≡ b
same_asked o a b is also = cc

-- memory ran out before anything was done
pub nothing_done : (asked : Asked) (m : Moment) (status : ℕ) → status ≡ status_of ending.NoMemory → Does asked m m status
nothing_done Replay m status is = (ending.NoMemory, is, nothing_ran IsTextOf IsPaidTextOf m)
nothing_done Check m status is = (ending.NoMemory, is, nothing_ran TellsBad TellsTotal m)

pub out_of_memory : (asked : Asked) (m : Moment) (status : ℕ) → status ≡ 1 → DoesWhole asked m m status
out_of_memory Replay m status is = λ bytes within source sink. inr is
out_of_memory Check m status is = λ bytes within source sink. inr is
