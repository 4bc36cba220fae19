-- A moment of a run.
use Rattle.std.specs.Prelude.{ℕ}
use Rattle.ely_io.specs.Streams.{Input, Output}

-- what the source and the sink show, and how many HMAC computations were made
pub record Moment : Type 0 where
  pub input : Input
  pub output : Output
  pub steps : ℕ

-- the moment at which these show this
abbrev pub at : Input → Output → ℕ → Moment
at input output steps = record { input = input; output = output; steps = steps }
