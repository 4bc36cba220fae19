-- Sources and sinks in memory: what each call does by the plan.
use Rattle.std.specs.Prelude.{ℕ, ◌==◌, ◌||◌, ◌&&◌, Bool, nat_lt, min, max, List, ◌++◌, drop, slice_get}
use Rattle.std.specs.List.{list_any}
use Rattle.std.specs.Option.{option_map_or}
use Rattle.ely_io.specs.Causes.{raised}

-- how the calls go: what each moves at most, which of them fail, how many there were, and how many of those failed
pub record Plan : Type 0 where
  pub sizes : List ℕ
  pub failing : List ℕ
  pub calls : ℕ
  pub faults : ℕ

-- a plan of which no call was made
abbrev pub planned : List ℕ → List ℕ → Plan
planned sizes failing = record { sizes = sizes; failing = failing; calls = 0; faults = 0 }

-- whether the plan has the next call fail
abbrev pub is_failing : Plan → Bool
is_failing p = list_any (λ k. k == p.calls) p.failing

-- after a call that moved bytes
abbrev pub called : Plan → Plan
called p = record p { calls = raised p.calls }

-- after a call that failed
abbrev pub failed : Plan → Plan
failed p = record p { calls = raised p.calls; faults = raised p.faults }

-- how many of so many bytes the next call reads: at most its size, which counts as 1 where it is 0; all where it has none
abbrev pub read_len : Plan → ℕ → ℕ
read_len p most = option_map_or (λ size. min (max size 1) most) (slice_get p.sizes p.calls) most

-- how many of so many bytes the next call takes: at most its size; all where it has none
abbrev pub taken_len : Plan → ℕ → ℕ
taken_len p most = option_map_or (λ size. min size most) (slice_get p.sizes p.calls) most

-- whether the plan has a sink fail at the next call, with a piece of this length
abbrev pub is_refusing : Plan → ℕ → Bool
is_refusing p len = is_failing p || (nat_lt 0 len && (taken_len p len == 0))

-- a source in memory: the bytes still to come, and the plan
pub record MemInput : Type 0 where
  pub left : List ℕ
  pub plan : Plan

-- after a call that read so many bytes
abbrev pub read_from : MemInput → ℕ → MemInput
read_from s n = record { left = drop n s.left; plan = called s.plan }

-- a sink in memory: the bytes taken, and the plan
pub record MemOutput : Type 0 where
  pub held : List ℕ
  pub plan : Plan

-- after a call that took these bytes
abbrev pub taken_by : MemOutput → List ℕ → MemOutput
taken_by s bytes = record { held = s.held ++ bytes; plan = called s.plan }
