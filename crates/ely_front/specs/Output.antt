-- A call that reads no script and writes one text.
use Rattle.std.specs.Prelude.{ℕ, ◌≡◌, ◌⊎◌, List}
use Rattle.std.specs.Io.KnownBytes.{Appends}
use Rattle.ely_io.specs.Streams.{Output}
use Rattle.ely_io.specs.Causes.{Rose, AppendsPrefix}

-- the text was written whole, or a front of it, where memory ran out or the sink failed
abbrev pub WritesOut : List ℕ → Output → Output → ℕ → Type 0
WritesOut said before after status = ((status ≡ 0) × Appends before.held after.held said)
    ⊎ (((status ≡ 1) ⊎ (status ≡ 5)) × AppendsPrefix before.held after.held said)

-- where the sink didn't fail, the text was written whole, or memory ran out
abbrev pub IsWrittenOut : List ℕ → Output → Output → ℕ → Type 0
IsWrittenOut said before after status = (Rose before.faults after.faults → ⊥)
    → ((status ≡ 0) × Appends before.held after.held said) ⊎ (status ≡ 1)
