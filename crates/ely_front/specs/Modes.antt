-- What a mode prints of the lines of a script, as two definitions of its own, and what it has answered so far.
use Rattle.std.specs.Prelude.{ℕ, ◌≡◌, ◌+◌, ◌^◌, ◌≤◌, List, ◌++◌, length}
use Rattle.ely_script.specs.Lines.{ScriptLine}
use Rattle.ely_domain.specs.Costs.{RoseBy}
use Rattle.ely_domain.specs.Given.{Given}

-- what is printed of so many lines while more may come
abbrev pub Telling : Type 1
Telling = Given → List ScriptLine → List ℕ → Type 0

-- what is printed where they are all, and what that costs at most in HMAC computations
abbrev pub TellingAll : Type 1
TellingAll = Given → List ScriptLine → List ℕ → ℕ → Type 0

-- what a value of a mode stands for: by this configuration it has answered these lines with this text at this cost
abbrev pub Standing : Type 0 → Type 1
Standing M = Given → M → List ScriptLine → List ℕ → ℕ → Type 0

-- what is printed of lines begins what is printed of more lines, and what is printed where they are all
pub record TellsInOrder (told : Telling) (at_end : TellingAll) : Type 0 where
  pub on : (given : Given) (lines more : List ScriptLine) (said : List ℕ) → told given lines said
      → (behind : List ℕ) × told given (lines ++ more) (said ++ behind)
  pub ends : (given : Given) (lines : List ScriptLine) (said : List ℕ) → told given lines said
      → (behind : List ℕ) × (cost : ℕ) × at_end given lines (said ++ behind) cost

-- it has answered some lines, no more of them than an input has bytes
pub record HasRoom {M : Type 0} (stands : Standing M) (mode : M) : Type 0 where
  pub given : Given
  pub lines : List ScriptLine
  pub said : List ℕ
  pub cost : ℕ
  pub is : stands given mode lines said cost
  pub few : length lines ≤ 2 ^ 40

-- More was answered behind this text at this cost: a piece was put behind what was collected, and the counter rose by what the
-- piece costs at most.
pub record Answers (stands : List ℕ → ℕ → Type 0) (said : List ℕ) (cost : ℕ) (old new : List ℕ) (before after : ℕ) : Type 0 where
  pub piece : List ℕ
  pub paid : ℕ
  pub is : stands (said ++ piece) (cost + paid)
  pub collected : new ≡ old ++ piece
  pub is_paid : RoseBy before after paid

-- what is printed at the end, behind this text, was put behind what was collected
pub record Finishes (at_end : List ℕ → ℕ → Type 0) (said : List ℕ) (cost : ℕ) (old new : List ℕ) : Type 0 where
  pub piece : List ℕ
  pub is : at_end (said ++ piece) cost
  pub collected : new ≡ old ++ piece
