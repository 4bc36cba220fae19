-- How a name is written before its `=`.
use Rattle.std.specs.Prelude.{◌≡◌, ℕ, ◌==◌, ◌||◌, Bool, true, not, if◌then◌else◌, List, [], ◌∷◌, ◌++◌, Some}
use Rattle.std.specs.List.{list_all}
use Rattle.ely_propfile.specs.Keys.{Marked, key_of}

-- the bytes, with a backslash before each that is escaped
abbrev pub written : Marked → List ℕ
written [] = []
written (b ∷ marked) = if b.0 then 92 ∷ b.1 ∷ written marked else b.1 ∷ written marked

-- each `=` and each backslash is escaped
abbrev pub is_writable : Marked → Bool
is_writable marked = list_all (λ b. b.0 || not (b.1 == 61 || b.1 == 92)) marked

-- a name that is written so is read, with what follows its `=`
abbrev pub ReadsWritten : Type 0
ReadsWritten = (marked : Marked) (value : List ℕ)
    → is_writable marked ≡ true → key_of (written marked ++ 61 ∷ value) ≡ Some (marked, value)

-- what is read was written so
abbrev pub ReadsNothingElse : Type 0
ReadsNothingElse = (text : List ℕ) (marked : Marked) (value : List ℕ)
    → key_of text ≡ Some (marked, value) → (text ≡ written marked ++ 61 ∷ value) × (is_writable marked ≡ true)
