-- The lines of a properties text, and the blanks round their parts.
use Rattle.std.specs.Prelude.{ℕ, ◌-◌, ◌==◌, ◌||◌, Bool, List, [], ◌∷◌, length, take, drop}
use Rattle.std.specs.List.{prefix_len, suffix_len}
use Rattle.std.specs.Str.Lines.{strip_carriage_return}
use Rattle.ely_base.specs.Blanks.{is_blank}
use Rattle.ely_base.specs.Parts.{parts_at}

-- without the prefix of items that pass
abbrev pub without_prefix : {X : Type 0} → (X → Bool) → List X → List X
without_prefix p xs = drop (prefix_len p xs) xs

-- without the items that pass behind the last that does not
abbrev pub without_suffix : {X : Type 0} → (X → Bool) → List X → List X
without_suffix p xs = take (length xs - suffix_len p xs) xs

-- without leading blanks
abbrev pub trimmed_start : List ℕ → List ℕ
trimmed_start text = without_prefix is_blank text

-- without blanks at both ends
abbrev pub trimmed : List ℕ → List ℕ
trimmed text = without_suffix is_blank (trimmed_start text)

-- the CR of an LF is dropped, and no LF follows the last line
abbrev pub without_crs : List (List ℕ) → List (List ℕ)
without_crs [] = []
without_crs (last ∷ []) = last ∷ []
without_crs (line ∷ next ∷ more) = strip_carriage_return line ∷ without_crs (next ∷ more)

-- the lines of a text, cut at each LF
abbrev pub lines_of : List ℕ → List (List ℕ)
lines_of text = without_crs (parts_at 10 text)
