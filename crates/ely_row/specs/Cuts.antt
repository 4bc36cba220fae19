-- Texts cut at their first colon.
use Rattle.std.specs.Prelude.{ℕ, ◌==◌, ◌+◌, List, take, drop, position, Option, Some, None}

-- a text cut at that offset, where there is one
abbrev pub cut_at : List ℕ → Option ℕ → Option (List ℕ × List ℕ)
cut_at text None = None
cut_at text (Some at) = Some (take at text, drop (at + 1) text)

-- what stands before the first colon and what behind it, where there is one
abbrev pub cut_of : List ℕ → Option (List ℕ × List ℕ)
cut_of text = cut_at text (position (λ b. b == 58) text)
