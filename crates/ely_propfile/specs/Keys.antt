-- The name of a line, up to the first `=` that isn't escaped.
use Rattle.std.specs.Prelude.{ℕ, ◌==◌, ◌&&◌, Bool, true, false, not, if◌then◌else◌, List, [], ◌∷◌, map, Option, Some, None}
use Rattle.std.specs.Option.{option_map}
use Rattle.ely_base.specs.Blanks.{is_blank}
use Rattle.ely_propfile.specs.Lines.{without_suffix}

-- bytes of a name, each with whether a backslash escapes it
abbrev pub Marked : Type 0
Marked = List (Bool × ℕ)

-- one byte before the others
abbrev pub with_byte : Bool → ℕ → Option (Marked × List ℕ) → Option (Marked × List ℕ)
with_byte escaped b key = option_map (λ k. ((escaped, b) ∷ k.0, k.1)) key

-- the bytes up to the first `=` that isn't escaped, and what follows it; a backslash takes the next byte as it is
abbrev pub key_of : List ℕ → Option (Marked × List ℕ)
key_of [] = None
key_of (b ∷ []) = if b == 61 then Some ([], []) else None
key_of (b ∷ c ∷ rest) =
    if b == 61 then Some ([], c ∷ rest)
    else (if b == 92 then with_byte true c (key_of rest) else with_byte false b (key_of (c ∷ rest)))

-- a space or a tab that isn't escaped
abbrev pub is_bare_blank : Bool × ℕ → Bool
is_bare_blank b = not b.0 && is_blank b.1

-- the bytes of the name: blanks before the `=` are dropped, unless they are escaped
abbrev pub name_bytes : Marked → List ℕ
name_bytes marked = map (λ b. b.1) (without_suffix is_bare_blank marked)

-- the name's bytes, and what follows the `=`
abbrev pub split_of : List ℕ → Option (List ℕ × List ℕ)
split_of line = option_map (λ k. (name_bytes k.0, k.1)) (key_of line)
