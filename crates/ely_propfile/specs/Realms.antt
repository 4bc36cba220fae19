-- The digest realm that a comment names.
use Rattle.std.specs.Prelude.{ℕ, ◌==◌, ◌&&◌, Bool, not, if◌then◌else◌, List, [], ◌∷◌, slice_index, take, drop, codes, Option, Some, None}
use Rattle.std.specs.List.{prefix_len}
use Rattle.std.specs.Option.{option_or, unwrap_or}
use Rattle.std.specs.Str.{bytes_eq}
use Rattle.ely_row.specs.Salts.{is_realm_byte, is_realm_len}
use Rattle.ely_propfile.specs.Lines.{trimmed_start, lines_of}
use Rattle.ely_propfile.specs.Entries.{is_comment}

-- a byte of a realm that is named in a comment: one of a Digest realm, but `$`
abbrev pub is_named_byte : ℕ → Bool
is_named_byte b = is_realm_byte b && not (b == 36)

-- 1 to 255 such bytes, with a `$` behind them
abbrev pub closed_realm : List ℕ → Option (List ℕ)
closed_realm text =
    if is_realm_len (prefix_len is_named_byte text) && slice_index text (prefix_len is_named_byte text) == 36
    then Some (take (prefix_len is_named_byte text) text) else None

-- the realm that a prefix of the text names
abbrev pub realm_at : List ℕ → Option (List ℕ)
realm_at text = if bytes_eq (take 12 text) (codes "$REALM_NAME=") then closed_realm (drop 12 text) else None

-- the realm that is named first in the text
abbrev pub realm_in : List ℕ → Option (List ℕ)
realm_in [] = None
realm_in (b ∷ rest) = option_or (realm_at (b ∷ rest)) (realm_in rest)

-- the realm that a line names, where it is a comment
abbrev pub line_realm : List ℕ → Option (List ℕ)
line_realm line = if is_comment (trimmed_start line) then realm_in (trimmed_start line) else None

-- the realm of the first line that names one
abbrev pub first_realm : List (List ℕ) → Option (List ℕ)
first_realm [] = None
first_realm (line ∷ lines) = option_or (line_realm line) (first_realm lines)

-- the digest realm of a text, which may stand anywhere in it
abbrev pub realm_of : List ℕ → List ℕ → List ℕ
realm_of fallback text = unwrap_or (first_realm (lines_of text)) fallback
