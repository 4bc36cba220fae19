-- The parts of a header's members: blanks, tokens, quoted texts, and what stands between them.
use Rattle.std.specs.Prelude.{ℕ, ◌-◌, ◌==◌, ◌||◌, Bool, false, if◌then◌else◌, List, [], ◌∷◌, length, drop, map, codes, Option, Some, None, Result, Ok, Err}
use Rattle.std.specs.List.{prefix_len, take_while, list_any}
use Rattle.std.specs.Option.{option_map, ok_or}
use Rattle.std.specs.Char.{is_ascii_alphanumeric, to_ascii_lowercase}
use Rattle.std.specs.Str.{bytes_eq}
use Rattle.ely_base.specs.Blanks.{is_blank}
use Rattle.ely_digest_msg.specs.declared.fault.DigestFault.{DigestFault}
use Rattle.ely_digest_msg.specs.declared.fault.DigestFault.TheVariants.{Token, Quote}

-- a blank or a comma: what may stand before a member, since empty members are passed over (RFC 7230 section 7)
abbrev pub is_gap : ℕ → Bool
is_gap b = is_blank b || b == 44

-- the bytes of a token that are no letter and no digit (RFC 7230 section 3.2.6)
abbrev pub marks : List ℕ
marks = codes "!#$%&'*+-.^_`|~"

-- a byte of a token: a letter, a digit or one of those (RFC 7230 section 3.2.6)
abbrev pub is_token : ℕ → Bool
is_token b = is_ascii_alphanumeric b || list_any (λ c. c == b) marks

-- what follows the longest prefix of bytes that pass
abbrev pub after : (ℕ → Bool) → List ℕ → List ℕ
after p text = drop (prefix_len p text) text

-- whether the text begins with that byte
abbrev pub starts : ℕ → List ℕ → Bool
starts b [] = false
starts b (c ∷ cs) = c == b

-- the same without case: names of members are compared so (RFC 7235 section 2.1)
abbrev pub same_word : List ℕ → List ℕ → Bool
same_word text word = bytes_eq (map to_ascii_lowercase text) (map to_ascii_lowercase word)

-- the bytes that quoted bytes stand for: `\` takes the next one as it is (RFC 7230 section 3.2.6)
abbrev pub unescaped : List ℕ → List ℕ
unescaped [] = []
unescaped (b ∷ []) = b ∷ []
unescaped (b ∷ c ∷ rest) = if b == 92 then (c ∷ unescaped rest) else (b ∷ unescaped (c ∷ rest))

-- with one byte more in front
abbrev pub with_byte : ℕ → Option (List ℕ × List ℕ) → Option (List ℕ × List ℕ)
with_byte b read = option_map (λ r. (b ∷ r.0, r.1)) read

-- after an opening quote: the bytes, unescaped, up to the closing quote, and what follows it; none where it doesn't end
abbrev pub quoted_of : List ℕ → Option (List ℕ × List ℕ)
quoted_of [] = None
quoted_of (b ∷ []) = if b == 34 then Some ([], []) else None
quoted_of (b ∷ c ∷ rest) =
    if b == 34 then Some ([], c ∷ rest)
    else (if b == 92 then with_byte c (quoted_of rest)
    else with_byte b (quoted_of (c ∷ rest)))

-- the offset in a header of that size of what is left of it
abbrev pub offset : ℕ → List ℕ → ℕ
offset size rest = size - length rest

-- a token, of one or more bytes, and what follows it
abbrev pub token_of : ℕ → List ℕ → Result (List ℕ × List ℕ) DigestFault
token_of size text =
    if prefix_len is_token text == 0 then Err (Token (offset size text))
    else Ok (take_while is_token text, after is_token text)

-- a value, a token or a quoted text (RFC 7235 section 2.1), without escapes, and what follows it
abbrev pub value_of : ℕ → List ℕ → Result (List ℕ × List ℕ) DigestFault
value_of size text =
    if starts 34 text then ok_or (quoted_of (drop 1 text)) (Quote (offset size text))
    else token_of size text

-- what follows `=` and the blanks round it (RFC 7235 section 2.1)
abbrev pub equals_of : ℕ → List ℕ → Result (List ℕ) DigestFault
equals_of size text =
    if starts 61 (after is_blank text) then Ok (after is_blank (drop 1 (after is_blank text)))
    else Err (Token (offset size (after is_blank text)))

-- what follows a member: a comma or the end, behind blanks (RFC 7230 section 7)
abbrev pub end_of : ℕ → List ℕ → Result (List ℕ) DigestFault
end_of size text =
    if length (after is_blank text) == 0 || starts 44 (after is_blank text) then Ok (after is_blank text)
    else Err (Token (offset size (after is_blank text)))
