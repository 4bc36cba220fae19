-- Where a quoted text ends, and what its bytes stand for.
use Rattle.std.proofs.Common.{◌≡◌, ◌≢◌, ℕ, suc, ◌+◌, ◌<◌, ◌≤◌, true, false, List, [], ◌∷◌, length, take, drop, get_or, Option, Some, None, Result, Ok, Err, refl, sym, ap, subst, ◌∙◌, arith, ⊎_elim, cond, eqb, ap₂}
use Rattle.std.proofs.lemmas.List.{drop_more, drop_all, drop-drop}
use Rattle.std.proofs.lemmas.List.Sums.{take_while-cons}
use Rattle.std.proofs.lemmas.Bool.{cases_Bool, cond-true, cond-false}
use Rattle.std.proofs.lemmas.Bool.Decides.{nat_tests}
use Rattle.std.specs.List.{prefix_len, take_while}
use Rattle.std.specs.Option.{option_map, ok_or}
use Rattle.ely_digest_msg.specs.declared.fault.DigestFault.{DigestFault}
use Rattle.ely_digest_msg.specs.Parts.{unescaped, with_byte, quoted_of, is_token, token_of, value_of, starts}

-- how many bytes stand before the closing quote
abbrev pub quoted_len : List ℕ → Option ℕ
quoted_len [] = None
quoted_len (b ∷ []) = cond (eqb b 34) (Some 0) None
quoted_len (b ∷ c ∷ rest) = cond (eqb b 34) (Some 0) (cond (eqb b 92) (option_map (λ n. n + 2) (quoted_len rest)) (option_map (λ n. n + 1) (quoted_len (c ∷ rest))))

not_same : (c d : ℕ) → c ≢ d → eqb c d ≡ false
not_same c d ne = grind (arith, nat_tests)

is_same : (c d : ℕ) → c ≡ d → eqb c d ≡ true
is_same c d e = grind (arith, nat_tests)

-- the steps of a scan for the closing quote
pub quote_here : (b : ℕ) (text : List ℕ) → b ≡ 34 → quoted_len (b ∷ text) ≡ Some 0
quote_here b [] e = cond-true _ _ _ (is_same b 34 e)
quote_here b (c ∷ rest) e = cond-true _ _ _ (is_same b 34 e)

pub escape_here : (b c : ℕ) (text : List ℕ) → b ≡ 92 → quoted_len (b ∷ c ∷ text) ≡ option_map (λ n. n + 2) (quoted_len text)
escape_here b c text e = cond-false _ _ _ (not_same b 34 (omega arith)) ∙ cond-true _ _ _ (is_same b 92 e)

pub escape_last : (b : ℕ) → b ≡ 92 → quoted_len (b ∷ []) ≡ None
escape_last b e = cond-false _ _ _ (not_same b 34 (omega arith))

pub plain_here : (b : ℕ) (text : List ℕ) → b ≢ 34 → b ≢ 92 → quoted_len (b ∷ text) ≡ option_map (λ n. n + 1) (quoted_len text)
plain_here b [] e f = cond-false _ _ _ (not_same b 34 e)
plain_here b (c ∷ rest) e f = cond-false _ _ _ (not_same b 34 e) ∙ cond-false _ _ _ (not_same b 92 f)

pub plain_text : (b : ℕ) (text : List ℕ) → b ≢ 92 → unescaped (b ∷ text) ≡ b ∷ unescaped text
plain_text b [] e = refl
plain_text b (c ∷ rest) e = cond-false _ _ _ (not_same b 92 e)

maps_twice : (i k : ℕ) (o : Option ℕ) → option_map (λ n. i + n) (option_map (λ n. n + k) o) ≡ option_map (λ n. i + k + n) o
maps_twice i k None = refl
maps_twice i k (Some n) = let e : i + (n + k) ≡ i + k + n = omega arith in ap Some e

-- the scan stands at i
abbrev pub IsQuotedFrom : List ℕ → ℕ → Type 0
IsQuotedFrom text i = quoted_len text ≡ option_map (λ n. i + n) (quoted_len (drop i text))

split_text : (text : List ℕ) (i : ℕ) → i < length text → drop i text ≡ get_or text i 0 ∷ drop (i + 1) text
split_text text i h = drop_more text i 0 h

escape_tail : (b : ℕ) (tail : List ℕ) → b ≡ 92 → quoted_len (b ∷ tail) ≡ option_map (λ n. n + 2) (quoted_len (drop 1 tail))
escape_tail b [] e = escape_last b e
escape_tail b (c ∷ rest) e = escape_here b c rest e

pub found_quote : (text : List ℕ) (i : ℕ) → i < length text → get_or text i 0 ≡ 34 → IsQuotedFrom text i → quoted_len text ≡ Some i
found_quote text i h e now =
    let here : quoted_len (drop i text) ≡ Some 0 = ap quoted_len (split_text text i h) ∙ quote_here _ _ e in
    let same : i + 0 ≡ i = omega arith in
    now ∙ ap (λ (o : Option ℕ). option_map (λ n. i + n) o) here ∙ ap Some same

pub past_escape : (text : List ℕ) (i : ℕ) → i < length text → get_or text i 0 ≡ 92 → IsQuotedFrom text i → IsQuotedFrom text (i + 2)
past_escape text i h e now =
    let here : quoted_len (drop i text) ≡ option_map (λ n. n + 2) (quoted_len (drop 1 (drop (i + 1) text))) = ap quoted_len (split_text text i h) ∙ escape_tail _ _ e in
    let same : i + 1 + 1 ≡ i + 2 = omega arith in
    let rest : drop 1 (drop (i + 1) text) ≡ drop (i + 2) text = drop-drop 1 (i + 1) text ∙ ap (λ (n : ℕ). drop n text) same in
    now ∙ ap (λ (o : Option ℕ). option_map (λ n. i + n) o) here ∙ maps_twice i 2 _
    ∙ ap (λ (xs : List ℕ). option_map (λ n. i + 2 + n) (quoted_len xs)) rest

pub past_plain : (text : List ℕ) (i : ℕ) → i < length text → get_or text i 0 ≢ 34 → get_or text i 0 ≢ 92 → IsQuotedFrom text i → IsQuotedFrom text (i + 1)
past_plain text i h e f now =
    let here : quoted_len (drop i text) ≡ option_map (λ n. n + 1) (quoted_len (drop (i + 1) text)) = ap quoted_len (split_text text i h) ∙ plain_here _ _ e f in
    now ∙ ap (λ (o : Option ℕ). option_map (λ n. i + n) o) here ∙ maps_twice i 1 _

pub no_quote : (text : List ℕ) (i : ℕ) → length text ≤ i → IsQuotedFrom text i → quoted_len text ≡ None
no_quote text i h now = now ∙ ap (λ (xs : List ℕ). option_map (λ n. i + n) (quoted_len xs)) (drop_all i text h)

pub quoted_from_start : (text : List ℕ) → IsQuotedFrom text 0
quoted_from_start text = same (quoted_len text)
  where
    same : (o : Option ℕ) → o ≡ option_map (λ n. 0 + n) o
    same None = refl
    same (Some n) = let e : n ≡ 0 + n = omega arith in ap Some e

-- a quoted text by the offset of its end
abbrev pub cut_at : List ℕ → ℕ → List ℕ × List ℕ
cut_at text n = (unescaped (take n text), drop (n + 1) text)

cut_escape : (b c : ℕ) (rest : List ℕ) (n : ℕ) → b ≡ 92 → cut_at (b ∷ c ∷ rest) (n + 2) ≡ (c ∷ (cut_at rest n).0, (cut_at rest n).1)
cut_escape b c rest n e =
    let two : n + 2 ≡ suc (suc n) = omega arith in
    let three : n + 2 + 1 ≡ suc (suc (n + 1)) = omega arith in
    ap₂ (λ (i j : ℕ). let p : List ℕ × List ℕ = (unescaped (take i (b ∷ c ∷ rest)), drop j (b ∷ c ∷ rest)) in p) two three
    ∙ ap (λ (xs : List ℕ). let p : List ℕ × List ℕ = (xs, drop (n + 1) rest) in p) (cond-true _ _ _ (is_same b 92 e))

cut_plain : (b : ℕ) (text : List ℕ) (n : ℕ) → b ≢ 92 → cut_at (b ∷ text) (n + 1) ≡ (b ∷ (cut_at text n).0, (cut_at text n).1)
cut_plain b text n e =
    let one : n + 1 ≡ suc n = omega arith in
    let two : n + 1 + 1 ≡ suc (n + 1) = omega arith in
    ap₂ (λ (i j : ℕ). let p : List ℕ × List ℕ = (unescaped (take i (b ∷ text)), drop j (b ∷ text)) in p) one two
    ∙ ap (λ (xs : List ℕ). let p : List ℕ × List ℕ = (xs, drop (n + 1) text) in p) (plain_text b (take n text) e)

step_escape : (b c : ℕ) (rest : List ℕ) (o : Option ℕ) → b ≡ 92 → with_byte c (option_map (cut_at rest) o) ≡ option_map (cut_at (b ∷ c ∷ rest)) (option_map (λ n. n + 2) o)
step_escape b c rest None e = refl
step_escape b c rest (Some n) e = ap Some (sym (cut_escape b c rest n e))

step_plain : (b : ℕ) (text : List ℕ) (o : Option ℕ) → b ≢ 92 → with_byte b (option_map (cut_at text) o) ≡ option_map (cut_at (b ∷ text)) (option_map (λ n. n + 1) o)
step_plain b text None e = refl
step_plain b text (Some n) e = ap Some (sym (cut_plain b text n e))

eq_from : (b d : ℕ) → eqb b d ≡ true → b ≡ d
eq_from b d h = grind (arith, nat_tests)

ne_from : (b d : ℕ) → eqb b d ≡ false → b ≢ d
ne_from b d h = grind (arith, nat_tests)

pub quoted_is : (text : List ℕ) → quoted_of text ≡ option_map (cut_at text) (quoted_len text)
quoted_is [] = refl
quoted_is (b ∷ []) = ⊎_elim
    (λ (yes : eqb b 34 ≡ true). cond-true _ _ _ yes ∙ sym (ap (λ (o : Option ℕ). option_map (cut_at (b ∷ [])) o) (cond-true _ _ _ yes)))
    (λ (no : eqb b 34 ≡ false). cond-false _ _ _ no ∙ sym (ap (λ (o : Option ℕ). option_map (cut_at (b ∷ [])) o) (cond-false _ _ _ no)))
    (cases_Bool (eqb b 34))
quoted_is (b ∷ c ∷ rest) = ⊎_elim
    (λ (yes : eqb b 34 ≡ true). cond-true _ _ _ yes ∙ sym (ap (λ (o : Option ℕ). option_map (cut_at (b ∷ c ∷ rest)) o) (cond-true _ _ _ yes)))
    (λ (no : eqb b 34 ≡ false). ⊎_elim
    (λ (esc : eqb b 92 ≡ true).
    cond-false _ _ _ no ∙ cond-true _ _ _ esc ∙ ap (with_byte c) (quoted_is rest) ∙ step_escape b c rest (quoted_len rest) (eq_from b 92 esc)
    ∙ sym (ap (λ (o : Option ℕ). option_map (cut_at (b ∷ c ∷ rest)) o) (escape_here b c rest (eq_from b 92 esc))))
    (λ (not_esc : eqb b 92 ≡ false).
    cond-false _ _ _ no ∙ cond-false _ _ _ not_esc ∙ ap (with_byte b) (quoted_is (c ∷ rest)) ∙ step_plain b (c ∷ rest) (quoted_len (c ∷ rest)) (ne_from b 92 not_esc)
    ∙ sym (ap (λ (o : Option ℕ). option_map (cut_at (b ∷ c ∷ rest)) o) (plain_here b (c ∷ rest) (ne_from b 34 no) (ne_from b 92 not_esc))))
    (cases_Bool (eqb b 92)))
    (cases_Bool (eqb b 34))

not_escape : (b : ℕ) → is_token b ≡ true → b ≢ 92
not_escape b h e = let f : is_token 92 ≡ true = subst (λ (n : ℕ). is_token n ≡ true) e h in absurd cc

pub token_plain : (text : List ℕ) → unescaped (take_while is_token text) ≡ take_while is_token text
token_plain [] = refl
token_plain (b ∷ text) = ⊎_elim
    (λ (yes : is_token b ≡ true).
    let first : take_while is_token (b ∷ text) ≡ b ∷ take_while is_token text = take_while-cons is_token b text ∙ cond-true _ _ _ yes in
    ap unescaped first ∙ plain_text b _ (not_escape b yes) ∙ ap (λ (xs : List ℕ). b ∷ xs) (token_plain text) ∙ sym first)
    (λ (no : is_token b ≡ false).
    let none : take_while is_token (b ∷ text) ≡ [] = take_while-cons is_token b text ∙ cond-false _ _ _ no in
    ap unescaped none ∙ sym none)
    (cases_Bool (is_token b))

-- a quoted text that ends at that offset, and one that doesn't end
pub ends_at : (text : List ℕ) (n : ℕ) → quoted_len text ≡ Some n → quoted_of text ≡ Some (cut_at text n)
ends_at text n h = quoted_is text ∙ ap (λ (o : Option ℕ). option_map (cut_at text) o) h

pub ends_nowhere : (text : List ℕ) → quoted_len text ≡ None → quoted_of text ≡ None
ends_nowhere text h = quoted_is text ∙ ap (λ (o : Option ℕ). option_map (cut_at text) o) h

-- what a quoted text gives that ends at that offset
pub read_within : (text inner raw back value rest : List ℕ) (n : ℕ) (fault : DigestFault) → inner ≡ text → quoted_of inner ≡ Some (cut_at inner n) → raw ≡ take n inner → back ≡ drop n inner → value ≡ unescaped raw → rest ≡ drop 1 back → Ok (value, rest) ≡ ok_or (quoted_of text) fault
read_within text inner raw back value rest n fault same h r b v e =
    ap₂ (λ (xs ys : List ℕ). let r : Result (List ℕ × List ℕ) DigestFault = Ok (xs, ys) in r) (v ∙ ap unescaped r) (e ∙ ap (λ (xs : List ℕ). drop 1 xs) b ∙ drop-drop 1 n inner)
    ∙ sym (ap (λ (o : Option (List ℕ × List ℕ)). ok_or o fault) h)
    ∙ ap (λ (xs : List ℕ). ok_or (quoted_of xs) fault) same

prefix_of : Result (List ℕ × List ℕ) DigestFault → List ℕ
prefix_of (Ok p) = p.0
prefix_of (Err e) = []

-- a token holds no escapes
pub token_same : (size : ℕ) (text token rest : List ℕ) → Ok (token, rest) ≡ token_of size text → unescaped token ≡ token
unfolding prefix_of
token_same size text token rest h = ⊎_elim
    (λ (none : eqb (prefix_len is_token text) 0 ≡ true). let no = h ∙ cond-true _ _ _ none in absurd cc)
    (λ (some : eqb (prefix_len is_token text) 0 ≡ false).
    let yes = h ∙ cond-false _ _ _ some in
    let same : token ≡ take_while is_token text = ap prefix_of yes in
    ap unescaped same ∙ token_plain text ∙ sym same)
    (cases_Bool (eqb (prefix_len is_token text) 0))

pub token_value : (size : ℕ) (text token value rest : List ℕ) → starts 34 text ≡ false → value ≡ unescaped token → Ok (token, rest) ≡ token_of size text → Ok (value, rest) ≡ value_of size text
token_value size text token value rest other v h =
    ap (λ (xs : List ℕ). let r : Result (List ℕ × List ℕ) DigestFault = Ok (xs, rest) in r) (v ∙ token_same size text token rest h)
    ∙ h ∙ sym (cond-false _ _ _ other)
