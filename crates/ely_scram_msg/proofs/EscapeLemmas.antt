-- Escapes in saslnames: where the first bad one stands, and which name a text of good ones stands for.
use Rattle.std.proofs.Common.{◌≡◌, ◌≢◌, ℕ, zero, suc, ◌+◌, ◌<◌, ◌≤◌, Bool, true, false, not, ◌&&◌, ◌||◌, ◌⊎◌, List, [], ◌∷◌, ◌++◌, length, drop, get_or, Option, Some, None, refl, sym, ap, subst, ◌∙◌, arith, cond, eqb, ltb, IsUtf8, length-append, ⊎_elim, append_assoc}
use Rattle.std.proofs.lemmas.Bool.{cases_Bool, cond-true, cond-false}
use Rattle.std.proofs.lemmas.Bool.Decides.{nat_tests}
use Rattle.std.specs.Option.{option_map}
use Rattle.std.specs.List.{list_any}
use Rattle.std.specs.List.{position_or_len}
use Rattle.std.specs.Prelude.{position, is_none, Ok}
use Rattle.std.proofs.lemmas.List.Folds.{list_any_none}
use Rattle.std.specs.Str.Lossy.{utf8_valid_len}
use Rattle.std.proofs.lemmas.List.{take_at, drop_at, get_or_at, length_push}
use Rattle.std.proofs.lemmas.Str.{IsUtf8-append, IsUtf8-take, IsUtf8-drop, IsCharBoundary-before_ascii, IsCharBoundary-after_ascii, utf8_valid_len-IsUtf8}
use Rattle.ely_base.specs.Names.{IsName, is_barred, name_fault, name_of, name_or}
use Rattle.ely_base.specs.declared.name.NameFault.{NameFault}
use Rattle.ely_base.specs.declared.name.NameFault.TheVariants.{Empty, Long, NotText, Barred}
use Rattle.ely_base.proofs.NameLemmas.{none_of, map_none}
use Rattle.ely_scram_msg.specs.Saslnames.{is_escape, bad_escape, unescaped}

-- from one offset on, the first bad escape stands there or further on
bad_at : (xs : List ℕ) (i : ℕ) → i < length xs → bad_escape (drop i xs) ≡ cond (eqb (get_or xs i 0) 61 && not (is_escape (drop (suc i) xs))) (Some 0) (option_map (λ k. k + 1) (bad_escape (drop (suc i) xs)))
bad_at [] i within = absurd (omega arith)
bad_at (c ∷ cs) zero within = refl
bad_at (c ∷ cs) (suc i) within = bad_at cs i (omega arith)

-- no bad escape is left behind the first byte
none_behind : (c : ℕ) (cs : List ℕ) → bad_escape (c ∷ cs) ≡ None → ((eqb c 61 && not (is_escape cs)) ≡ false) × (bad_escape cs ≡ None)
none_behind c cs h =
    let parts = none_of (eqb c 61 && not (is_escape cs)) 0 (option_map (λ k. k + 1) (bad_escape cs)) h in
    (parts.0, map_none (λ (k : ℕ). k + 1) _ parts.1)

not_same : (c : ℕ) → c ≢ 61 → eqb c 61 ≡ false
not_same c ne = grind (arith, nat_tests)

-- a byte that stands for itself
plain : (c : ℕ) (cs : List ℕ) → c ≢ 61 → unescaped (c ∷ cs) ≡ c ∷ unescaped cs
plain c [] ne = refl
plain c (d ∷ []) ne = refl
plain c (d ∷ e ∷ after) ne = cond-false (eqb c 61) _ _ (not_same c ne)

-- an escape, of whose digits the first tells the byte
coded : (c d e : ℕ) (after : List ℕ) → c ≡ 61 → unescaped (c ∷ d ∷ e ∷ after) ≡ cond (eqb d 50) 44 61 ∷ unescaped after
coded c d e after is = cond-true (eqb c 61) _ _ (grind (arith, nat_tests))

escapes : (c : ℕ) (cs : List ℕ) → c ≡ 61 → (eqb c 61 && not (is_escape cs)) ≡ false → is_escape cs ≡ true
escapes c cs is h = grind (arith, nat_tests)

-- the digits of an escape
record Code (d e : ℕ) : Type 0 where
  first : (d ≡ 50) ⊎ (d ≡ 51)
  second : (e ≡ 67) ⊎ (e ≡ 68)

code : (d e : ℕ) (after : List ℕ) → is_escape (d ∷ e ∷ after) ≡ true → Code d e
code d e after h = record { first = grind (arith, nat_tests); second = grind (arith, nat_tests) }

-- where no bad escape stands at an offset, the first one is searched from the next offset on
pub bad_more : (xs : List ℕ) (i : ℕ) → i < length xs → (eqb (get_or xs i 0) 61 && not (is_escape (drop (i + 1) xs))) ≡ false → option_map (λ k. i + k) (bad_escape (drop i xs)) ≡ option_map (λ k. i + 1 + k) (bad_escape (drop (i + 1) xs))
bad_more xs i within h =
    let e : suc i ≡ i + 1 = omega arith in
    let at : bad_escape (drop i xs) ≡ cond (eqb (get_or xs i 0) 61 && not (is_escape (drop (i + 1) xs))) (Some 0) (option_map (λ k. k + 1) (bad_escape (drop (i + 1) xs))) = subst (λ (n : ℕ). bad_escape (drop i xs) ≡ cond (eqb (get_or xs i 0) 61 && not (is_escape (drop n xs))) (Some 0) (option_map (λ k. k + 1) (bad_escape (drop n xs)))) e (bad_at xs i within) in
    ap (option_map (λ k. i + k)) (at ∙ cond-false _ _ _ h) ∙ moved i (bad_escape (drop (i + 1) xs))
  where
    moved : (i : ℕ) (o : Option ℕ) → option_map (λ k. i + k) (option_map (λ k. k + 1) o) ≡ option_map (λ k. i + 1 + k) o
    moved i None = refl
    moved i (Some k) = ap Some (omega arith)

unbarred : (c : ℕ) → c ≢ 0 → c ≢ 10 → is_barred c ≡ false
unbarred c h k = grind (arith, nat_tests)

digit_unbarred : (d : ℕ) → (d ≡ 50) ⊎ (d ≡ 51) → is_barred d ≡ false
digit_unbarred d h = grind (arith, nat_tests)

letter_unbarred : (e : ℕ) → (e ≡ 67) ⊎ (e ≡ 68) → is_barred e ≡ false
letter_unbarred e h = grind (arith, nat_tests)

byte_unbarred : (b : Bool) → is_barred (cond b 44 61) ≡ false
byte_unbarred true = refl
byte_unbarred false = refl

skip : (b : Bool) (x y : Bool) → b ≡ false → x ≡ y → (b || x) ≡ y
skip b x y h e = ap (λ t. t || x) h ∙ e

-- what stands behind an `=`
code_behind : (c d e : ℕ) (after : List ℕ) → c ≡ 61 → bad_escape (c ∷ d ∷ e ∷ after) ≡ None → Code d e × (bad_escape after ≡ None)
code_behind c d e after is h =
    let one = none_behind c (d ∷ e ∷ after) h in
    let two = none_behind d (e ∷ after) one.1 in
    (code d e after (escapes c (d ∷ e ∷ after) is one.0), (none_behind e after two.1).1)

-- codes stand for no NUL and no LF
pub any_unescaped : (xs : List ℕ) → bad_escape xs ≡ None → list_any is_barred (unescaped xs) ≡ list_any is_barred xs
any_unescaped [] h = refl
any_unescaped (c ∷ []) h = refl
any_unescaped (c ∷ d ∷ []) h = refl
any_unescaped (c ∷ d ∷ e ∷ after) h = ⊎_elim
    (λ (yes : eqb c 61 ≡ true).
    let is : c ≡ 61 = grind (arith, nat_tests) in
    let x = code_behind c d e after is h in
    let u = cond (eqb d 50) 44 61 in
    let A = list_any is_barred after in
    ap (list_any is_barred) (coded c d e after is)
    ∙ (skip (is_barred u) (list_any is_barred (unescaped after)) A (byte_unbarred (eqb d 50)) (any_unescaped after x.1)
    ∙ sym (skip (is_barred c) (is_barred d || (is_barred e || A)) A (unbarred c (omega arith) (omega arith))
    (skip (is_barred d) (is_barred e || A) A (digit_unbarred d x.0.first)
    (skip (is_barred e) A A (letter_unbarred e x.0.second) refl)))))
    (λ (no : eqb c 61 ≡ false).
    let ne : c ≢ 61 = grind (arith, nat_tests) in
    ap (list_any is_barred) (plain c (d ∷ e ∷ after) ne)
    ∙ ap (λ t. is_barred c || t) (any_unescaped (d ∷ e ∷ after) (none_behind c (d ∷ e ∷ after) h).1))
    (cases_Bool (eqb c 61))

at_middle : (prefix : List ℕ) (c : ℕ) (after : List ℕ) → get_or (prefix ++ c ∷ after) (length prefix) 0 ≡ c
at_middle prefix c after = get_or_at prefix c after 0 (length prefix) refl

-- what stands before and behind a byte below 128 is a text
prefix_text : (prefix : List ℕ) (c : ℕ) (after : List ℕ) → c < 128 → IsUtf8 (prefix ++ c ∷ after) → IsUtf8 prefix
prefix_text prefix c after low u =
    let whole = prefix ++ c ∷ after in
    let within : length prefix < length whole = omega (arith, length-append prefix (c ∷ after)) in
    subst IsUtf8 (take_at prefix (c ∷ after) (length prefix) refl)
    (IsUtf8-take whole (length prefix) u (IsCharBoundary-before_ascii whole (length prefix) within (omega (arith, at_middle prefix c after))))

behind_text : (prefix : List ℕ) (c : ℕ) (after : List ℕ) → c < 128 → IsUtf8 (prefix ++ c ∷ after) → IsUtf8 after
behind_text prefix c after low u =
    let whole = prefix ++ c ∷ after in
    let within : length prefix < length whole = omega (arith, length-append prefix (c ∷ after)) in
    let moved : drop (length prefix + 1) whole ≡ after = ap (drop (length prefix + 1)) (sym (append_assoc prefix (c ∷ []) after)) ∙ drop_at (prefix ++ c ∷ []) after (length prefix + 1) (length_push prefix c) in
    subst IsUtf8 moved
    (IsUtf8-drop whole (length prefix + 1) u (IsCharBoundary-after_ascii whole (length prefix) u within (omega (arith, at_middle prefix c after))))

low_text : (b : Bool) (xs : List ℕ) → IsUtf8 xs → IsUtf8 (cond b 44 61 ∷ xs)
unfolding lib.Utf8.encode
low_text true xs u = IsUtf8-append (44 ∷ []) xs (44 ∷ [], (refl, refl)) u
low_text false xs u = IsUtf8-append (61 ∷ []) xs (61 ∷ [], (refl, refl)) u

-- a text whose codes are replaced behind some prefix is still a text
text_behind : (prefix xs : List ℕ) → bad_escape xs ≡ None → IsUtf8 (prefix ++ xs) → IsUtf8 (prefix ++ unescaped xs)
text_behind prefix [] h u = u
text_behind prefix (c ∷ []) h u = u
text_behind prefix (c ∷ d ∷ []) h u = u
text_behind prefix (c ∷ d ∷ e ∷ after) h u = ⊎_elim
    (λ (yes : eqb c 61 ≡ true).
    let is : c ≡ 61 = grind (arith, nat_tests) in
    let x = code_behind c d e after is h in
    let low : d < 128 = digit_low d x.0.first in
    let low_e : e < 128 = letter_low e x.0.second in
    let one = behind_text prefix c (d ∷ e ∷ after) (omega arith) u in
    let two = behind_text [] d (e ∷ after) low one in
    let three = behind_text [] e after low_e two in
    subst (λ (ys : List ℕ). IsUtf8 (prefix ++ ys)) (sym (coded c d e after is))
    (IsUtf8-append prefix _ (prefix_text prefix c (d ∷ e ∷ after) (omega arith) u) (low_text (eqb d 50) _ (text_behind [] after x.1 three))))
    (λ (no : eqb c 61 ≡ false).
    let ne : c ≢ 61 = grind (arith, nat_tests) in
    let rest = text_behind (prefix ++ c ∷ []) (d ∷ e ∷ after) (none_behind c (d ∷ e ∷ after) h).1 (subst IsUtf8 (sym (append_assoc prefix (c ∷ []) (d ∷ e ∷ after))) u) in
    subst (λ (ys : List ℕ). IsUtf8 (prefix ++ ys)) (sym (plain c (d ∷ e ∷ after) ne))
    (subst IsUtf8 (append_assoc prefix (c ∷ []) (unescaped (d ∷ e ∷ after))) rest))
    (cases_Bool (eqb c 61))
  where
    digit_low : (d : ℕ) → (d ≡ 50) ⊎ (d ≡ 51) → d < 128
    digit_low d h = grind (arith, nat_tests)

    letter_low : (e : ℕ) → (e ≡ 67) ⊎ (e ≡ 68) → e < 128
    letter_low e h = grind (arith, nat_tests)

-- the first byte that passes is within the text where one passes
pub first_found : (p : ℕ → Bool) (xs : List ℕ) → ltb (position_or_len p xs) (length xs) ≡ list_any p xs
first_found p [] = refl
first_found p (x ∷ xs) = ⊎_elim
    (λ (yes : p x ≡ true). rw yes (zero_below (length xs)))
    (λ (no : p x ≡ false). rw no (same (position_or_len p xs) (length xs) ∙ first_found p xs))
    (cases_Bool (p x))
  where
    zero_below : (n : ℕ) → ltb 0 (suc n) ≡ true
    zero_below n = grind (arith, nat_tests)

    same : (m n : ℕ) → ltb (1 + m) (suc n) ≡ ltb m n
    same m n = grind (arith, nat_tests)

none_found : (b : Bool) (f : ℕ → NameFault) (i : ℕ) → is_none (option_map f (cond b (Some i) None)) ≡ not b
none_found true f i = refl
none_found false f i = refl

-- 1 to 255 bytes that are a text can only have a NUL or an LF
only_barred : (us : List ℕ) → 0 < length us → length us ≤ 255 → IsUtf8 us → name_fault us ≡ option_map Barred (position is_barred us)
only_barred us some short u =
    let n = utf8_valid_len us in
    let whole : n ≡ length us = utf8_valid_len-IsUtf8 us u in
    let last = option_map Barred (position is_barred us) in
    let text = cond (ltb n (length us)) (Some (NotText n)) last in
    let size = cond (ltb 255 (length us)) (Some (Long (length us))) text in
    let a : eqb (length us) 0 ≡ false = grind (arith, nat_tests) in
    let b : ltb 255 (length us) ≡ false = grind (arith, nat_tests) in
    let c : ltb n (length us) ≡ false = grind (arith, nat_tests) in
    cond-false (eqb (length us) 0) (Some Empty) size a ∙ (cond-false (ltb 255 (length us)) (Some (Long (length us))) text b ∙ cond-false (ltb n (length us)) (Some (NotText n)) last c)

-- a text of 1 to 255 bytes stands for a name where it has no NUL and no LF
pub name_is : (xs : List ℕ) → IsUtf8 xs → bad_escape xs ≡ None → 0 < length (unescaped xs) → length (unescaped xs) ≤ 255 → not (list_any is_barred xs) ≡ is_none (name_fault (unescaped xs))
name_is xs u h some short =
    let us = unescaped xs in
    let fault = only_barred us some short (text_behind [] xs h u) in
    sym (ap is_none fault ∙ (none_found (ltb (position_or_len is_barred us) (length us)) Barred (position_or_len is_barred us) ∙ ap not (first_found is_barred us ∙ any_unescaped xs h)))

-- a name is read as itself
pub name_reads : (name : List ℕ) → IsName name → name_of name ≡ Ok name
name_reads name n =
    let first = position_or_len is_barred name in
    let none : list_any is_barred name ≡ false = list_any_none is_barred name (λ k d within. let b = n.open_bytes k d within in unbarred (get_or name k d) b.0 b.1) in
    let open_bytes : position is_barred name ≡ None = ap (λ b. cond b (Some first) None) (first_found is_barred name ∙ none) in
    ap (λ o. name_or o name) (only_barred name n.some n.short n.text ∙ ap (option_map Barred) open_bytes)

pub none_from_test : {X : Type 0} (o : Option X) → is_none o ≡ true → o ≡ None
none_from_test None h = refl
none_from_test (Some x) h = absurd cc
