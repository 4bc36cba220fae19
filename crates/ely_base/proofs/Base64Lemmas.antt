-- Base64 in pieces of 64 symbols.
use Rattle.std.proofs.Common.{◌≡◌, ◌≢◌, ℕ, zero, suc, ◌+◌, ◌*◌, ◌/◌, ◌%◌, ◌<◌, true, false, ◌⊎◌, inl, inr, List, [], ◌∷◌, ◌++◌, length, take, drop, Option, Some, None, refl, sym, ap, subst, ◌∙◌, arith, cond, eqb, length-append}
use Rattle.std.proofs.lemmas.Bool.{cond-true}
use Rattle.std.proofs.lemmas.Bool.Decides.{nat_tests}
use Rattle.std.proofs.lemmas.List.{take_at, drop_at, take-append-drop, length-take, length-replicate}
use Rattle.std.specs.Prelude.{slice_index, is_ok, is_some, replicate}
use Rattle.std.specs.Option.{option_map}
use Rattle.std.specs.Result.{result_ok}
use Rattle.std.specs.declared.result.Result.{Result}
use Rattle.std.specs.declared.result.Result.TheVariants.{Ok, Err}
use Rattle.base64.specs.declared.decode.DecodeError.{DecodeError}
use Rattle.base64.specs.Decode.{IsDecodeTable, decode_group, decode_outcome, or_else, symbol_error, group_error, groups_error, groups_bytes, groups_before_last, lone_error, suffix_bytes, scan, scan_bytes, scan_last, no_leftover, push_leftover}
use Rattle.base64.specs.GeneralPurpose.{encode_of, decode_of, IsBytes}
use Rattle.base64.specs.Engines.{standard}
use Rattle.base64.specs.Rfc4648.{encode_symbols, padding_len, unpadded_len}
use Rattle.base64.proofs.Decoding.{IsLeftover, IsLeftover_next, scan-cons_err, scan-cons_ok, scan-nil}
use Rattle.base64.proofs.EngineFacts.{decode_of-encode_of, decode_of_strict, encode_of-append}
use Rattle.base64.proofs.RoundTrip.{length-encode_symbols}
use Rattle.base64.proofs.Tables.{IsDecodeTable_from, are_tables_inverse}
use Rattle.ely_base.specs.Texts.{or_bad, is_base64}

-- ---- decoded bytes are bytes

cases_result : {T E : Type 0} (r : Result T E) → ((x : T) × (r ≡ Ok x)) ⊎ ((e : E) × (r ≡ Err e))
cases_result (Ok x) = inl (x, refl)
cases_result (Err e) = inr (e, refl)

both_none : (a b : Option DecodeError) → or_else a b ≡ None → (a ≡ None) × (b ≡ None)
both_none None b h = (refl, h)
both_none (Some e) b h = absurd cc

IsBytes-append : (a b : List ℕ) → IsBytes a → IsBytes b → IsBytes (a ++ b)
IsBytes-append [] b h k i = k i
IsBytes-append (x ∷ a) b h k zero = h 0
IsBytes-append (x ∷ a) b h k (suc i) = IsBytes-append a b (λ j. h (suc j)) k i

IsBytes-take : (n : ℕ) (xs : List ℕ) → IsBytes xs → IsBytes (take n xs)
IsBytes-take zero xs h i = omega arith
IsBytes-take (suc n) [] h i = h i
IsBytes-take (suc n) (x ∷ xs) h zero = h 0
IsBytes-take (suc n) (x ∷ xs) h (suc i) = IsBytes-take n xs (λ j. h (suc j)) i

pub IsBytes-drop : (n : ℕ) (xs : List ℕ) → IsBytes xs → IsBytes (drop n xs)
IsBytes-drop zero xs h i = h i
IsBytes-drop (suc n) [] h i = h i
IsBytes-drop (suc n) (x ∷ xs) h i = IsBytes-drop n xs (λ j. h (suc j)) i

three : (a b c i : ℕ) → a < 256 → b < 256 → c < 256 → slice_index (a ∷ b ∷ c ∷ []) i < 256
three a b c zero h k l = h
three a b c (suc zero) h k l = k
three a b c (suc (suc zero)) h k l = l
three a b c (suc (suc (suc i))) h k l = omega arith

group : (m n o p : ℕ) → m < 64 → n < 64 → o < 64 → p < 64 → IsBytes (decode_group m n o p)
group m n o p a b c d i = three (m * 4 + n / 16) (n % 16 * 16 + o / 4) (o % 4 * 64 + p) i (omega arith) (omega arith) (omega arith)

symbol : (dec s : List ℕ) (i : ℕ) → IsDecodeTable dec → IsBytes s → symbol_error dec s i ≡ None → slice_index dec (slice_index s i) < 64
symbol dec s i table bytes h = elim (table (slice_index s i) (bytes i)) [
  | inl f ↦ absurd (no_symbol (slice_index dec (slice_index s i)) _ f h)
  | inr low ↦ low
]
  where
    no_symbol : (x : ℕ) (e : DecodeError) → x ≡ 255 → cond (eqb x 255) (Some e) None ≡ None → ⊥
    no_symbol x e is h = let t : eqb x 255 ≡ true = grind (arith, nat_tests) in cc (cond-true (eqb x 255) (Some e) None t)

groups : (dec s : List ℕ) (q : ℕ) → IsDecodeTable dec → IsBytes s → groups_error dec s q ≡ None → IsBytes (groups_bytes dec s q)
unfolding groups_error groups_bytes
groups dec s zero table bytes h = λ i. omega arith
groups dec s (suc q) table bytes h =
    let at = 4 * q in
    let a = both_none (groups_error dec s q) (group_error dec s at) h in
    let b = both_none (symbol_error dec s at) _ a.1 in
    let c = both_none (symbol_error dec s (at + 1)) _ b.1 in
    let d = both_none (symbol_error dec s (at + 2)) (symbol_error dec s (at + 3)) c.1 in
    IsBytes-append (groups_bytes dec s q) _ (groups dec s q table bytes a.0)
    (group _ _ _ _ (symbol dec s at table bytes b.0) (symbol dec s (at + 1) table bytes c.0) (symbol dec s (at + 2) table bytes d.0) (symbol dec s (at + 3) table bytes d.1))

scanned : (dec : List ℕ) (pad at : ℕ) (st : _) (i : ℕ) (bs : List ℕ) (fin : _) → IsDecodeTable dec → IsLeftover st i → IsBytes bs → scan dec pad at st i bs ≡ Ok fin → (k : ℕ) → slice_index fin.morsels k < 64
scanned dec pad at st i [] fin table held bytes h k =
    let e : st ≡ fin = cc (scan-nil dec pad at st i) in
    subst (λ x. slice_index x.morsels k < 64) e (held.3 k)
scanned dec pad at st i (b ∷ bs) fin table held bytes h k = elim (cases_result (push_leftover dec pad at st i b)) [
  | inl ok ↦ scanned dec pad at ok.0 (i + 1) bs fin table (IsLeftover_next dec pad at st i b ok.0 table held (bytes 0) ok.1) (λ j. bytes (suc j)) (sym (scan-cons_ok dec pad at st i b bs ok.0 ok.1) ∙ h) k
  | inr err ↦ absurd (cc (scan-cons_err dec pad at st i b bs err.0 err.1, h))
]

zeros : (k : ℕ) → slice_index (0 ∷ 0 ∷ 0 ∷ 0 ∷ []) k < 64
zeros zero = omega arith
zeros (suc zero) = omega arith
zeros (suc (suc zero)) = omega arith
zeros (suc (suc (suc zero))) = omega arith
zeros (suc (suc (suc (suc k)))) = omega arith

suffix : (dec : List ℕ) (pad at : ℕ) (s : List ℕ) → IsDecodeTable dec → IsBytes s → IsBytes (suffix_bytes dec pad at s)
suffix dec pad at s table bytes = elim (cases_result (scan_last dec pad at s)) [
  | inl ok ↦
      let small = scanned dec pad at no_leftover 0 (drop at s) ok.0 table (omega arith, omega arith, omega arith, zeros) (IsBytes-drop at s bytes) ok.1 in
      subst (λ r. IsBytes (scan_bytes r)) (sym ok.1) (IsBytes-take _ _ (group _ _ _ _ (small 0) (small 1) (small 2) (small 3)))
  | inr err ↦ subst (λ r. IsBytes (scan_bytes r)) (sym err.1) (λ i. omega arith)
]

outcome : (x : Option DecodeError) (d b : List ℕ) → decode_outcome x d ≡ Ok b → (x ≡ None) × (d ≡ b)
outcome None d b h = (refl, cc h)
outcome (Some e) d b h = cc h

abbrev bytes_of : List ℕ → Result (List ℕ) DecodeError
bytes_of = decode_of standard

pub decoded_bytes : (s b : List ℕ) → IsBytes s → bytes_of s ≡ Ok b → IsBytes b
decoded_bytes s b bytes h =
    let dec = standard.decode_table in
    let q = groups_before_last (length s) in
    let table : IsDecodeTable dec = IsDecodeTable_from standard.encode_table dec (are_tables_inverse standard.encode_table dec 61 standard.tables) in
    let parts = outcome _ _ b h in
    let errors = both_none (lone_error dec 61 s) _ parts.0 in
    let none = both_none (groups_error dec s q) _ errors.1 in
    subst IsBytes parts.1 (IsBytes-append (groups_bytes dec s q) _ (groups dec s q table bytes none.0) (suffix dec 61 (4 * q) s table bytes))

-- ---- a text in two pieces

length-encoded : (b : List ℕ) → length (encode_of standard b) ≡ unpadded_len (length b) + padding_len (length b)
length-encoded b =
    let pad : List ℕ = replicate (padding_len (length b)) 61 in
    let len : length pad ≡ padding_len (length b) = length-replicate {A = ℕ} (padding_len (length b)) 61 in
    length-append (encode_symbols standard.encode_table b) pad
    ∙ (ap (λ (n : ℕ). n + length pad) (length-encode_symbols standard.encode_table b)
    ∙ ap (λ (n : ℕ). unpadded_len (length b) + n) len)

pub record Pieces (s b : List ℕ) : Type 0 where
  pub prefix : bytes_of (take 64 s) ≡ Ok (take 48 b)
  pub size : length (take 48 b) ≡ 48
  pub back : bytes_of (drop 64 s) ≡ Ok (drop 48 b)

pub pieces : (s b : List ℕ) → IsBytes s → 64 < length s → bytes_of s ≡ Ok b → Pieces s b
pieces s b bytes long h =
    let is : s ≡ encode_of standard b = decode_of_strict standard s b (refl, refl) bytes h in
    let ok : IsBytes b = decoded_bytes s b bytes h in
    let x = take 48 b in
    let y = drop 48 b in
    let large : 48 < length b = omega (arith, length-encoded b, ap length is) in
    let size : length x ≡ 48 = omega (arith, length-take 48 b) in
    let parts : encode_of standard (x ++ y) ≡ encode_of standard x ++ encode_of standard y = encode_of-append standard x y (omega (arith, size)) in
    let whole : s ≡ encode_of standard x ++ encode_of standard y = is ∙ (ap (encode_of standard) (sym (take-append-drop 48 b)) ∙ parts) in
    let len : length (encode_of standard x) ≡ 64 = omega (arith, length-encoded x, size) in
    record {
      prefix = ap bytes_of (ap (take 64) whole ∙ take_at _ (encode_of standard y) 64 len) ∙ decode_of-encode_of standard x refl (IsBytes-take 48 b ok);
      size = size;
      back = ap bytes_of (ap (drop 64) whole ∙ drop_at _ (encode_of standard y) 64 len) ∙ decode_of-encode_of standard y refl (IsBytes-drop 48 b ok);
    }

joined : (s x y : List ℕ) → IsBytes s → bytes_of (take 64 s) ≡ Ok x → length x ≡ 48 → bytes_of (drop 64 s) ≡ Ok y → bytes_of s ≡ Ok (x ++ y)
joined s x y bytes h size k =
    let fb = IsBytes-take 64 s bytes in
    let bb = IsBytes-drop 64 s bytes in
    let a = decode_of_strict standard (take 64 s) x (refl, refl) fb h in
    let b = decode_of_strict standard (drop 64 s) y (refl, refl) bb k in
    let whole : s ≡ encode_of standard (x ++ y) = sym (take-append-drop 64 s) ∙ (ap (λ (t : List ℕ). t ++ drop 64 s) a ∙ (ap (λ (t : List ℕ). encode_of standard x ++ t) b ∙ sym (encode_of-append standard x y (omega (arith, size))))) in
    ap bytes_of whole ∙ decode_of-encode_of standard (x ++ y) refl (IsBytes-append x y (decoded_bytes _ x fb h) (decoded_bytes _ y bb k))

ok_same : (r : Result (List ℕ) DecodeError) → is_ok (or_bad r) ≡ is_ok r
ok_same (Ok x) = refl
ok_same (Err e) = refl

is_base64_is : (s : List ℕ) → is_base64 s ≡ is_ok (bytes_of s)
is_base64_is s = ok_same (bytes_of s)

-- behind a piece of whole groups the rest decides
pub rest_decides : (s : List ℕ) (x : List ℕ) → IsBytes s → 64 < length s → bytes_of (take 64 s) ≡ Ok x → length x ≡ 48 → is_base64 (drop 64 s) ≡ is_base64 s
rest_decides s x bytes long h size =
    is_base64_is (drop 64 s)
    ∙ (elim (cases_result (bytes_of (drop 64 s))) [
      | inl ok ↦ ap is_ok ok.1 ∙ sym (ap is_ok (joined s x ok.0 bytes h size ok.1))
      | inr err ↦ elim (cases_result (bytes_of s)) [
        | inl ok ↦ absurd (cc (err.1, (pieces s ok.0 bytes long ok.1).back))
        | inr bad ↦ ap is_ok err.1 ∙ sym (ap is_ok bad.1)
      ]
    ] ∙ sym (is_base64_is s))

-- a bad piece decides
pub piece_decides : (s : List ℕ) → IsBytes s → 64 < length s → ((x : List ℕ) → bytes_of (take 64 s) ≡ Ok x → length x ≡ 48 → ⊥) → false ≡ is_base64 s
piece_decides s bytes long h = elim (cases_result (bytes_of s)) [
  | inl ok ↦ let p = pieces s ok.0 bytes long ok.1 in absurd (h (take 48 ok.0) p.prefix p.size)
  | inr bad ↦ sym (is_base64_is s ∙ ap is_ok bad.1)
]

-- what the length of decoded bytes says
pub found : (r : Result (List ℕ) DecodeError) (n : ℕ) → Some n ≡ option_map length (result_ok r) → (x : List ℕ) × (r ≡ Ok x) × (length x ≡ n)
found (Ok x) n h = (x, refl, cc)
found (Err e) n h = absurd cc

pub no_length : (r : Result (List ℕ) DecodeError) (x : List ℕ) → None ≡ option_map length (result_ok r) → r ≡ Ok x → ⊥
no_length (Ok y) x h k = cc
no_length (Err e) x h k = cc

pub other_length : (r : Result (List ℕ) DecodeError) (x : List ℕ) (n : ℕ) → Some n ≡ option_map length (result_ok r) → n ≢ 48 → r ≡ Ok x → length x ≡ 48 → ⊥
other_length r x n h ne k size =
    let f = found r n h in
    let e : f.0 ≡ x = cc (f.1, k) in
    ne (sym f.2 ∙ (ap length e ∙ size))

pub some_length : (s : List ℕ) → is_some (option_map length (result_ok (bytes_of s))) ≡ is_base64 s
some_length s = of (bytes_of s)
  where
    of : (r : Result (List ℕ) DecodeError) → is_some (option_map length (result_ok r)) ≡ is_ok (or_bad r)
    of (Ok x) = refl
    of (Err e) = refl
