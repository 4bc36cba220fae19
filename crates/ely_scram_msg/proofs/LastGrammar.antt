-- The client's last message: what is read is in the grammar, and what is in the grammar is read.
use Rattle.std.proofs.Common.{◌≡◌, ℕ, ◌+◌, ◌-◌, true, false, not, ◌&&◌, ◌↔◌, inl, inr, List, [], ◌∷◌, ◌++◌, length, take, IsUtf8, refl, sym, ap, subst, ◌∙◌, arith, eqb, ltb, length-append, append_assoc, ◌==◌}
use Rattle.std.proofs.lemmas.Bool.{cond-true, cond-false, and_parts}
use Rattle.std.proofs.lemmas.Bool.Decides.{nat_tests}
use Rattle.std.proofs.lemmas.List.{take_at, append-nil}
use Rattle.std.proofs.lemmas.List.Folds.{list_all-append}
use Rattle.std.proofs.lemmas.List.Splits.{join_with_byte-slice_split}
use Rattle.std.specs.Prelude.{Result, Ok, Err}
use Rattle.std.specs.List.{list_all, list_any, slice_split, join_with_byte}
use Rattle.std.specs.Str.Lossy.{utf8_valid_len}
use Rattle.ely_base.specs.Refused.{◌>>=◌}
use Rattle.ely_base.specs.Texts.{base64_of}
use Rattle.ely_base.specs.declared.texts.TextFault.{TextFault}
use Rattle.ely_scram_msg.specs.declared.fault.MsgFault.{MsgFault}
use Rattle.ely_scram_msg.specs.declared.last.ClientLast.{ClientLast}
use Rattle.ely_scram_msg.specs.Located.{Located}
use Rattle.ely_scram_msg.specs.Fields.{located_from, due, begins, rest_of_value, value_of}
use Rattle.ely_scram_msg.specs.Nonces.{nonce_of}
use Rattle.ely_scram_msg.specs.Extensions.{is_extension, extension_of}
use Rattle.ely_scram_msg.specs.Base64Texts.{base64_at, or_bad_base64}
use Rattle.ely_scram_msg.specs.ClientLast.{binding_of, proof_of, ending_of, last_of, client_last_of}
use Rattle.ely_scram_msg.specs.Grammar.{is_comma, no_commas, IsBase64Of, AreExtensions, extensions_text, IsClientLast}
use Rattle.ely_scram_msg.proofs.TextLemmas.{text_where_no_fault, no_text_fault}
use Rattle.ely_scram_msg.proofs.GrammarLemmas.{bind_ok, bind_is, chosen, guarded, not_true, parts_lack, first_lacks, joined, split_joined, text_is, begins_is, value_read, value_is, nonce_read, nonce_is, nonce_lacks, extension_read, extension_is, extension_more, first_extension}

-- ---- base64

decoded_read : (offset : ℕ) (r : Result (List ℕ) TextFault) (bytes : List ℕ) → or_bad_base64 offset r ≡ Ok bytes → r ≡ Ok bytes
decoded_read offset (Ok x) bytes h = cc
decoded_read offset (Err f) bytes h = absurd cc

base64_read : (part : Located) (bytes : List ℕ) → list_any is_comma part.text ≡ false → base64_at part ≡ Ok bytes → IsBase64Of part.text bytes
base64_read part bytes lacks h =
    let g = guarded (eqb (length part.text) 0) _ (or_bad_base64 part.offset (base64_of part.text)) bytes h in
    let t = g.0 in
    record { some = grind (arith, nat_tests); no_comma = lacks; stands_for = decoded_read part.offset (base64_of part.text) bytes g.1 }

base64_is : (offset : ℕ) (text bytes : List ℕ) → IsBase64Of text bytes → base64_at (record { offset = offset; text = text }) ≡ Ok bytes
base64_is offset text bytes is =
    let some = is.some in
    cond-false (eqb (length text) 0) _ _ (grind (arith, nat_tests)) ∙ ap (or_bad_base64 offset) is.stands_for

-- ---- the texts behind the nonce

abbrev ok_bytes : List ℕ → Result (List ℕ) MsgFault
ok_bytes xs = Ok xs

abbrev ok_pair : List ℕ → ℕ → Result (List ℕ × ℕ) MsgFault
ok_pair xs n = Ok (xs, n)

abbrev the_pair : List ℕ → ℕ → List ℕ × ℕ
the_pair xs n = (xs, n)

pair_parts : (xs : List ℕ) (i : ℕ) (ys : List ℕ) (j : ℕ) → ok_pair xs i ≡ ok_pair ys j → (xs ≡ ys) × (i ≡ j)
pair_parts xs i ys j h =
    let e : the_pair xs i ≡ the_pair ys j = cc in
    (ap (λ (p : List ℕ × ℕ). p.0) e, ap (λ (p : List ℕ × ℕ). p.1) e)

-- extensions, and then the proof; the bytes before the first of them are k and a comma
record Ending (k : ℕ) (texts : List (List ℕ)) (bytes : List ℕ) (offset : ℕ) : Type 0 where
  extensions : List (List ℕ)
  proof : List ℕ
  is : texts ≡ extensions ++ (112 ∷ 61 ∷ proof) ∷ []
  at : offset ≡ k + length (extensions_text extensions)
  are_extensions : AreExtensions extensions
  none_proof : list_all (λ e. not (begins 112 e)) extensions ≡ true
  is_proof : IsBase64Of proof bytes

proof_read : (k : ℕ) (t : List ℕ) (ts : List (List ℕ)) (bytes : List ℕ) (offset : ℕ) → begins 112 t ≡ true → list_any is_comma t ≡ false → proof_of (record { offset = k + 1; text = t }) (located_from (k + 1 + length t + 1) ts) ≡ Ok (bytes, offset) → Ending k (t ∷ ts) bytes offset
proof_read k t [] bytes offset letter lacks h =
    let part = rest_of_value (record { offset = k + 1; text = t }) in
    let b = bind_ok (base64_at part) _ (bytes, offset) h in
    let pair = pair_parts b.0 (k + 1 - 1) bytes offset b.2 in
    let is = text_is 112 t letter in
    record {
      extensions = [];
      proof = part.text;
      is = ap (λ (xs : List ℕ). xs ∷ []) is;
      at = sym pair.1 ∙ omega arith;
      are_extensions = record { attributes = refl; none_reserved = refl; no_comma = refl };
      none_proof = refl;
      is_proof = base64_read part bytes (sym (ap (list_any is_comma) is) ∙ lacks) (b.1 ∙ ap (λ (xs : List ℕ). ok_bytes xs) pair.0);
    }
proof_read k t (t2 ∷ ts) bytes offset letter lacks h =
    let b = bind_ok (base64_at (rest_of_value (record { offset = k + 1; text = t }))) _ (bytes, offset) h in
    absurd (cc (b.2))

one_before : (k : ℕ) (t : List ℕ) (ts : List (List ℕ)) (bytes : List ℕ) (offset : ℕ) → begins 112 t ≡ false → begins 109 t ≡ false → is_extension t ≡ true → list_any is_comma t ≡ false → Ending (k + 1 + length t) ts bytes offset → Ending k (t ∷ ts) bytes offset
one_before k t ts bytes offset no_proof reserved is lacks e = record {
  extensions = t ∷ e.extensions;
  proof = e.proof;
  is = ap (λ (xs : List (List ℕ)). t ∷ xs) e.is;
  at = let at = e.at in let len = length-append t (extensions_text e.extensions) in omega (arith, at, len);
  are_extensions = extension_more t e.extensions reserved is lacks e.are_extensions;
  none_proof = ap (λ b. not b && list_all (λ x. not (begins 112 x)) e.extensions) no_proof ∙ e.none_proof;
  is_proof = e.is_proof;
}

ending_read : (end k : ℕ) (texts : List (List ℕ)) (bytes : List ℕ) (offset : ℕ) → no_commas texts ≡ true → ending_of end (located_from (k + 1) texts) ≡ Ok (bytes, offset) → Ending k texts bytes offset
ending_read end k [] bytes offset lack h = absurd cc
ending_read end k (t ∷ ts) bytes offset lack h =
    let l = first_lacks t ts lack in
    elim (chosen (begins 112 t) (proof_of (record { offset = k + 1; text = t }) (located_from (k + 1 + length t + 1) ts)) _ (Ok (bytes, offset)) h) [
      | inl here ↦ proof_read k t ts bytes offset here.0 l.0 here.1
      | inr later ↦
          let one = bind_ok (extension_of (record { offset = k + 1; text = t })) _ (bytes, offset) later.1 in
          let e = extension_read (record { offset = k + 1; text = t }) one.0 one.1 in
          one_before k t ts bytes offset later.0 e.0 e.1 l.0 (ending_read end (k + 1 + length t) ts bytes offset l.1 one.2)
    ]

ending_is : (end k : ℕ) (es : List (List ℕ)) (proof bytes : List ℕ) → AreExtensions es → list_all (λ e. not (begins 112 e)) es ≡ true → IsBase64Of proof bytes → ending_of end (located_from (k + 1) (es ++ (112 ∷ 61 ∷ proof) ∷ [])) ≡ Ok (bytes, k + length (extensions_text es))
ending_is end k [] proof bytes are none is =
    cond-true (begins 112 (112 ∷ 61 ∷ proof)) _ _ (begins_is 112 proof)
    ∙ bind_is (base64_at (record { offset = k + 1 + 2; text = proof })) _ bytes (Ok (bytes, k + 0)) (base64_is (k + 1 + 2) proof bytes is) (ap (λ (n : ℕ). ok_pair bytes n) (omega arith))
ending_is end k (t ∷ es) proof bytes are none is =
    let f = first_extension t es are in
    let n = and_parts (not (begins 112 t)) _ none in
    cond-false (begins 112 t) _ _ (not_true (begins 112 t) n.0)
    ∙ bind_is (extension_of (record { offset = k + 1; text = t })) _ tt (Ok (bytes, k + length (extensions_text (t ∷ es)))) (extension_is (record { offset = k + 1; text = t }) f.reserved f.is)
    (ending_is end (k + 1 + length t) es proof bytes f.more n.1 is ∙ ap (λ (n : ℕ). ok_pair bytes n) (let len = length-append t (extensions_text es) in omega (arith, len)))

-- ---- the whole message

with_proof : (es : List (List ℕ)) (p : List ℕ) → extensions_text (es ++ p ∷ []) ≡ extensions_text es ++ 44 ∷ p
with_proof [] p = ap (λ (xs : List ℕ). 44 ∷ xs) (append-nil p)
with_proof (e ∷ es) p = ap (λ (xs : List ℕ). 44 ∷ e ++ xs) (with_proof es p) ∙ ap (λ (xs : List ℕ). 44 ∷ xs) (sym (append_assoc e (extensions_text es) (44 ∷ p)))

abbrev of_fields : List ℕ → List Located → Result ClientLast MsgFault
of_fields bytes fields = do
  first ← due (length bytes) fields
  binding ← binding_of first.0
  second ← due (length bytes) first.1
  nonce ← nonce_of second.0
  ending ← ending_of (length bytes) second.1
  Ok (record {
    binding = binding;
    nonce = nonce;
    proof = ending.0;
    without_proof = take ending.1 bytes;
  })

record Binding (text bytes : List ℕ) : Type 0 where
  value : List ℕ
  is : text ≡ 99 ∷ 61 ∷ value
  stands_for : IsBase64Of value bytes

binding_read : (field : Located) (bytes : List ℕ) → list_any is_comma field.text ≡ false → binding_of field ≡ Ok bytes → Binding field.text bytes
binding_read field bytes lacks h =
    let v = bind_ok (value_of 99 field) base64_at bytes h in
    let is = (value_read 99 field v.0 v.1).1 in
    record { value = v.0.text; is = is; stands_for = base64_read v.0 bytes (sym (ap (list_any is_comma) is) ∙ lacks) v.2 }

binding_is : (offset : ℕ) (v bytes : List ℕ) → IsBase64Of v bytes → binding_of (record { offset = offset; text = 99 ∷ 61 ∷ v }) ≡ Ok bytes
binding_is offset v bytes is = bind_is _ _ _ (Ok bytes) (value_is 99 offset v) (base64_is (offset + 2) v bytes is)

spelled : (bytes : List ℕ) (texts : List (List ℕ)) (m : ClientLast) → IsUtf8 bytes → no_commas texts ≡ true → bytes ≡ join_with_byte 44 texts → of_fields bytes (located_from 0 texts) ≡ Ok m → IsClientLast bytes m
spelled bytes [] m text lack cut h = absurd cc
spelled bytes (t1 ∷ []) m text lack cut h = absurd (cc ((bind_ok (binding_of (record { offset = 0; text = t1 })) _ m h).2))
spelled bytes (t1 ∷ t2 ∷ ts) m text lack cut h =
    let q = 0 + length t1 + 1 in
    let k = q + length t2 in
    let a = bind_ok (binding_of (record { offset = 0; text = t1 })) _ m h in
    let b = bind_ok (nonce_of (record { offset = q; text = t2 })) _ m a.2 in
    let c = bind_ok (ending_of (length bytes) (located_from (k + 1) ts)) _ m b.2 in
    let l1 = first_lacks t1 (t2 ∷ ts) lack in
    let l2 = first_lacks t2 ts l1.1 in
    let v = binding_read (record { offset = 0; text = t1 }) a.0 l1.0 a.1 in
    let n = nonce_read (record { offset = q; text = t2 }) b.0 b.1 in
    let e = ending_read (length bytes) k ts c.0.0 c.0.1 l2.1 c.1 in
    let x = extensions_text e.extensions in
    let y : List ℕ = 44 ∷ 112 ∷ 61 ∷ e.proof in
    let head : List ℕ = (t1 ++ 44 ∷ t2) ++ x in
    let behind : extensions_text ts ≡ x ++ y = ap extensions_text e.is ∙ with_proof e.extensions (112 ∷ 61 ∷ e.proof) in
    let whole : bytes ≡ head ++ y = cut
    ∙ (joined t1 (t2 ∷ ts)
    ∙ (ap (λ (xs : List ℕ). t1 ++ ((44 ∷ t2) ++ xs)) behind
    ∙ (sym (append_assoc t1 (44 ∷ t2) (x ++ y)) ∙ sym (append_assoc (t1 ++ 44 ∷ t2) x y)))) in
    let at = e.at in
    let len : length head ≡ c.0.1 = omega (arith, at, length-append (t1 ++ 44 ∷ t2) x, length-append t1 (44 ∷ t2)) in
    let prefix : take c.0.1 bytes ≡ head = ap (take c.0.1) whole ∙ take_at head y c.0.1 len in
    let made : ClientLast = record { binding = a.0; nonce = b.0; proof = c.0.0; without_proof = take c.0.1 bytes } in
    let same : made ≡ m = cc (c.2) in
    let given : IsClientLast bytes made = record {
      binding = v.value;
      extensions = e.extensions;
      proof = e.proof;
      is_text = text;
      whole = whole ∙ ap (λ (xs : List ℕ). xs ++ y) (sym prefix);
      without_proof = prefix ∙ (ap (λ (xs : List ℕ). (xs ++ 44 ∷ t2) ++ x) v.is ∙ ap (λ (xs : List ℕ). (99 ∷ 61 ∷ v.value ++ 44 ∷ xs) ++ x) n.0);
      is_binding = v.stands_for;
      is_nonce = n.1;
      are_extensions = e.are_extensions;
      none_proof = e.none_proof;
      is_proof = e.is_proof;
    } in
    subst (IsClientLast bytes) same given

accepted : (bytes : List ℕ) (m : ClientLast) → client_last_of bytes ≡ Ok m → IsClientLast bytes m
accepted bytes m h =
    let g = guarded (ltb (utf8_valid_len bytes) (length bytes)) _ (last_of bytes) m h in
    let text : IsUtf8 bytes = text_where_no_fault bytes g.0 in
    spelled bytes (slice_split (λ b. b == 44) bytes) m text (parts_lack bytes) (sym (join_with_byte-slice_split 44 bytes)) g.1

-- ---- what is in the grammar is read

abbrev ok_of : ClientLast → Result ClientLast MsgFault
ok_of x = Ok x

grammar_accepted : (bytes : List ℕ) (m : ClientLast) → IsClientLast bytes m → client_last_of bytes ≡ Ok m
grammar_accepted bytes m g =
    let t1 : List ℕ = 99 ∷ 61 ∷ g.binding in
    let t2 : List ℕ = 114 ∷ 61 ∷ m.nonce in
    let p : List ℕ = 112 ∷ 61 ∷ g.proof in
    let ts = g.extensions ++ p ∷ [] in
    let q = 0 + length t1 + 1 in
    let k = q + length t2 in
    let x = extensions_text g.extensions in
    let y : List ℕ = 44 ∷ p in
    let head : List ℕ = (t1 ++ 44 ∷ t2) ++ x in
    let n = k + length x in
    let whole : bytes ≡ head ++ y = g.whole ∙ ap (λ (xs : List ℕ). xs ++ y) g.without_proof in
    let is : bytes ≡ join_with_byte 44 (t1 ∷ t2 ∷ ts) = whole
    ∙ (append_assoc (t1 ++ 44 ∷ t2) x y
    ∙ (append_assoc t1 (44 ∷ t2) (x ++ y)
    ∙ (ap (λ (xs : List ℕ). t1 ++ ((44 ∷ t2) ++ xs)) (sym (with_proof g.extensions p)) ∙ sym (joined t1 (t2 ∷ ts))))) in
    let len : length head ≡ n = omega (arith, length-append (t1 ++ 44 ∷ t2) x, length-append t1 (44 ∷ t2)) in
    let prefix : take n bytes ≡ m.without_proof = ap (take n) whole ∙ (take_at head y n len ∙ sym g.without_proof) in
    let ends : no_commas ts ≡ true = list_all-append (λ text. not (list_any is_comma text)) g.extensions (p ∷ [])
    ∙ (ap (λ b. b && no_commas (p ∷ [])) g.are_extensions.no_comma ∙ ap (λ b. not b && true) g.is_proof.no_comma) in
    let lacks : no_commas (t2 ∷ ts) ≡ true = ap (λ b. not b && no_commas ts) (nonce_lacks m.nonce g.is_nonce) ∙ ends in
    let cut : slice_split (λ b. b == 44) bytes ≡ t1 ∷ t2 ∷ ts = ap (slice_split (λ b. b == 44)) is ∙ split_joined t1 (t2 ∷ ts) g.is_binding.no_comma lacks in
    let test : ltb (utf8_valid_len bytes) (length bytes) ≡ false = no_text_fault bytes g.is_text in
    cond-false (ltb (utf8_valid_len bytes) (length bytes)) _ (last_of bytes) test
    ∙ (ap (λ (xs : List (List ℕ)). of_fields bytes (located_from 0 xs)) cut
    ∙ bind_is (binding_of (record { offset = 0; text = t1 })) _ m.binding (Ok m) (binding_is 0 g.binding m.binding g.is_binding)
    (bind_is (nonce_of (record { offset = q; text = t2 })) _ m.nonce (Ok m) (nonce_is q m.nonce g.is_nonce)
    (bind_is (ending_of (length bytes) (located_from (k + 1) ts)) _ (m.proof, n) (Ok m) (ending_is (length bytes) k g.extensions g.proof m.proof g.are_extensions g.none_proof g.is_proof)
    (same (take n bytes) m.without_proof prefix))))
  where
    same : (a b : List ℕ) → a ≡ b → ok_of (record { binding = m.binding; nonce = m.nonce; proof = m.proof; without_proof = a }) ≡ ok_of (record { binding = m.binding; nonce = m.nonce; proof = m.proof; without_proof = b })
    same a b h = cc

pub last_exactly : (bytes : List ℕ) (m : ClientLast) → (client_last_of bytes ≡ Ok m) ↔ IsClientLast bytes m
last_exactly bytes m = (accepted bytes m, grammar_accepted bytes m)
