-- The client's first message: what is read is in the grammar, and what is in the grammar is read.
use Rattle.std.proofs.Common.{◌≡◌, ℕ, ◌+◌, true, false, not, ◌&&◌, ◌↔◌, inl, inr, List, [], ◌∷◌, ◌++◌, length, take, drop, IsUtf8, Option, Some, None, refl, sym, ap, subst, ◌∙◌, arith, eqb, ltb, length-append, append_assoc, ◌==◌}
use Rattle.std.proofs.lemmas.Bool.{cond-false}
use Rattle.std.proofs.lemmas.Bool.Decides.{nat_tests}
use Rattle.std.proofs.lemmas.List.{take_at, drop_at, take-append-drop, nil_from_length}
use Rattle.std.proofs.lemmas.List.Splits.{join_with_byte-slice_split}
use Rattle.std.specs.Prelude.{Result, Ok, nat_eq}
use Rattle.std.specs.List.{list_any, slice_split, starts_with, join_with_byte}
use Rattle.std.specs.Str.Lossy.{utf8_valid_len}
use Rattle.ely_base.specs.Refused.{◌>>=◌}
use Rattle.ely_scram_msg.specs.declared.fault.MsgFault.{MsgFault}
use Rattle.ely_scram_msg.specs.declared.first.Flag.{Flag}
use Rattle.ely_scram_msg.specs.declared.first.Flag.TheVariants.{N, Y}
use Rattle.ely_scram_msg.specs.declared.first.ClientFirst.{ClientFirst}
use Rattle.ely_scram_msg.specs.Located.{Located}
use Rattle.ely_scram_msg.specs.Fields.{located_from, fields_of, due, value_of}
use Rattle.ely_scram_msg.specs.Saslnames.{saslname_of}
use Rattle.ely_scram_msg.specs.Nonces.{nonce_of}
use Rattle.ely_scram_msg.specs.Extensions.{extensions_of}
use Rattle.ely_scram_msg.specs.ClientFirst.{flag_of, authzid_of, username_of, first_of, client_first_of}
use Rattle.ely_scram_msg.specs.Grammar.{is_comma, no_commas, flag_byte, IsSaslnameOf, IsAuthzid, extensions_text, IsClientFirst}
use Rattle.ely_scram_msg.proofs.TextLemmas.{text_where_no_fault, no_text_fault}
use Rattle.ely_scram_msg.proofs.GrammarLemmas.{bind_ok, bind_is, chosen, guarded, parts_lack, first_lacks, joined, split_joined, value_read, value_is, saslname_read, saslname_is, nonce_read, nonce_is, nonce_lacks, extensions_read, extensions_are}

first_bytes : (bytes : List ℕ) (a b : ℕ) → starts_with nat_eq bytes (a ∷ b ∷ []) ≡ true → (rest : List ℕ) × (bytes ≡ a ∷ b ∷ rest)
first_bytes [] a b h = absurd cc
first_bytes (x ∷ []) a b h = absurd (grind (arith, nat_tests))
first_bytes (x ∷ y ∷ rest) a b h =
    let e : x ≡ a = grind (arith, nat_tests) in
    let f : y ≡ b = grind (arith, nat_tests) in
    (rest, ap (λ z. z ∷ y ∷ rest) e ∙ ap (λ z. a ∷ z ∷ rest) f)

pub flag_read : (bytes : List ℕ) (flag : Flag) → flag_of bytes ≡ Ok flag → (rest : List ℕ) × (bytes ≡ flag_byte flag ∷ 44 ∷ rest)
flag_read bytes flag h =
    elim (chosen (starts_with nat_eq bytes (110 ∷ 44 ∷ [])) (Ok N) _ (Ok flag) h) [
      | inl n ↦ let e : N ≡ flag = cc (n.1) in let b = first_bytes bytes 110 44 n.0 in (b.0, b.1 ∙ ap (λ f. flag_byte f ∷ 44 ∷ b.0) e)
      | inr other ↦ elim (chosen (starts_with nat_eq bytes (121 ∷ 44 ∷ [])) (Ok Y) _ (Ok flag) other.1) [
        | inl y ↦ let e : Y ≡ flag = cc (y.1) in let b = first_bytes bytes 121 44 y.0 in (b.0, b.1 ∙ ap (λ f. flag_byte f ∷ 44 ∷ b.0) e)
        | inr none ↦ absurd (cc ((guarded (starts_with nat_eq bytes (112 ∷ 61 ∷ [])) _ _ flag none.1).1))
      ]
    ]

pub authzid_read : (field : Located) (o : Option (List ℕ)) → list_any is_comma field.text ≡ false → authzid_of field ≡ Ok o → IsAuthzid field.text o
authzid_read field o lacks h =
    elim (chosen (eqb (length field.text) 0) (Ok None) (value_of 97 field >>= saslname_of >>= λ name. Ok (Some name)) (Ok o) h) [
      | inl empty ↦
          let e : None ≡ o = cc (empty.1) in
          let n : length field.text ≡ 0 = let t = empty.0 in grind (arith, nat_tests) in
          subst (IsAuthzid field.text) e (nil_from_length field.text n)
      | inr there ↦
          let n = bind_ok (value_of 97 field >>= saslname_of) (λ name. Ok (Some name)) o there.1 in
          let v = bind_ok (value_of 97 field) saslname_of n.0 n.1 in
          let e : Some n.0 ≡ o = cc (n.2) in
          let is = (value_read 97 field v.0 v.1).1 in
          subst (IsAuthzid field.text) e (v.0.text, is, saslname_read v.0 n.0 (sym (ap (list_any is_comma) is) ∙ lacks) v.2)
    ]

pub record Username (text name : List ℕ) : Type 0 where
  pub value : List ℕ
  pub is : text ≡ 110 ∷ 61 ∷ value
  pub name_is : IsSaslnameOf value name

pub username_read : (field : Located) (name : List ℕ) → list_any is_comma field.text ≡ false → username_of field ≡ Ok name → Username field.text name
username_read field name lacks h =
    let v = bind_ok (value_of 110 field) saslname_of name h in
    let is = (value_read 110 field v.0 v.1).1 in
    record { value = v.0.text; is = is; name_is = saslname_read v.0 name (sym (ap (list_any is_comma) is) ∙ lacks) v.2 }

split_flag : (flag : Flag) (rest : List ℕ) → slice_split (λ b. b == 44) (flag_byte flag ∷ 44 ∷ rest) ≡ (flag_byte flag ∷ []) ∷ slice_split (λ b. b == 44) rest
split_flag N rest = refl
split_flag Y rest = refl

abbrev after_flag : List ℕ → Flag → List Located → Result ClientFirst MsgFault
after_flag bytes flag fields = do
  before ← due (length bytes) fields
  second ← due (length bytes) before.1
  authzid ← authzid_of second.0
  third ← due (length bytes) second.1
  name ← username_of third.0
  fourth ← due (length bytes) third.1
  nonce ← nonce_of fourth.0
  extensions ← extensions_of fourth.1
  Ok (record {
    flag = flag;
    authzid = authzid;
    name = name;
    nonce = nonce;
    gs2 = take third.0.offset bytes;
    bare = drop third.0.offset bytes;
  })

spelled : (bytes rest : List ℕ) (flag : Flag) (texts : List (List ℕ)) (m : ClientFirst) → IsUtf8 bytes → no_commas texts ≡ true → bytes ≡ flag_byte flag ∷ 44 ∷ rest → rest ≡ join_with_byte 44 texts → after_flag bytes flag (located_from 0 ((flag_byte flag ∷ []) ∷ texts)) ≡ Ok m → IsClientFirst bytes m
spelled bytes rest flag [] m text lack is cut h = absurd cc
spelled bytes rest flag (t1 ∷ []) m text lack is cut h = absurd (cc ((bind_ok (authzid_of (record { offset = 2; text = t1 })) _ m h).2))
spelled bytes rest flag (t1 ∷ t2 ∷ []) m text lack is cut h =
    let a = bind_ok (authzid_of (record { offset = 2; text = t1 })) _ m h in
    absurd (cc ((bind_ok (username_of (record { offset = 2 + length t1 + 1; text = t2 })) _ m a.2).2))
spelled bytes rest flag (t1 ∷ t2 ∷ t3 ∷ ts) m text lack is cut h =
    let p = 2 + length t1 + 1 in
    let q = p + length t2 + 1 in
    let a = bind_ok (authzid_of (record { offset = 2; text = t1 })) _ m h in
    let b = bind_ok (username_of (record { offset = p; text = t2 })) _ m a.2 in
    let c = bind_ok (nonce_of (record { offset = q; text = t3 })) _ m b.2 in
    let d = bind_ok (extensions_of (located_from (q + length t3 + 1) ts)) _ m c.2 in
    let l1 = first_lacks t1 (t2 ∷ t3 ∷ ts) lack in
    let l2 = first_lacks t2 (t3 ∷ ts) l1.1 in
    let l3 = first_lacks t3 ts l2.1 in
    let u = username_read (record { offset = p; text = t2 }) b.0 l2.0 b.1 in
    let n = nonce_read (record { offset = q; text = t3 }) c.0 c.1 in
    let tail = join_with_byte 44 (t2 ∷ t3 ∷ ts) in
    let head = flag_byte flag ∷ 44 ∷ t1 ++ 44 ∷ [] in
    let whole : bytes ≡ head ++ tail = is ∙ ap (λ (xs : List ℕ). flag_byte flag ∷ 44 ∷ xs) (cut ∙ sym (append_assoc t1 (44 ∷ []) tail)) in
    let len : length head ≡ p = omega (arith, length-append t1 (44 ∷ [])) in
    let prefix : take p bytes ≡ head = ap (take p) whole ∙ take_at head tail p len in
    let back : drop p bytes ≡ tail = ap (drop p) whole ∙ drop_at head tail p len in
    let end : tail ≡ (110 ∷ 61 ∷ u.value ++ 44 ∷ 114 ∷ 61 ∷ c.0) ++ extensions_text ts =
    ap (λ (xs : List ℕ). t2 ++ 44 ∷ xs) (joined t3 ts)
    ∙ (sym (append_assoc t2 (44 ∷ t3) (extensions_text ts))
    ∙ (ap (λ (xs : List ℕ). (xs ++ 44 ∷ t3) ++ extensions_text ts) u.is ∙ ap (λ (xs : List ℕ). (110 ∷ 61 ∷ u.value ++ 44 ∷ xs) ++ extensions_text ts) n.0)) in
    let made : ClientFirst = record { flag = flag; authzid = a.0; name = b.0; nonce = c.0; gs2 = take p bytes; bare = drop p bytes } in
    let e : made ≡ m = cc (d.2) in
    let given : IsClientFirst bytes made = record {
      authzid = t1;
      name = u.value;
      extensions = ts;
      whole = sym (take-append-drop p bytes);
      gs2 = prefix;
      bare = back ∙ end;
      is_authzid = authzid_read (record { offset = 2; text = t1 }) a.0 l1.0 a.1;
      is_name = u.name_is;
      is_nonce = n.1;
      are_extensions = extensions_read (q + length t3 + 1) ts d.0 l3.1 d.1;
      is_text = text;
    } in
    subst (IsClientFirst bytes) e given

pub accepted : (bytes : List ℕ) (m : ClientFirst) → client_first_of bytes ≡ Ok m → IsClientFirst bytes m
accepted bytes m h =
    let g = guarded (ltb (utf8_valid_len bytes) (length bytes)) _ (first_of bytes) m h in
    let f = bind_ok (flag_of bytes) (λ flag. after_flag bytes flag (fields_of (record { offset = 0; text = bytes }))) m g.1 in
    let r = flag_read bytes f.0 f.1 in
    let texts = slice_split (λ b. b == 44) r.0 in
    let fields : slice_split (λ b. b == 44) bytes ≡ (flag_byte f.0 ∷ []) ∷ texts = ap (slice_split (λ b. b == 44)) r.1 ∙ split_flag f.0 r.0 in
    let text : IsUtf8 bytes = text_where_no_fault bytes g.0 in
    spelled bytes r.0 f.0 texts m text (parts_lack r.0) r.1 (sym (join_with_byte-slice_split 44 r.0)) (subst (λ (ts : List (List ℕ)). after_flag bytes f.0 (located_from 0 ts) ≡ Ok m) fields f.2)

-- ---- what is in the grammar is read

abbrev ok_name : List ℕ → Result (Option (List ℕ)) MsgFault
ok_name name = Ok (Some name)

authzid_is : (offset : ℕ) (t : List ℕ) (o : Option (List ℕ)) → IsAuthzid t o → authzid_of (record { offset = offset; text = t }) ≡ Ok o
authzid_is offset t None h = ap (λ (xs : List ℕ). authzid_of (record { offset = offset; text = xs })) h
authzid_is offset t (Some name) h =
    ap (λ (xs : List ℕ). authzid_of (record { offset = offset; text = xs })) h.1
    ∙ (cond-false (eqb (length (97 ∷ 61 ∷ h.0)) 0) (Ok None) _ (grind (arith, nat_tests))
    ∙ ap (λ r. r >>= λ n. ok_name n) (bind_is _ _ _ (Ok name) (value_is 97 offset h.0) (saslname_is (offset + 2) h.0 name h.2)))

username_is : (offset : ℕ) (v name : List ℕ) → IsSaslnameOf v name → username_of (record { offset = offset; text = 110 ∷ 61 ∷ v }) ≡ Ok name
username_is offset v name s = bind_is _ _ _ (Ok name) (value_is 110 offset v) (saslname_is (offset + 2) v name s)

flag_is : (flag : Flag) (rest : List ℕ) → flag_of (flag_byte flag ∷ 44 ∷ rest) ≡ Ok flag
flag_is N rest = refl
flag_is Y rest = refl

authzid_lacks : (t : List ℕ) (o : Option (List ℕ)) → IsAuthzid t o → list_any is_comma t ≡ false
authzid_lacks t None h = ap (list_any is_comma) h
authzid_lacks t (Some name) h = ap (list_any is_comma) h.1 ∙ h.2.no_comma

abbrev ok_of : ClientFirst → Result ClientFirst MsgFault
ok_of x = Ok x

pub grammar_accepted : (bytes : List ℕ) (m : ClientFirst) → IsClientFirst bytes m → client_first_of bytes ≡ Ok m
grammar_accepted bytes m g =
    let t1 = g.authzid in
    let t2 = 110 ∷ 61 ∷ g.name in
    let t3 = 114 ∷ 61 ∷ m.nonce in
    let ts = g.extensions in
    let p = 2 + length t1 + 1 in
    let q = p + length t2 + 1 in
    let rest = join_with_byte 44 (t1 ∷ t2 ∷ t3 ∷ ts) in
    let head : List ℕ = flag_byte m.flag ∷ 44 ∷ t1 ++ 44 ∷ [] in
    let tail : List ℕ = join_with_byte 44 (t2 ∷ t3 ∷ ts) in
    let bare : m.bare ≡ tail = g.bare ∙ (append_assoc t2 (44 ∷ t3) (extensions_text ts) ∙ sym (ap (λ (xs : List ℕ). t2 ++ 44 ∷ xs) (joined t3 ts))) in
    let whole : bytes ≡ head ++ tail = g.whole ∙ (ap (λ (xs : List ℕ). xs ++ m.bare) g.gs2 ∙ ap (λ (xs : List ℕ). head ++ xs) bare) in
    let is : bytes ≡ flag_byte m.flag ∷ 44 ∷ rest = whole ∙ ap (λ (xs : List ℕ). flag_byte m.flag ∷ 44 ∷ xs) (append_assoc t1 (44 ∷ []) tail) in
    let len : length head ≡ p = omega (arith, length-append t1 (44 ∷ [])) in
    let prefix : take p bytes ≡ m.gs2 = ap (take p) whole ∙ (take_at head tail p len ∙ sym g.gs2) in
    let back : drop p bytes ≡ m.bare = ap (drop p) whole ∙ (drop_at head tail p len ∙ sym bare) in
    let lacks : no_commas (t2 ∷ t3 ∷ ts) ≡ true =
    ap (λ b. not b && (not (list_any is_comma m.nonce) && no_commas ts)) g.is_name.no_comma
    ∙ (ap (λ b. not b && no_commas ts) (nonce_lacks m.nonce g.is_nonce) ∙ g.are_extensions.no_comma) in
    let cut : slice_split (λ b. b == 44) bytes ≡ (flag_byte m.flag ∷ []) ∷ t1 ∷ t2 ∷ t3 ∷ ts =
    ap (slice_split (λ b. b == 44)) is ∙ (split_flag m.flag rest ∙ ap (λ xs. (flag_byte m.flag ∷ []) ∷ xs) (split_joined t1 (t2 ∷ t3 ∷ ts) (authzid_lacks t1 m.authzid g.is_authzid) lacks)) in
    let flag : flag_of bytes ≡ Ok m.flag = ap flag_of is ∙ flag_is m.flag rest in
    let test : ltb (utf8_valid_len bytes) (length bytes) ≡ false = no_text_fault bytes g.is_text in
    cond-false (ltb (utf8_valid_len bytes) (length bytes)) _ (first_of bytes) test
    ∙ bind_is (flag_of bytes) (λ flag. after_flag bytes flag (fields_of (record { offset = 0; text = bytes }))) m.flag (Ok m) flag
    (ap (λ (xs : List (List ℕ)). after_flag bytes m.flag (located_from 0 xs)) cut
    ∙ bind_is (authzid_of (record { offset = 2; text = t1 })) _ m.authzid (Ok m) (authzid_is 2 t1 m.authzid g.is_authzid)
    (bind_is (username_of (record { offset = p; text = t2 })) _ m.name (Ok m) (username_is p g.name m.name g.is_name)
    (bind_is (nonce_of (record { offset = q; text = t3 })) _ m.nonce (Ok m) (nonce_is q m.nonce g.is_nonce)
    (bind_is (extensions_of (located_from (q + length t3 + 1) ts)) _ tt (Ok m) (extensions_are (q + length t3 + 1) ts g.are_extensions)
    (same (take p bytes) m.gs2 (drop p bytes) m.bare prefix back)))))
  where
    same : (a b c d : List ℕ) → a ≡ b → c ≡ d → ok_of (record { flag = m.flag; authzid = m.authzid; name = m.name; nonce = m.nonce; gs2 = a; bare = c }) ≡ ok_of (record { flag = m.flag; authzid = m.authzid; name = m.name; nonce = m.nonce; gs2 = b; bare = d })
    same a b c d h k = cc

pub first_exactly : (bytes : List ℕ) (m : ClientFirst) → (client_first_of bytes ≡ Ok m) ↔ IsClientFirst bytes m
first_exactly bytes m = (accepted bytes m, grammar_accepted bytes m)
