-- The productions that both messages share: what is read is spelled so, and what is spelled so is read.
use Rattle.std.proofs.Common.{◌≡◌, ℕ, zero, suc, ◌+◌, ◌<◌, Bool, true, false, not, ◌&&◌, ◌||◌, ◌⊎◌, inl, inr, List, [], ◌∷◌, ◌++◌, length, drop, get_or, Option, Some, None, refl, sym, ap, subst, ◌∙◌, arith, cond, eqb, ltb, position, ◌==◌}
use Rattle.std.proofs.lemmas.Bool.{cases_Bool, cond-true, cond-false, and_parts}
use Rattle.std.proofs.lemmas.Bool.Decides.{nat_tests}
use Rattle.std.proofs.lemmas.List.{append-nil}
use Rattle.std.proofs.lemmas.List.Splits.{slice_split_at, slice_split_none}
use Rattle.std.specs.Prelude.{Result, Ok, Err}
use Rattle.std.specs.List.{list_any, onto_first, slice_split, join_with_byte, list_all, position_or_len}
use Rattle.ely_base.specs.Names.{name_fault, name_or}
use Rattle.ely_base.specs.Refused.{◌>>=◌}
use Rattle.ely_base.proofs.NameLemmas.{no_fault}
use Rattle.ely_base.specs.declared.name.NameFault.{NameFault}
use Rattle.ely_scram_msg.specs.declared.fault.MsgFault.{MsgFault}
use Rattle.ely_scram_msg.specs.Located.{Located}
use Rattle.ely_scram_msg.specs.Fields.{located_from, begins, value_of, rest_of_value}
use Rattle.ely_scram_msg.specs.Saslnames.{bad_escape, unescaped, saslname_of, or_no_name, without_escape_fault}
use Rattle.ely_scram_msg.specs.Nonces.{nonce_of, printable_of, all_printable, is_printable}
use Rattle.ely_scram_msg.specs.Extensions.{is_extension, extension_of, extensions_of}
use Rattle.ely_scram_msg.specs.Grammar.{is_comma, no_commas, IsSaslnameOf, IsNonce, AreExtensions, extensions_text}
use Rattle.ely_scram_msg.proofs.EscapeLemmas.{first_found, name_reads}

-- ---- readings that go on, and tests

pub bind_ok : {A B : Type 0} (r : Result A MsgFault) (f : A → Result B MsgFault) (y : B) → (r >>= f) ≡ Ok y → (x : A) × (r ≡ Ok x) × (f x ≡ Ok y)
bind_ok (Ok x) f y h = (x, refl, h)
bind_ok (Err e) f y h = absurd cc

pub bind_is : {A B : Type 0} (r : Result A MsgFault) (f : A → Result B MsgFault) (x : A) (y : Result B MsgFault) → r ≡ Ok x → f x ≡ y → (r >>= f) ≡ y
bind_is r f x y h k = ap (λ o. o >>= f) h ∙ k

-- which way a test went
pub chosen : {X : Type 0} (b : Bool) (x y z : X) → cond b x y ≡ z → ((b ≡ true) × (x ≡ z)) ⊎ ((b ≡ false) × (y ≡ z))
chosen true x y z h = inl (refl, h)
chosen false x y z h = inr (refl, h)

pub guarded : {X : Type 0} (b : Bool) (e : MsgFault) (r : Result X MsgFault) (z : X) → cond b (Err e) r ≡ Ok z → (b ≡ false) × (r ≡ Ok z)
guarded true e r z h = absurd cc
guarded false e r z h = (refl, h)

pub not_true : (b : Bool) → not b ≡ true → b ≡ false
not_true true h = absurd cc
not_true false h = refl

not_false : (b : Bool) → not b ≡ false → b ≡ true
not_false true h = refl
not_false false h = absurd cc

or_parts : (a b : Bool) → (a || b) ≡ false → (a ≡ false) × (b ≡ false)
or_parts true b h = absurd cc
or_parts false b h = (refl, h)

-- ---- commas

lacks_onto : (x : ℕ) (parts : List (List ℕ)) → is_comma x ≡ false → no_commas parts ≡ true → no_commas (onto_first x parts) ≡ true
lacks_onto x [] no_x h = ap (λ b. not (b || false) && true) no_x
lacks_onto x (p ∷ ps) no_x h = ap (λ b. not (b || list_any is_comma p) && no_commas ps) no_x ∙ h

-- the parts between the commas have none
pub parts_lack : (xs : List ℕ) → no_commas (slice_split (λ b. b == 44) xs) ≡ true
parts_lack [] = refl
parts_lack (x ∷ xs) = elim (cases_Bool (x == 44)) [
  | inl is ↦ ap no_commas (cond-true (x == 44) ([] ∷ slice_split (λ b. b == 44) xs) _ is) ∙ parts_lack xs
  | inr other ↦ ap no_commas (cond-false (x == 44) _ (onto_first x (slice_split (λ b. b == 44) xs)) other) ∙ lacks_onto x _ other (parts_lack xs)
]

pub first_lacks : (t : List ℕ) (ts : List (List ℕ)) → no_commas (t ∷ ts) ≡ true → (list_any is_comma t ≡ false) × (no_commas ts ≡ true)
first_lacks t ts h =
    let both = and_parts (not (list_any is_comma t)) _ h in
    (not_true (list_any is_comma t) both.0, both.1)

pub joined : (t : List ℕ) (ts : List (List ℕ)) → join_with_byte 44 (t ∷ ts) ≡ t ++ extensions_text ts
joined t [] = sym (append-nil t)
joined t (e ∷ es) = ap (λ (xs : List ℕ). t ++ 44 ∷ xs) (joined e es)

none_any : (xs : List ℕ) → list_any is_comma xs ≡ false → (k d : ℕ) → k < length xs → (get_or xs k d == 44) ≡ false
none_any [] h k d within = absurd (omega arith)
none_any (x ∷ xs) h zero d within = (or_parts (x == 44) _ h).0
none_any (x ∷ xs) h (suc k) d within = none_any xs (or_parts (x == 44) _ h).1 k d (omega arith)

pub split_joined : (t : List ℕ) (ts : List (List ℕ)) → list_any is_comma t ≡ false → no_commas ts ≡ true → slice_split (λ b. b == 44) (join_with_byte 44 (t ∷ ts)) ≡ t ∷ ts
split_joined t [] lacks h = slice_split_none (λ b. b == 44) t (none_any t lacks)
split_joined t (e ∷ es) lacks h =
    let l = first_lacks e es h in
    slice_split_at (λ b. b == 44) t 44 (join_with_byte 44 (e ∷ es)) (none_any t lacks) refl ∙ ap (λ ts. t ∷ ts) (split_joined e es l.0 l.1)

-- ---- attributes

pub text_is : (letter : ℕ) (text : List ℕ) → begins letter text ≡ true → text ≡ letter ∷ 61 ∷ drop 2 text
text_is letter [] h = absurd cc
text_is letter (x ∷ []) h = absurd (grind (arith, nat_tests))
text_is letter (x ∷ y ∷ rest) h =
    let e : x ≡ letter = grind (arith, nat_tests) in
    let f : y ≡ 61 = grind (arith, nat_tests) in
    ap (λ z. z ∷ y ∷ rest) e ∙ ap (λ z. letter ∷ z ∷ rest) f

-- an attribute that is there
pub value_read : (letter : ℕ) (field part : Located) → value_of letter field ≡ Ok part → (part ≡ rest_of_value field) × (field.text ≡ letter ∷ 61 ∷ part.text)
value_read letter field part h =
    elim (chosen (begins letter field.text) (Ok (rest_of_value field)) _ (Ok part) h) [
      | inl here ↦
          let e : rest_of_value field ≡ part = cc (here.1) in
          (sym e, text_is letter field.text here.0 ∙ ap (λ (p : Located). letter ∷ 61 ∷ p.text) e)
      | inr other ↦ absurd (cc ((guarded (begins 109 field.text) _ _ part other.1).1))
    ]

pub begins_is : (letter : ℕ) (v : List ℕ) → begins letter (letter ∷ 61 ∷ v) ≡ true
begins_is letter v = grind (arith, nat_tests)

pub value_is : (letter offset : ℕ) (v : List ℕ) → value_of letter (record { offset = offset; text = letter ∷ 61 ∷ v }) ≡ Ok (record { offset = offset + 2; text = v })
value_is letter offset v = cond-true (begins letter (letter ∷ 61 ∷ v)) _ _ (begins_is letter v)

-- ---- saslnames

abbrev ok_bytes : List ℕ → Result (List ℕ) NameFault
ok_bytes xs = Ok xs

name_read : (offset : ℕ) (o : Option NameFault) (bytes name : List ℕ) → or_no_name offset (name_or o bytes) ≡ Ok name → (name ≡ bytes) × (o ≡ None)
name_read offset None bytes name h = (cc, refl)
name_read offset (Some f) bytes name h = absurd cc

pub saslname_read : (part : Located) (name : List ℕ) → list_any is_comma part.text ≡ false → saslname_of part ≡ Ok name → IsSaslnameOf part.text name
saslname_read part name lacks h = of (bad_escape part.text) refl h
  where
    of : (o : Option ℕ) → bad_escape part.text ≡ o → without_escape_fault part o ≡ Ok name → IsSaslnameOf part.text name
    of None e h =
        let n = name_read part.offset (name_fault (unescaped part.text)) (unescaped part.text) name h in
        record {
          no_comma = lacks;
          is_saslname = record { escapes = e; name = no_fault (unescaped part.text) n.1 };
          stands_for = n.0;
        }
    of (Some i) e h = absurd cc

pub saslname_is : (offset : ℕ) (v name : List ℕ) → IsSaslnameOf v name → saslname_of (record { offset = offset; text = v }) ≡ Ok name
saslname_is offset v name s =
    ap (without_escape_fault (record { offset = offset; text = v })) s.is_saslname.escapes
    ∙ ap (or_no_name offset) (name_reads (unescaped v) s.is_saslname.name ∙ ap ok_bytes (sym s.stands_for))

-- ---- nonces

some_found : (b : Bool) (i : ℕ) → cond b (Some i) None ≡ None → b ≡ false
some_found true i h = absurd cc
some_found false i h = refl

all_pass : (xs : List ℕ) → list_any (λ b. not (is_printable b)) xs ≡ false → list_all is_printable xs ≡ true
all_pass [] h = refl
all_pass (x ∷ xs) h =
    let both = or_parts (not (is_printable x)) _ h in
    ap (λ b. b && list_all is_printable xs) (not_false (is_printable x) both.0) ∙ all_pass xs both.1

none_fails : (xs : List ℕ) → list_all is_printable xs ≡ true → list_any (λ b. not (is_printable b)) xs ≡ false
none_fails [] h = refl
none_fails (x ∷ xs) h =
    let both = and_parts (is_printable x) _ h in
    ap (λ b. not b || list_any (λ c. not (is_printable c)) xs) both.0 ∙ none_fails xs both.1

-- no printable byte is a comma
printable_lacks : (xs : List ℕ) → list_all is_printable xs ≡ true → list_any is_comma xs ≡ false
printable_lacks [] h = refl
printable_lacks (x ∷ xs) h =
    let both = and_parts (is_printable x) _ h in
    ap (λ b. b || list_any is_comma xs) (other x both.0) ∙ printable_lacks xs both.1
  where
    other : (x : ℕ) → is_printable x ≡ true → is_comma x ≡ false
    other x h = grind (arith, nat_tests)

pub nonce_lacks : (nonce : List ℕ) → IsNonce nonce → list_any is_comma nonce ≡ false
nonce_lacks nonce n = printable_lacks nonce n.printable

printable_read : (part : Located) (nonce : List ℕ) (o : Option ℕ) → all_printable part o ≡ Ok nonce → (o ≡ None) × (part.text ≡ nonce)
printable_read part nonce None h = (refl, cc)
printable_read part nonce (Some i) h = absurd cc

pub nonce_read : (field : Located) (nonce : List ℕ) → nonce_of field ≡ Ok nonce → (field.text ≡ 114 ∷ 61 ∷ nonce) × IsNonce nonce
nonce_read field nonce h =
    let v = bind_ok (value_of 114 field) printable_of nonce h in
    let text = v.0.text in
    let first = position_or_len (λ b. not (is_printable b)) text in
    let g = guarded (eqb (length text) 0) _ (all_printable v.0 (position (λ b. not (is_printable b)) text)) nonce v.2 in
    let p = printable_read v.0 nonce (position (λ b. not (is_printable b)) text) g.1 in
    let some : 0 < length text = let t = g.0 in grind (arith, nat_tests) in
    let found : ltb first (length text) ≡ false = some_found (ltb first (length text)) first p.0 in
    let all : list_all is_printable text ≡ true = all_pass text (sym (first_found (λ b. not (is_printable b)) text) ∙ found) in
    ((value_read 114 field v.0 v.1).1 ∙ ap (λ (xs : List ℕ). 114 ∷ 61 ∷ xs) p.1, subst IsNonce p.1 (record { some = some; printable = all }))

pub nonce_is : (offset : ℕ) (n : List ℕ) → IsNonce n → nonce_of (record { offset = offset; text = 114 ∷ 61 ∷ n }) ≡ Ok n
nonce_is offset n is =
    let first = position_or_len (λ b. not (is_printable b)) n in
    let some = is.some in
    let printable : position (λ b. not (is_printable b)) n ≡ None = ap (λ b. cond b (Some first) None) (first_found (λ b. not (is_printable b)) n ∙ none_fails n is.printable) in
    bind_is _ _ _ (Ok n) (value_is 114 offset n)
    (cond-false (eqb (length n) 0) _ _ (grind (arith, nat_tests)) ∙ ap (all_printable (record { offset = offset + 2; text = n })) printable)

-- ---- extensions

pub extension_read : (field : Located) (u : Unit {0}) → extension_of field ≡ Ok u → (begins 109 field.text ≡ false) × (is_extension field.text ≡ true)
extension_read field u h =
    let g = guarded (begins 109 field.text) _ _ u h in
    elim (chosen (is_extension field.text) (Ok tt) _ (Ok u) g.1) [
      | inl good ↦ (g.0, good.0)
      | inr bad ↦ absurd (cc (bad.1))
    ]

pub extension_is : (field : Located) → begins 109 field.text ≡ false → is_extension field.text ≡ true → extension_of field ≡ Ok tt
extension_is field h k = cond-false (begins 109 field.text) _ _ h ∙ cond-true (is_extension field.text) _ _ k

-- one more extension
pub extension_more : (t : List ℕ) (ts : List (List ℕ)) → begins 109 t ≡ false → is_extension t ≡ true → list_any is_comma t ≡ false → AreExtensions ts → AreExtensions (t ∷ ts)
extension_more t ts reserved is lacks more = record {
  attributes = ap (λ b. b && list_all is_extension ts) is ∙ more.attributes;
  none_reserved = ap (λ b. not b && list_all (λ e. not (begins 109 e)) ts) reserved ∙ more.none_reserved;
  no_comma = ap (λ b. not b && no_commas ts) lacks ∙ more.no_comma;
}

pub record FirstExtension (t : List ℕ) (ts : List (List ℕ)) : Type 0 where
  pub reserved : begins 109 t ≡ false
  pub is : is_extension t ≡ true
  pub more : AreExtensions ts

pub first_extension : (t : List ℕ) (ts : List (List ℕ)) → AreExtensions (t ∷ ts) → FirstExtension t ts
first_extension t ts h =
    let a = and_parts (is_extension t) _ h.attributes in
    let b = and_parts (not (begins 109 t)) _ h.none_reserved in
    record {
      reserved = not_true (begins 109 t) b.0;
      is = a.0;
      more = record { attributes = a.1; none_reserved = b.1; no_comma = (first_lacks t ts h.no_comma).1 };
    }

pub extensions_read : (offset : ℕ) (texts : List (List ℕ)) (u : Unit {0}) → no_commas texts ≡ true → extensions_of (located_from offset texts) ≡ Ok u → AreExtensions texts
extensions_read offset [] u lack h = record { attributes = refl; none_reserved = refl; no_comma = refl }
extensions_read offset (t ∷ ts) u lack h =
    let one = bind_ok (extension_of (record { offset = offset; text = t })) _ u h in
    let e = extension_read (record { offset = offset; text = t }) one.0 one.1 in
    let l = first_lacks t ts lack in
    extension_more t ts e.0 e.1 l.0 (extensions_read (offset + length t + 1) ts u l.1 one.2)

pub extensions_are : (offset : ℕ) (ts : List (List ℕ)) → AreExtensions ts → extensions_of (located_from offset ts) ≡ Ok tt
extensions_are offset [] h = refl
extensions_are offset (t ∷ ts) h =
    let f = first_extension t ts h in
    bind_is (extension_of (record { offset = offset; text = t })) _ tt (Ok tt) (extension_is (record { offset = offset; text = t }) f.reserved f.is) (extensions_are (offset + length t + 1) ts f.more)
