-- A list in the grammar is read.
use Rattle.std.proofs.Common.{◌≡◌, ◌≢◌, ◌⊎◌, ℕ, zero, suc, ◌+◌, ◌<◌, Bool, true, false, List, [], ◌∷◌, ◌++◌, length, take, drop, Option, Some, None, Result, Ok, Err, refl, sym, ap, ap₂, subst, ◌∙◌, arith, ⊎_elim, cond, eqb, ◌||◌, length-append, append_assoc}
use Rattle.std.proofs.lemmas.Bool.{cases_Bool, cond-true, cond-false, and_parts}
use Rattle.std.proofs.lemmas.Bool.Decides.{nat_tests}
use Rattle.std.proofs.lemmas.List.{append-nil}
use Rattle.std.specs.List.{prefix_len, take_while, list_all}
use Rattle.std.specs.Option.{ok_or}
use Rattle.ely_base.specs.Refused.{◌>>=◌}
use Rattle.ely_base.specs.Blanks.{is_blank}
use Rattle.ely_digest_msg.specs.Parts.{is_gap, is_token, after, starts, with_byte, quoted_of, token_of, equals_of, value_of, end_of, offset}
use Rattle.ely_digest_msg.specs.Fields.{Values, known, nothing}
use Rattle.ely_digest_msg.specs.Members.{first_time, kept, member_of, members_of, list_of}
use Rattle.ely_digest_msg.specs.Grammar.{IsToken, Quotes, IsQuotedText, IsValue, Member, IsMember, BeginsWith, IsListOf, IsNew, AreNew, values_with}
use Rattle.ely_digest_msg.specs.Grammar.Quotes.{none, plain, escape}
use Rattle.ely_digest_msg.specs.declared.fault.DigestFault.{DigestFault}
use Rattle.ely_digest_msg.specs.declared.fault.DigestFault.TheVariants.{Token, Quote}
use Rattle.ely_digest_msg.specs.declared.fault.DigestField.{DigestField}
use Rattle.ely_digest_msg.proofs.MemberLemmas.{members_end, members_next}

clash : true ≡ false → ⊥
clash h = cc

-- the text begins with no byte that passes
abbrev pub Stops : (ℕ → Bool) → List ℕ → Type 0
Stops p [] = Unit {0}
Stops p (c ∷ cs) = p c ≡ false

pub cut_len : (p : ℕ → Bool) (prefix rest : List ℕ) → list_all p prefix ≡ true → Stops p rest → prefix_len p (prefix ++ rest) ≡ length prefix
cut_len p [] [] h s = refl
cut_len p [] (c ∷ cs) h s = cond-false _ _ _ s
cut_len p (b ∷ prefix) rest h s =
    let parts = and_parts (p b) (list_all p prefix) h in
    let one : 1 + length prefix ≡ suc (length prefix) = omega arith in
    cond-true (p b) (1 + prefix_len p (prefix ++ rest)) 0 parts.0 ∙ ap (λ (n : ℕ). 1 + n) (cut_len p prefix rest parts.1 s) ∙ one

pub take_prefix : (prefix rest : List ℕ) → take (length prefix) (prefix ++ rest) ≡ prefix
take_prefix [] rest = refl
take_prefix (b ∷ prefix) rest = ap (λ (xs : List ℕ). b ∷ xs) (take_prefix prefix rest)

pub drop_prefix : (prefix rest : List ℕ) → drop (length prefix) (prefix ++ rest) ≡ rest
drop_prefix [] rest = refl
drop_prefix (b ∷ prefix) rest = drop_prefix prefix rest

pub cut_take : (p : ℕ → Bool) (prefix rest : List ℕ) → list_all p prefix ≡ true → Stops p rest → take_while p (prefix ++ rest) ≡ prefix
cut_take p prefix rest h s = ap (λ (n : ℕ). take n (prefix ++ rest)) (cut_len p prefix rest h s) ∙ take_prefix prefix rest

pub cut_after : (p : ℕ → Bool) (prefix rest : List ℕ) → list_all p prefix ≡ true → Stops p rest → after p (prefix ++ rest) ≡ rest
cut_after p prefix rest h s = ap (λ (n : ℕ). drop n (prefix ++ rest)) (cut_len p prefix rest h s) ∙ drop_prefix prefix rest

blank_cases : (b : ℕ) → is_blank b ≡ true → (b ≡ 32) ⊎ (b ≡ 9)
blank_cases b h = grind (arith, nat_tests)

gap_cases : (b : ℕ) → is_gap b ≡ true → (b ≡ 32) ⊎ ((b ≡ 9) ⊎ (b ≡ 44))
gap_cases b h = grind (arith, nat_tests)

pub blank_no_token : (b : ℕ) → is_blank b ≡ true → is_token b ≡ false
blank_no_token b h = ⊎_elim
    (λ (e : b ≡ 32). ap is_token e)
    (λ (e : b ≡ 9). ap is_token e)
    (blank_cases b h)

pub token_no_gap : (b : ℕ) → is_token b ≡ true → is_gap b ≡ false
token_no_gap b h = ⊎_elim
    (λ (yes : is_gap b ≡ true). ⊎_elim
    (λ (e : b ≡ 32). let f : true ≡ false = sym h ∙ ap is_token e in absurd cc)
    (λ (e : (b ≡ 9) ⊎ (b ≡ 44)). ⊎_elim
    (λ (f : b ≡ 9). let g : true ≡ false = sym h ∙ ap is_token f in absurd cc)
    (λ (f : b ≡ 44). let g : true ≡ false = sym h ∙ ap is_token f in absurd cc) e)
    (gap_cases b yes))
    (λ (other : is_gap b ≡ false). other)
    (cases_Bool (is_gap b))

pub token_no_blank : (b : ℕ) → is_token b ≡ true → is_blank b ≡ false
token_no_blank b h = let g = token_no_gap b h in grind (arith, nat_tests)

-- blanks end a token
pub blanks_stop : (blanks rest : List ℕ) → list_all is_blank blanks ≡ true → Stops is_token rest → Stops is_token (blanks ++ rest)
blanks_stop [] rest h s = s
blanks_stop (b ∷ blanks) rest h s = blank_no_token b (and_parts _ _ h).0

-- a token begins with no blank and no comma
pub token_stops : (p : ℕ → Bool) (token rest : List ℕ) → ((b : ℕ) → is_token b ≡ true → p b ≡ false) → IsToken token → Stops p (token ++ rest)
token_stops p [] rest f t = absurd (omega (arith, t.0))
token_stops p (b ∷ bs) rest f t = f b (and_parts _ _ t.1).0

pub reads_token : (size : ℕ) (token rest : List ℕ) → IsToken token → Stops is_token rest → token_of size (token ++ rest) ≡ Ok (token, rest)
reads_token size token rest t s =
    let len = cut_len is_token token rest t.1 s in
    let some : eqb (prefix_len is_token (token ++ rest)) 0 ≡ false = rw len (let pos = t.0 in grind (arith, nat_tests)) in
    cond-false _ _ _ some ∙ ap₂ (λ (xs ys : List ℕ). let r : Result (List ℕ × List ℕ) DigestFault = Ok (xs, ys) in r) (cut_take is_token token rest t.1 s) (cut_after is_token token rest t.1 s)

-- a tail: the end, or a comma
abbrev pub IsTail : List ℕ → Type 0
IsTail [] = Unit {0}
IsTail (c ∷ cs) = c ≡ 44

tail_no_token : (tail : List ℕ) → IsTail tail → Stops is_token tail
tail_no_token [] h = tt
tail_no_token (c ∷ cs) h = ap is_token h

tail_no_blank : (tail : List ℕ) → IsTail tail → Stops is_blank tail
tail_no_blank [] h = tt
tail_no_blank (c ∷ cs) h = ap is_blank h

-- quoted bytes are read
pub reads_quotes : {raw value : List ℕ} (rest : List ℕ) → Quotes raw value → quoted_of (raw ++ 34 ∷ rest) ≡ Some (value, rest)
reads_quotes [] none = refl
reads_quotes (c ∷ rest) none = refl
reads_quotes rest (plain {b} {raw} {value} e f q) = plain_step b (raw ++ 34 ∷ rest) e f ∙ ap (with_byte b) (reads_quotes rest q)
  where
    plain_step : (b : ℕ) (text : List ℕ) → b ≢ 34 → b ≢ 92 → quoted_of (b ∷ text) ≡ with_byte b (quoted_of text)
    plain_step b [] e f = let k : eqb b 34 ≡ false = grind (arith, nat_tests) in cond-false _ _ _ k
    plain_step b (c ∷ text) e f =
        let k : eqb b 34 ≡ false = grind (arith, nat_tests) in
        let l : eqb b 92 ≡ false = grind (arith, nat_tests) in
        cond-false _ _ _ k ∙ cond-false _ _ _ l
reads_quotes rest (escape {b} {c} {raw} {value} e q) =
    let k : eqb b 34 ≡ false = grind (arith, nat_tests) in
    let l : eqb b 92 ≡ true = grind (arith, nat_tests) in
    cond-false _ _ _ k ∙ cond-true _ _ _ l ∙ ap (with_byte c) (reads_quotes rest q)

-- a value begins with no blank
value_no_blank : (raw value rest : List ℕ) → IsValue raw value → Stops is_blank (raw ++ rest)
value_no_blank raw value rest v = ⊎_elim
    (λ (t : IsToken raw × (raw ≡ value)). token_stops is_blank raw rest token_no_blank t.0)
    (λ (q : IsQuotedText raw value). subst (λ (xs : List ℕ). Stops is_blank (xs ++ rest)) (sym q.whole) refl)
    v

token_no_quote : (token rest : List ℕ) → IsToken token → starts 34 (token ++ rest) ≡ false
token_no_quote [] rest t = absurd (omega (arith, t.0))
token_no_quote (b ∷ bs) rest t = ⊎_elim
    (λ (yes : eqb b 34 ≡ true).
    let e : b ≡ 34 = grind (arith, nat_tests) in
    absurd (clash (sym (and_parts (is_token b) (list_all is_token bs) t.1).0 ∙ ap is_token e)))
    (λ (other : eqb b 34 ≡ false). other)
    (cases_Bool (eqb b 34))

reads_quoted : (size : ℕ) (inner value rest : List ℕ) → Quotes inner value → value_of size ((34 ∷ (inner ++ 34 ∷ [])) ++ rest) ≡ Ok (value, rest)
reads_quoted size inner value rest q =
    ap (λ (o : Option (List ℕ × List ℕ)). ok_or o (Quote (offset size ((34 ∷ (inner ++ 34 ∷ [])) ++ rest))))
    (ap quoted_of (append_assoc inner (34 ∷ []) rest) ∙ reads_quotes rest q)

pub reads_value : (size : ℕ) (raw value rest : List ℕ) → IsValue raw value → Stops is_token rest → value_of size (raw ++ rest) ≡ Ok (value, rest)
reads_value size raw value rest v s = ⊎_elim
    (λ (t : IsToken raw × (raw ≡ value)).
    cond-false (starts 34 (raw ++ rest)) (ok_or (quoted_of (drop 1 (raw ++ rest))) (Quote (offset size (raw ++ rest)))) (token_of size (raw ++ rest)) (token_no_quote raw rest t.0)
    ∙ reads_token size raw rest t.0 s
    ∙ ap (λ (xs : List ℕ). let r : Result (List ℕ × List ℕ) DigestFault = Ok (xs, rest) in r) t.1)
    (λ (q : IsQuotedText raw value). subst (λ (xs : List ℕ). value_of size (xs ++ rest) ≡ Ok (value, rest)) (sym q.whole) (reads_quoted size q.inner value rest q.quotes))
    v

pub reads_equals : (size : ℕ) (before behind rest : List ℕ) → list_all is_blank before ≡ true → list_all is_blank behind ≡ true → Stops is_blank rest → equals_of size (before ++ 61 ∷ (behind ++ rest)) ≡ Ok rest
reads_equals size before behind rest h k s =
    let text = before ++ 61 ∷ (behind ++ rest) in
    let cut : after is_blank text ≡ 61 ∷ (behind ++ rest) = cut_after is_blank before (61 ∷ (behind ++ rest)) h refl in
    let yes : starts 61 (after is_blank text) ≡ true = ap (starts 61) cut in
    cond-true (starts 61 (after is_blank text)) (Ok (after is_blank (drop 1 (after is_blank text)))) (Err (Token (offset size (after is_blank text)))) yes
    ∙ ap (λ (xs : List ℕ). let r : Result (List ℕ) DigestFault = Ok (after is_blank (drop 1 xs)) in r) cut
    ∙ ap (λ (xs : List ℕ). let r : Result (List ℕ) DigestFault = Ok xs in r) (cut_after is_blank behind rest k s)

tail_ends : (tail : List ℕ) → IsTail tail → ((eqb (length tail) 0) || starts 44 tail) ≡ true
tail_ends [] h = refl
tail_ends (c ∷ cs) h =
    let long : eqb (suc (length cs)) 0 ≡ false = grind (arith, nat_tests) in
    let comma : eqb c 44 ≡ true = grind (arith, nat_tests) in
    rw (long, comma) refl

pub reads_end : (size : ℕ) (blanks tail : List ℕ) → list_all is_blank blanks ≡ true → IsTail tail → end_of size (blanks ++ tail) ≡ Ok tail
reads_end size blanks tail h t =
    let cut = cut_after is_blank blanks tail h (tail_no_blank tail t) in
    let text = after is_blank (blanks ++ tail) in
    let yes : (eqb (length text) 0 || starts 44 text) ≡ true = ap (λ (xs : List ℕ). eqb (length xs) 0 || starts 44 xs) cut ∙ tail_ends tail t in
    cond-true (eqb (length text) 0 || starts 44 text) (Ok text) (Err (Token (offset size text))) yes
    ∙ ap (λ (xs : List ℕ). let r : Result (List ℕ) DigestFault = Ok xs in r) cut

first_is : (values : Values) (field : Option DigestField) → IsNew values field → first_time values field ≡ Ok field
first_is values None h = refl
first_is values (Some f) h = cond-false _ _ _ h

-- steps of a `do`
step : {A B : Type 0} {r : Result A DigestFault} {x : A} (f : A → Result B DigestFault) → r ≡ Ok x → (r >>= f) ≡ f x
step f h = ap (λ r. r >>= f) h

pub reads_member : (size : ℕ) (values : Values) (m : Member) (member blanks tail : List ℕ) → IsMember m member → list_all is_blank blanks ≡ true → IsTail tail → IsNew values (known m.0) → member_of size values (member ++ (blanks ++ tail)) ≡ Ok (kept (known m.0) m.1 values, tail)
reads_member size values m member blanks tail is h t fresh =
    let rest = blanks ++ tail in
    let rest_stops : Stops is_token rest = blanks_stop blanks tail h (tail_no_token tail t) in
    let equals = is.before ++ 61 ∷ (is.behind ++ (is.raw ++ rest)) in
    let regroup : member ++ rest ≡ m.0 ++ equals =
    ap (λ (xs : List ℕ). xs ++ rest) is.whole ∙ append_assoc m.0 (is.before ++ 61 ∷ (is.behind ++ is.raw)) rest
    ∙ ap (λ (xs : List ℕ). m.0 ++ xs) (append_assoc is.before (61 ∷ (is.behind ++ is.raw)) rest ∙ ap (λ (xs : List ℕ). is.before ++ 61 ∷ xs) (append_assoc is.behind is.raw rest)) in
    let a = reads_token size m.0 equals is.name (blanks_stop is.before (61 ∷ (is.behind ++ (is.raw ++ rest))) is.before_blank refl) in
    let b = first_is values (known m.0) fresh in
    let c = reads_equals size is.before is.behind (is.raw ++ rest) is.before_blank is.behind_blank (value_no_blank is.raw m.1 rest is.value) in
    let d = reads_value size is.raw m.1 rest is.value rest_stops in
    let e = reads_end size blanks tail h t in
    ap (member_of size values) regroup
    ∙ rw (a, b, c, d, e) refl

-- lists
after_comma : (rest : List ℕ) → after is_gap (44 ∷ rest) ≡ after is_gap rest
after_comma rest = let one : 1 + prefix_len is_gap rest ≡ suc (prefix_len is_gap rest) = omega arith in ap (λ (n : ℕ). drop n (44 ∷ rest)) one

pub members_comma : (k size : ℕ) (values : Values) (rest : List ℕ) → members_of (suc k) size values (44 ∷ rest) ≡ members_of (suc k) size values rest
unfolding members_of
members_comma k size values rest = ap (λ (xs : List ℕ). cond (eqb (length xs) 0) (Ok values) (member_of size values xs >>= (λ m. members_of k size m.0 m.1))) (after_comma rest)

gap_over : (text : List ℕ) → list_all is_gap text ≡ true → after is_gap text ≡ []
gap_over text h = ap (after is_gap) (sym (append-nil text)) ∙ cut_after is_gap text [] h tt

pub one_more : (m n : ℕ) → m < n → (k : ℕ) × (n ≡ suc k)
one_more m zero h = absurd (omega arith)
one_more m (suc k) h = (k, refl)

pub at_end : (n size : ℕ) (values : Values) (text : List ℕ) → length text < n → list_all is_gap text ≡ true → members_of n size values text ≡ Ok values
at_end n size values text h g =
    let k = one_more (length text) n h in
    ap (λ (i : ℕ). members_of i size values text) k.1 ∙ members_end k.0 size values text [] (sym (gap_over text g)) refl

member_some : (m : Member) (member : List ℕ) → IsMember m member → 0 < length member
member_some m member is = omega (arith, ap length is.whole, length-append m.0 (is.before ++ 61 ∷ (is.behind ++ is.raw)), is.name.0)

member_stops : (m : Member) (member rest : List ℕ) → IsMember m member → Stops is_gap (member ++ rest)
member_stops m member rest is =
    subst (λ (xs : List ℕ). Stops is_gap xs) (sym (ap (λ (xs : List ℕ). xs ++ rest) is.whole ∙ append_assoc m.0 (is.before ++ 61 ∷ (is.behind ++ is.raw)) rest))
    (token_stops is_gap m.0 ((is.before ++ 61 ∷ (is.behind ++ is.raw)) ++ rest) token_no_gap is.name)

pub shorter_tail : (m : Member) (text tail : List ℕ) → BeginsWith m text tail → length tail < length text
shorter_tail m text tail b =
    omega (arith, ap length b.whole, length-append b.gap (b.member ++ (b.blanks ++ tail)), length-append b.member (b.blanks ++ tail), length-append b.blanks tail, member_some m b.member b.is_member)

pub one_member : (k size : ℕ) (values : Values) (m : Member) (text tail : List ℕ) → BeginsWith m text tail → IsTail tail → IsNew values (known m.0) → members_of (suc k) size values text ≡ members_of k size (kept (known m.0) m.1 values) tail
one_member k size values m text tail b t fresh =
    let rest = b.member ++ (b.blanks ++ tail) in
    let cut : rest ≡ after is_gap text = sym (ap (after is_gap) b.whole ∙ cut_after is_gap b.gap rest b.gap_all (member_stops m b.member (b.blanks ++ tail) b.is_member)) in
    let some : length rest ≢ 0 = omega (arith, length-append b.member (b.blanks ++ tail), member_some m b.member b.is_member) in
    members_next k size values text rest cut (kept (known m.0) m.1 values) tail some (sym (reads_member size values m b.member b.blanks tail b.is_member b.blanks_all t fresh))

pub complete : (ms : List Member) (n size : ℕ) (values : Values) (text : List ℕ) → length text < n → IsListOf ms text → AreNew values ms → members_of n size values text ≡ Ok (values_with values ms)
complete [] n size values text h g fresh = at_end n size values text h g
complete (m ∷ ms) n size values text h l fresh =
    let k = one_more (length text) n h in
    ap (λ (i : ℕ). members_of i size values text) k.1 ∙ ⊎_elim
    (λ (last : BeginsWith m text [] × (ms ≡ [])).
    let less = shorter_tail m text [] last.0 in
    one_member k.0 size values m text [] last.0 tt fresh.0
    ∙ at_end k.0 size (kept (known m.0) m.1 values) [] (omega (arith, k.1, h, less)) refl
    ∙ ap (λ (xs : List Member). let r : Result Values DigestFault = Ok (values_with (kept (known m.0) m.1 values) xs) in r) (sym last.1))
    (λ (more : (rest : List ℕ) × BeginsWith m text (44 ∷ rest) × IsListOf ms rest).
    let less : suc (length more.0) < length text = shorter_tail m text (44 ∷ more.0) more.1 in
    let j = one_more (length more.0) k.0 (omega (arith, k.1, h, less)) in
    one_member k.0 size values m text (44 ∷ more.0) more.1 refl fresh.0
    ∙ ap (λ (i : ℕ). members_of i size (kept (known m.0) m.1 values) (44 ∷ more.0)) j.1
    ∙ members_comma j.0 size (kept (known m.0) m.1 values) more.0
    ∙ ap (λ (i : ℕ). members_of i size (kept (known m.0) m.1 values) more.0) (sym j.1)
    ∙ complete ms k.0 size (kept (known m.0) m.1 values) more.0 (omega (arith, k.1, h, less)) more.2 fresh.1)
    l

pub reads_lists : (size : ℕ) (text : List ℕ) (ms : List Member) → IsListOf ms text → AreNew nothing ms → list_of size text ≡ Ok (values_with nothing ms)
reads_lists size text ms l fresh = complete ms (length text + 1) size nothing text (omega arith) l fresh
