-- Places and their codes.
use Rattle.std.proofs.Common.{◌≡◌, ◌||◌, if◌then◌else◌, ℕ, Bool, not, List, [], ◌∷◌, ◌++◌, refl, sym, ap, ap₂, ◌∙◌, true, Decides, ◌==◌, length, take, drop, nat_eq, append-nil, append_assoc}
use Rattle.std.specs.Cmp.{both_ways, first_so, second_so}
use Rattle.std.specs.List.{list_any}
use Rattle.std.specs.Str.{bytes_eq}
use Rattle.std.proofs.lemmas.Slice.Eq.{bytes_eq-Decides, starts_is}
use Rattle.std.proofs.lemmas.Bool.{eq-eqb, eqb-true}
use Rattle.std.proofs.lemmas.List.{take_at}
use Rattle.ely_row.specs.declared.edit.Edit.{Edit}
use Rattle.ely_row.specs.declared.edit.Edit.TheVariants.{Add, Remove, SetCred, DropCred, SetAttr, DropAttr, Reload}
use Rattle.ely_row.specs.declared.mech.Mech.{Mech}
use Rattle.ely_row.specs.declared.mech.Mech.TheVariants.{Plain, ScramSha1, ScramSha256, Digest, DigestSha256}
use Rattle.ely_row.specs.Edits.{is_of, is_place}
use Rattle.ely_row.specs.Dependence.{touches}
use Rattle.ely_cache.specs.declared.entry.Entry.{Entry}
use Rattle.ely_cache.specs.Codes.{begins_with, key_of, mech_code, place_code, sized, touched_code}
use Rattle.ely_cache.specs.Entries.{untouched}
use Rattle.ely_cache.specs.Tied.{not_resting_under}

head_is : (xs ys : List ℕ) (x y : ℕ) → x ∷ xs ≡ y ∷ ys → (x ≡ y) × (xs ≡ ys)
head_is xs ys x y e = (let h : x ∷ xs ≡ y ∷ ys = e in (cc), let h : x ∷ xs ≡ y ∷ ys = e in (cc))

drop_at : (xs ys : List ℕ) → drop (length xs) (xs ++ ys) ≡ ys
drop_at [] ys = refl
drop_at (x ∷ xs) ys = drop_at xs ys

-- a name behind its length is told from what follows
sized_head : (a b xs ys : List ℕ) → sized a ++ xs ≡ sized b ++ ys → (a ≡ b) × (xs ≡ ys)
sized_head a b xs ys e =
    let parts = head_is (a ++ xs) (b ++ ys) (length a) (length b) e in (
      sym (take_at a xs (length a) refl) ∙ ap₂ (λ (i : ℕ) (zs : List ℕ). take i zs) parts.0 parts.1 ∙ take_at b ys (length b) refl,
      sym (drop_at a xs) ∙ ap₂ (λ (i : ℕ) (zs : List ℕ). drop i zs) parts.0 parts.1 ∙ drop_at b ys,
    )

sized_is : (a b ys : List ℕ) → sized a ≡ sized b ++ ys → a ≡ b
sized_is a b ys e = (sized_head a b [] ys (append-nil (sized a) ∙ e)).0

-- a code is that of one place
pub same_place : (r n realm name : List ℕ) → place_code r n ≡ place_code realm name → (r ≡ realm) × (n ≡ name)
same_place r n realm name e =
    let parts = sized_head r realm (sized n) (sized name) e in
    (parts.0, sized_is n name [] (parts.1 ∙ sym (append-nil (sized name))))

-- the mechanism of a number
abbrev mech_of : ℕ → Mech
mech_of n = if n == 0 then Plain else (if n == 1 then ScramSha1 else (if n == 2 then ScramSha256 else (if n == 3 then Digest else DigestSha256)))

mech_of-code : (mech : Mech) → mech_of (mech_code mech) ≡ mech
mech_of-code Plain = refl
mech_of-code ScramSha1 = refl
mech_of-code ScramSha256 = refl
mech_of-code Digest = refl
mech_of-code DigestSha256 = refl

-- a key is that of one name and mechanism
pub same_key_of : (name other : List ℕ) (mech another : Mech) → key_of name mech ≡ key_of other another → (name ≡ other) × (mech ≡ another)
same_key_of name other mech another e = let parts = head_is name other (mech_code mech) (mech_code another) e in (parts.1, sym (mech_of-code mech) ∙ ap mech_of parts.0 ∙ mech_of-code another)

-- ---- what the codes begin with

bytes_decide : (a b : ℕ) → Decides (nat_eq a b) (a ≡ b)
bytes_decide a b = (eqb-true a b, eq-eqb a b)

begun : (start code : List ℕ) → begins_with start code ≡ true → code ≡ start ++ drop (length start) code
begun start code = (starts_is bytes_decide code start (begins_with start code) refl).0

begins : (start code rest : List ℕ) → code ≡ start ++ rest → begins_with start code ≡ true
begins start code = (starts_is bytes_decide code start (begins_with start code) refl).1

bytes_is : (a b : List ℕ) → bytes_eq a b ≡ true → a ≡ b
bytes_is a b = (bytes_eq-Decides a b).0

is_bytes : (a b : List ℕ) → a ≡ b → bytes_eq a b ≡ true
is_bytes a b = (bytes_eq-Decides a b).1

-- the code of a place begins with that of no other
place_begins : (realm name r n : List ℕ) → begins_with (place_code realm name) (place_code r n) ≡ is_place r n realm name
place_begins realm name r n = both_ways (begins_with (place_code realm name) (place_code r n)) (is_place r n realm name)
    (λ e.
    let rest = drop (length (place_code realm name)) (place_code r n) in
    let parts = sized_head r realm (sized n) (sized name ++ rest) (begun (place_code realm name) (place_code r n) e ∙ append_assoc (sized realm) (sized name) rest) in
    rw (is_bytes realm r (sym parts.0), is_bytes name n (sym (sized_is n name rest parts.1))) refl)
    (λ e.
    let same_realm = bytes_is realm r (first_so (bytes_eq realm r) (bytes_eq name n) e) in
    let same_name = bytes_is name n (second_so (bytes_eq realm r) (bytes_eq name n) e) in
    begins (place_code realm name) (place_code r n) [] (ap₂ place_code (sym same_realm) (sym same_name) ∙ sym (append-nil (place_code realm name))))

-- the codes of all places of a realm begin with it, and no others
realm_begins : (realm r n : List ℕ) → begins_with (sized realm ++ []) (place_code r n) ≡ bytes_eq realm r
realm_begins realm r n = both_ways (begins_with (sized realm ++ []) (place_code r n)) (bytes_eq realm r)
    (λ e.
    let rest = drop (length (sized realm ++ [])) (place_code r n) in
    is_bytes realm r (sym (sized_head r realm (sized n) rest (begun (sized realm ++ []) (place_code r n) e ∙ append_assoc (sized realm) [] rest)).0))
    (λ e. begins (sized realm ++ []) (place_code r n) (sized n) (ap (λ (b : List ℕ). sized b ++ sized n) (sym (bytes_is realm r e)) ∙ sym (append_assoc (sized realm) [] (sized n))))

of-coded : (edit : Edit) (r n : List ℕ) → begins_with (touched_code edit) (place_code r n) ≡ is_of r n edit
of-coded (Add realm name) r n = place_begins realm name r n
of-coded (Remove realm name) r n = place_begins realm name r n
of-coded (SetCred realm name slot cred) r n = place_begins realm name r n
of-coded (DropCred realm name slot) r n = place_begins realm name r n
of-coded (SetAttr realm name attr values) r n = place_begins realm name r n
of-coded (DropAttr realm name attr) r n = place_begins realm name r n
of-coded (Reload realm users groups) r n = realm_begins realm r n

touches-coded : (edit : Edit) (places : List (List ℕ × List ℕ)) → list_any (λ d. begins_with (touched_code edit) (place_code d.0 d.1)) places ≡ touches edit places
touches-coded edit [] = refl
touches-coded edit (d ∷ ds) = rw (of-coded edit d.0 d.1) (ap (λ (b : Bool). is_of d.0 d.1 edit || b) (touches-coded edit ds))

pub untouched-coded : (edit : Edit) (es : List Entry) → not_resting_under (touched_code edit) es ≡ untouched edit es
untouched-coded edit [] = refl
untouched-coded edit (e ∷ es) =
    ap₂ (λ (b : Bool) (fs : List Entry). if not b then e ∷ fs else fs) (touches-coded edit e.deps) (untouched-coded edit es)
