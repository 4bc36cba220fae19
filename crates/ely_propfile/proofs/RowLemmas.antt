-- Groups by their names, and the rows of users.
use Rattle.std.proofs.Common.{ℕ, ◌≡◌, Bool, true, false, cond, not, ◌||◌, List, [], ◌∷◌, ◌++◌, Option, Some, None, refl, ap, ◌∙◌, sym}
use Rattle.std.specs.Option.{option_map}
use Rattle.std.specs.BTreeMap.{BTreeMap, Updates, get}
use Rattle.std.specs.Map.{keys_of, lookup}
use Rattle.std.specs.Str.{bytes_eq}
use Rattle.std.proofs.lemmas.List.{append_assoc, map-append}
use Rattle.std.proofs.lemmas.Map.Text.{is_eq-slice_cmp}
use Rattle.std.proofs.lemmas.Slice.Eq.{bytes_eq-Decides}
use Rattle.ely_row.specs.declared.cred.Credential.{Credential}
use Rattle.ely_row.specs.Rows.{Row, name_cmp}
use Rattle.ely_propfile.specs.Faults.{is_among, are_apart}
use Rattle.ely_propfile.specs.Rows.{user_row, rows_of, RowsByName}
use Rattle.ely_propfile.proofs.NameLemmas.{bytes_eq-swap, among_push, first_of_or, second_of_or, first_of_and, second_of_and}

-- one more is yielded
pub whole_more : {X : Type 0} (yielded rest tail all : List X) (x : X) → yielded ++ rest ≡ all → rest ≡ x ∷ tail → (yielded ++ x ∷ []) ++ tail ≡ all
whole_more yielded rest tail all x whole first = append_assoc yielded (x ∷ []) tail ∙ ap (λ xs. yielded ++ xs) (sym first) ∙ whole

among_middle : {V : Type 0} (n : List ℕ) (xs : List (List ℕ × V)) (p : List ℕ × V) (rest : List (List ℕ × V)) → is_among n (keys_of (xs ++ p ∷ rest)) ≡ false → bytes_eq n p.0 ≡ false
among_middle n [] p rest h = first_of_or (bytes_eq n p.0) (is_among n (keys_of rest)) h
among_middle n (x ∷ xs) p rest h = among_middle n xs p rest (second_of_or (bytes_eq n x.0) (is_among n (keys_of (xs ++ p ∷ rest))) h)

-- the name of a pair is none of those before it
pub apart_middle : {V : Type 0} (xs : List (List ℕ × V)) (p : List ℕ × V) (rest : List (List ℕ × V)) → are_apart (xs ++ p ∷ rest) ≡ true → is_among p.0 (keys_of xs) ≡ false
apart_middle [] p rest h = refl
apart_middle (x ∷ xs) p rest h =
    let here : bytes_eq p.0 x.0 ≡ false = bytes_eq-swap p.0 x.0 ∙ among_middle x.0 xs p rest (first_of_and (is_among x.0 (keys_of (xs ++ p ∷ rest))) (are_apart (xs ++ p ∷ rest)) h) in
    ap (λ b. b || is_among p.0 (keys_of xs)) here ∙ apart_middle xs p rest (second_of_and (not (is_among x.0 (keys_of (xs ++ p ∷ rest)))) (are_apart (xs ++ p ∷ rest)) h)

pub apart_new : {V : Type 0} (xs : List (List ℕ × V)) (p : List ℕ × V) (rest all : List (List ℕ × V)) → (xs ++ p ∷ []) ++ rest ≡ all → are_apart all ≡ true → is_among p.0 (keys_of xs) ≡ false
apart_new xs p rest all whole apart = apart_middle xs p rest (ap are_apart (sym (append_assoc xs (p ∷ []) rest) ∙ whole) ∙ apart)

pub lookup_push : {V : Type 0} (q : List ℕ) (xs : List (List ℕ × V)) (p : List ℕ × V) → is_among p.0 (keys_of xs) ≡ false → lookup (bytes_eq q) (xs ++ p ∷ []) ≡ cond (bytes_eq q p.0) (Some p.1) (lookup (bytes_eq q) xs)
lookup_push q [] p new = refl
lookup_push q (x ∷ xs) p new = by (bytes_eq q x.0) refl (lookup_push q xs p (second_of_or (bytes_eq p.0 x.0) (is_among p.0 (keys_of xs)) new))
  where
    by : (t : Bool) → bytes_eq q x.0 ≡ t → lookup (bytes_eq q) (xs ++ p ∷ []) ≡ cond (bytes_eq q p.0) (Some p.1) (lookup (bytes_eq q) xs)
        → cond t (Some x.1) (lookup (bytes_eq q) (xs ++ p ∷ [])) ≡ cond (bytes_eq q p.0) (Some p.1) (cond t (Some x.1) (lookup (bytes_eq q) xs))
    by true e rest =
        let same : q ≡ x.0 = (bytes_eq-Decides q x.0).0 e in
        let other : bytes_eq q p.0 ≡ false = ap (λ n. bytes_eq n p.0) same ∙ bytes_eq-swap x.0 p.0 ∙ first_of_or (bytes_eq p.0 x.0) (is_among p.0 (keys_of xs)) new in
        ap (λ b. cond b (Some p.1) (Some x.1)) (sym other)
    by false e rest = rest

-- the map has one more
pub found_more : {V : Type 0} (names next : BTreeMap (List ℕ) V) (xs : List (List ℕ × V)) (p : List ℕ × V) → is_among p.0 (keys_of xs) ≡ false → Updates name_cmp names next p.0 (Some p.1)
    → ((n : List ℕ) → get name_cmp names n ≡ lookup (bytes_eq n) xs) → (n : List ℕ) → get name_cmp next n ≡ lookup (bytes_eq n) (xs ++ p ∷ [])
found_more names next xs p new put found n =
    put.0 n
    ∙ ap (λ b. cond b (Some p.1) (get name_cmp names n)) (is_eq-slice_cmp p.0 n ∙ bytes_eq-swap p.0 n)
    ∙ ap (cond (bytes_eq n p.0) (Some p.1)) (found n)
    ∙ sym (lookup_push n xs p new)

-- the map has the groups of the names that are still to come
pub found_less : {V W : Type 0} (left next : BTreeMap (List ℕ) V) (xs : List (List ℕ × W)) (p : List ℕ × W) (groups : List (List ℕ × V)) → Updates name_cmp left next p.0 None
    → ((n : List ℕ) → is_among n (keys_of xs) ≡ false → get name_cmp left n ≡ lookup (bytes_eq n) groups) → (n : List ℕ) → is_among n (keys_of (xs ++ p ∷ [])) ≡ false → get name_cmp next n ≡ lookup (bytes_eq n) groups
found_less left next xs p groups taken found n new =
    let apart : (is_among n (keys_of xs) || bytes_eq n p.0) ≡ false = sym (among_push n xs p) ∙ new in
    taken.0 n
    ∙ ap (λ b. cond b None (get name_cmp left n)) (is_eq-slice_cmp p.0 n ∙ bytes_eq-swap p.0 n ∙ second_of_or (is_among n (keys_of xs)) (bytes_eq n p.0) apart)
    ∙ found n (first_of_or (is_among n (keys_of xs)) (bytes_eq n p.0) apart)

-- one more row
pub rows_more : (users : List (List ℕ × Credential)) (user : List ℕ × Credential) (groups : List (List ℕ × List (List ℕ))) (rows more : List (List ℕ × Row)) (row : Row) (has : Option (List (List ℕ)))
    → rows ≡ rows_of users groups → more ≡ rows ++ (user.0, row) ∷ [] → row ≡ user_row user.1 has → has ≡ lookup (bytes_eq user.0) groups → more ≡ rows_of (users ++ user ∷ []) groups
rows_more users user groups rows more row has made put is found =
    put
    ∙ ap (λ rs. rs ++ (user.0, row) ∷ []) made
    ∙ ap (λ r. rows_of users groups ++ (user.0, r) ∷ []) (is ∙ ap (user_row user.1) found)
    ∙ sym (map-append (λ u. (u.0, user_row u.1 (lookup (bytes_eq u.0) groups))) users (user ∷ []))

pub rows_by_name : RowsByName
rows_by_name [] groups name = refl
rows_by_name (user ∷ users) groups name = by (bytes_eq name user.0) refl (rows_by_name users groups name)
  where
    by : (t : Bool) → bytes_eq name user.0 ≡ t → lookup (bytes_eq name) (rows_of users groups) ≡ option_map (λ cred. user_row cred (lookup (bytes_eq name) groups)) (lookup (bytes_eq name) users)
        → cond t (Some (user_row user.1 (lookup (bytes_eq user.0) groups))) (lookup (bytes_eq name) (rows_of users groups)) ≡ option_map (λ cred. user_row cred (lookup (bytes_eq name) groups)) (cond t (Some user.1) (lookup (bytes_eq name) users))
    by true same rest = ap (λ n. Some (user_row user.1 (lookup (bytes_eq n) groups))) (sym ((bytes_eq-Decides name user.0).0 same))
    by false other rest = rest
