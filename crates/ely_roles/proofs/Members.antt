-- What is in the sets that mappers make.
use Rattle.std.proofs.Common.{◌≡◌, Bool, true, false, ◌||◌, ◌&&◌, List, [], ◌∷◌, ◌++◌, map, refl, sym, ap, ◌∙◌, cond}
use Rattle.std.specs.Prelude.{filter}
use Rattle.std.specs.List.{list_any, flat_map}
use Rattle.std.specs.Str.{bytes_eq}
use Rattle.std.proofs.Math.Bool.{and-false, and-true, or-false}
use Rattle.std.proofs.lemmas.List.Kept.{IsStrictlySortedBy-filter}
use Rattle.ely_row.specs.Rows.{name_cmp}
use Rattle.ely_row.specs.Sets.{as_set, is_among}
use Rattle.ely_row.proofs.SetLemmas.{IsSet-as_set, is_among-as_set, is_among-append, is_among-filter, same_sets}
use Rattle.ely_roles.specs.declared.mapper.SetOp.{SetOp}
use Rattle.ely_roles.specs.declared.mapper.SetOp.TheVariants.{And, Or, Minus, Xor}
use Rattle.ely_roles.specs.Mappers.{Name, Names, Pair, is_short, with_prefix, with_suffix, keeps, joined, targets, is_target, is_kept, given, mapped}

-- ---- two sets

-- what is taken of the left, with what is taken of the right alone
by_sides : (k : Bool → Bool → Bool) (left right : Bool)
    → ((cond right (k true true) (k true false) && left) || (cond left false (k false true) && right)) ≡ (k left right && (left || right))
by_sides k true true = or-false (k true true && true)
by_sides k true false = or-false (k true false && true)
by_sides k false true = ap (λ b. b || (k false true && true)) (and-false (k true true))
by_sides k false false = let a = and-false (k true false) in let b = and-false (k false true) in let c = and-false (k false false) in cc

is_among-joined : (op : SetOp) (left right : Names) (name : Name)
    → is_among (joined op left right) name ≡ (keeps op (is_among left name) (is_among right name) && (is_among left name || is_among right name))
is_among-joined op left right name =
    is_among-filter (λ role. keeps op (is_among left role) (is_among right role)) (as_set (left ++ right)) name
    ∙ ap (λ b. keeps op (is_among left name) (is_among right name) && b) (is_among-as_set (left ++ right) name ∙ is_among-append left right name)

-- what is kept of either list, as a set
pub joined_is : (op : SetOp) (left right : Names)
    → as_set (filter (λ role. cond (is_among right role) (keeps op true true) (keeps op true false)) left ++ filter (λ role. cond (is_among left role) false (keeps op false true)) right) ≡ joined op left right
joined_is op left right =
    let of_left : Names = filter (λ role. cond (is_among right role) (keeps op true true) (keeps op true false)) left in
    let of_right : Names = filter (λ role. cond (is_among left role) false (keeps op false true)) right in
    same_sets (as_set (of_left ++ of_right)) (joined op left right) (IsSet-as_set (of_left ++ of_right))
    (IsStrictlySortedBy-filter name_cmp (λ role. keeps op (is_among left role) (is_among right role)) (as_set (left ++ right)) (IsSet-as_set (left ++ right)))
    (λ name.
    is_among-as_set (of_left ++ of_right) name
    ∙ is_among-append of_left of_right name
    ∙ (λ i. is_among-filter (λ role. cond (is_among right role) (keeps op true true) (keeps op true false)) left name i || is_among-filter (λ role. cond (is_among left role) false (keeps op false true)) right name i)
    ∙ by_sides (keeps op) (is_among left name) (is_among right name)
    ∙ sym (is_among-joined op left right name))

-- the same, as the lists are made one behind the other
pub joined_made : (op : SetOp) (left right none first both : Names) (shared left_alone right_alone : Bool)
    → shared ≡ keeps op true true → left_alone ≡ keeps op true false → right_alone ≡ keeps op false true → none ≡ []
    → first ≡ none ++ filter (λ role. cond (is_among right role) shared left_alone) left
    → both ≡ first ++ filter (λ role. cond (is_among left role) false right_alone) right
    → as_set both ≡ joined op left right
joined_made op left right none first both shared left_alone right_alone s l r n f b =
    ap as_set (b ∙ (λ i. (f ∙ (λ j. n j ++ filter (λ role. cond (is_among right role) (s j) (l j)) left)) i ++ filter (λ role. cond (is_among left role) false (r i)) right))
    ∙ joined_is op left right

-- a role that neither has is not kept
covered : (op : SetOp) (left right : Bool) → (keeps op left right && (left || right)) ≡ keeps op left right
covered op true right = and-true (keeps op true right)
covered op false true = and-true (keeps op false true)
covered And false false = refl
covered Or false false = refl
covered Minus false false = refl
covered Xor false false = refl

pub members_joined : (op : SetOp) (left right : Names) (name : Name) → is_among (joined op left right) name ≡ keeps op (is_among left name) (is_among right name)
members_joined op left right name = is_among-joined op left right name ∙ covered op (is_among left name) (is_among right name)

-- ---- texts before and behind

list_any-map : {X Y : Type 0} (test : Y → Bool) (f : X → Y) (xs : List X) → list_any test (map f xs) ≡ list_any (λ x. test (f x)) xs
list_any-map test f [] = refl
list_any-map test f (x ∷ xs) = ap (λ b. test (f x) || b) (list_any-map test f xs)

made_of : (f : Name → Name) (set : Names) (name : Name) → is_among (as_set (filter is_short (map f set))) name ≡ (is_short name && list_any (λ role. bytes_eq (f role) name) set)
made_of f set name =
    is_among-as_set (filter is_short (map f set)) name
    ∙ is_among-filter is_short (map f set) name
    ∙ ap (λ b. is_short name && b) (list_any-map (λ n. bytes_eq n name) f set)

pub members_prefixed : (text : Name) (set : Names) (name : Name) → is_among (with_prefix text set) name ≡ (is_short name && list_any (λ role. bytes_eq (text ++ role) name) set)
members_prefixed text set name = made_of (λ role. text ++ role) set name

pub members_suffixed : (text : Name) (set : Names) (name : Name) → is_among (with_suffix text set) name ≡ (is_short name && list_any (λ role. bytes_eq (role ++ text) name) set)
members_suffixed text set name = made_of (λ role. role ++ text) set name

-- ---- pairs

is_among-flat_map : {X : Type 0} (f : X → Names) (xs : List X) (name : Name) → is_among (flat_map f xs) name ≡ list_any (λ x. is_among (f x) name) xs
is_among-flat_map f [] name = refl
is_among-flat_map f (x ∷ xs) name = is_among-append (f x) (flat_map f xs) name ∙ ap (λ b. is_among (f x) name || b) (is_among-flat_map f xs name)

list_any-filter : {X : Type 0} (test p : X → Bool) (xs : List X) → list_any test (filter p xs) ≡ list_any (λ x. p x && test x) xs
list_any-filter test p [] = refl
list_any-filter test p (x ∷ xs) = by (p x) (list_any-filter test p xs)
  where
    by : (b : Bool) → list_any test (filter p xs) ≡ list_any (λ x. p x && test x) xs → list_any test (cond b (x ∷ filter p xs) (filter p xs)) ≡ ((b && test x) || list_any (λ x. p x && test x) xs)
    by true rest = ap (λ b. test x || b) rest
    by false rest = rest

itself : (kept : Bool) (role name : Name) → is_among (cond kept (role ∷ []) []) name ≡ (kept && bytes_eq role name)
itself true role name = or-false (bytes_eq role name)
itself false role name = refl

pub members_given : (pairs : List Pair) (keep_mapped keep_non_mapped : Bool) (role name : Name)
    → is_among (given pairs keep_mapped keep_non_mapped role) name ≡ (is_target pairs role name || (is_kept pairs keep_mapped keep_non_mapped role && bytes_eq role name))
members_given pairs keep_mapped keep_non_mapped role name =
    let kept = is_kept pairs keep_mapped keep_non_mapped role in
    is_among-append (targets pairs role) (cond kept (role ∷ []) []) name
    ∙ (λ i. (is_among-flat_map (λ (pair : Pair). pair.1) (filter (λ pair. bytes_eq pair.0 role) pairs) name
    ∙ list_any-filter (λ (pair : Pair). is_among pair.1 name) (λ pair. bytes_eq pair.0 role) pairs) i
    || itself kept role name i)

pub members_mapped : (pairs : List Pair) (keep_mapped keep_non_mapped : Bool) (set : Names) (name : Name)
    → is_among (mapped pairs keep_mapped keep_non_mapped set) name ≡ list_any (λ role. is_among (given pairs keep_mapped keep_non_mapped role) name) set
members_mapped pairs keep_mapped keep_non_mapped set name =
    is_among-as_set (flat_map (given pairs keep_mapped keep_non_mapped) set) name
    ∙ is_among-flat_map (given pairs keep_mapped keep_non_mapped) set name
