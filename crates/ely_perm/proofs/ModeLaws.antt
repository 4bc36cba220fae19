-- What a mode makes of the answers of rows is what it says of the rows.
use Rattle.std.proofs.Common.{◌≡◌, ℕ, ◌+◌, ◌%◌, ◌==◌, Bool, ◌||◌, ◌&&◌, not, List, [], ◌∷◌, map, cond, refl, ap}
use Rattle.std.specs.Prelude.{fold}
use Rattle.std.specs.List.{list_any}
use Rattle.std.proofs.lemmas.List.Folds.{list_all-map}
use Rattle.ely_perm.specs.declared.mode.Mode.TheVariants.{And, Or, Xor, Unless}
use Rattle.ely_perm.specs.declared.row.PermRow.{PermRow}
use Rattle.ely_perm.specs.Modes.{decided}
use Rattle.ely_perm.specs.Grants.{grants}
use Rattle.ely_perm.specs.ModeLaws.{some_grant, each_grants, odd_number_grants, first_alone_grants}

any_of : {X : Type 0} (test : X → Bool) (xs : List X) → list_any (λ b. b) (map test xs) ≡ list_any test xs
any_of test [] = refl
any_of test (x ∷ xs) = ap (λ b. test x || b) (any_of test xs)

count_of : {X : Type 0} (test : X → Bool) (xs : List X) (n : ℕ)
    → fold (λ a b. a + cond b 1 0) n (map test xs) ≡ fold (λ a x. a + cond (test x) 1 0) n xs
count_of test [] n = refl
count_of test (x ∷ xs) n = count_of test xs (n + cond (test x) 1 0)

pub each_says : (wanted : List ℕ) (rows : List PermRow) → decided And (map (grants wanted) rows) ≡ each_grants wanted rows
each_says wanted [] = refl
each_says wanted (row ∷ others) = list_all-map (λ b. b) (grants wanted) (row ∷ others)

pub some_says : (wanted : List ℕ) (rows : List PermRow) → decided Or (map (grants wanted) rows) ≡ some_grant wanted rows
some_says wanted [] = refl
some_says wanted (row ∷ others) = any_of (grants wanted) (row ∷ others)

pub odd_says : (wanted : List ℕ) (rows : List PermRow) → decided Xor (map (grants wanted) rows) ≡ odd_number_grants wanted rows
odd_says wanted [] = refl
odd_says wanted (row ∷ others) = ap (λ n. n % 2 == 1) (count_of (grants wanted) (row ∷ others) 0)

pub alone_says : (wanted : List ℕ) (rows : List PermRow) → decided Unless (map (grants wanted) rows) ≡ first_alone_grants wanted rows
alone_says wanted [] = refl
alone_says wanted (row ∷ others) = ap (λ b. grants wanted row && not b) (any_of (grants wanted) others)
