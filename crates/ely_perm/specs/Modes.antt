-- How answers are taken together. No definition here walks them with the answer so far, as the code does.
use Rattle.std.specs.Prelude.{◌%◌, ◌==◌, ◌&&◌, Bool, false, not, List, [], ◌∷◌, count_by}
use Rattle.std.specs.List.{list_any, list_all}
use Rattle.ely_perm.specs.declared.mode.Mode.{Mode}
use Rattle.ely_perm.specs.declared.mode.Mode.TheVariants.{First, And, Or, Xor, Unless}

-- all are true
abbrev pub are_all : List Bool → Bool
are_all answers = list_all (λ b. b) answers

-- one at least is true
abbrev pub is_one : List Bool → Bool
is_one answers = list_any (λ b. b) answers

-- an odd number is true
abbrev pub is_odd : List Bool → Bool
is_odd answers = count_by (λ b. b) answers % 2 == 1

-- what the mode makes of answers; without one it is no
abbrev pub decided : Mode → List Bool → Bool
decided mode [] = false
decided First (first ∷ others) = first
decided And (first ∷ others) = are_all (first ∷ others)
decided Or (first ∷ others) = is_one (first ∷ others)
decided Xor (first ∷ others) = is_odd (first ∷ others)
decided Unless (first ∷ others) = first && not (is_one others)
