-- What holds of the members under each word of a table holds of those under any word.
use Rattle.std.proofs.Common.{ℕ, Bool, true, false, List, [], ◌∷◌, if◌then◌else◌}
use Rattle.std.specs.List.{AllByRecursion}
use Rattle.std.specs.Str.{bytes_eq}
use Rattle.ely_config_tree.specs.Table.{Member, members_in}

either : (P : List Member → Type 0) (b : Bool) (ms other : List Member) → P ms → P other → P (if b then ms else other)
either P true ms other h hs = h
either P false ms other h hs = hs

-- what holds of no members and of those under each word holds of those under any word
pub in_table : (P : List Member → Type 0) → P [] → (choices : List (List ℕ × List Member)) (word : List ℕ) → AllByRecursion (λ choice. P choice.1) choices → P (members_in choices word)
in_table P none [] word h = none
in_table P none (choice ∷ choices) word h = either P (bytes_eq word choice.0) choice.1 (members_in choices word) h.0 (in_table P none choices word h.1)
