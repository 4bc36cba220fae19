-- What may be done with a table of nonces, one use after another, and that a count which was spent is never accepted again.
use Rattle.std.specs.Prelude.{ℕ, ◌≡◌, ◌<◌, Bool, true, if◌then◌else◌, List, [], ◌∷◌, fold, is_some, is_ok, IsSome}
use Rattle.ely_digest.specs.Nonces.{Nonces, last_count, with_nonce, with_count, spending}

-- a nonce is issued, or a count of one is spent
pub data Use : Type 0 where
  issue : List ℕ → Use
  spend : List ℕ → ℕ → Use

-- the count is accepted
abbrev pub accepts : Nonces → List ℕ → ℕ → Bool
accepts table nonce nc = is_ok (spending (last_count table nonce) nc)

-- the table after one use; what is refused changes nothing
abbrev pub after_use : Nonces → Use → Nonces
after_use table (issue nonce) = if is_some (last_count table nonce) then table else with_nonce table nonce
after_use table (spend nonce nc) = if accepts table nonce nc then with_count table nonce nc else table

-- the table has the nonce, and still has it after each of the uses
abbrev pub Stays : List ℕ → Nonces → List Use → Type 0
Stays nonce table [] = IsSome (last_count table nonce)
Stays nonce table (one ∷ uses) = IsSome (last_count table nonce) × Stays nonce (after_use table one) uses

-- whatever the table is used for: as long as the nonce stays, only counts above this one are accepted
abbrev pub IsSpent : Nonces → List ℕ → ℕ → Type 0
IsSpent table nonce nc = (uses : List Use) (later : ℕ) → Stays nonce table uses
    → accepts (fold after_use table uses) nonce later ≡ true → nc < later
