-- Nonces that a server issued, each with the last count that was spent of it (RFC 7616 section 3.4).
use Rattle.std.specs.Prelude.{ℕ, ◌≡◌, ◌-◌, if◌then◌else◌, nat_le, List, [], ◌∷◌, ◌++◌, length, map, drop, Option, Some}
use Rattle.std.specs.Prelude.{None, Result, Ok, Err}
use Rattle.std.specs.Map.{lookup}
use Rattle.std.specs.Str.{bytes_eq}
use Rattle.ely_digest.specs.declared.nonce_table.SpendFault.{SpendFault}
use Rattle.ely_digest.specs.declared.nonce_table.SpendFault.TheVariants.{Stale, Replayed}

-- nonces with their last counts, the oldest issue first
abbrev pub Issued : Type 0
Issued = List (List ℕ × ℕ)

-- what a table is seen as: how many nonces it keeps, and those that it has
pub record Nonces : Type 0 where
  pub limit : ℕ
  pub issued : Issued

-- the last count of the nonce, where it is one of these
abbrev pub count_in : Issued → List ℕ → Option ℕ
count_in issued nonce = lookup (bytes_eq nonce) issued

-- no nonce comes twice
abbrev pub AreDistinct : Issued → Type 0
AreDistinct [] = Unit {0}
AreDistinct (entry ∷ issued) = (count_in issued entry.0 ≡ None) × AreDistinct issued

-- the newest of these, so many
abbrev pub newest : ℕ → Issued → Issued
newest limit issued = drop (length issued - limit) issued

-- these, with another last count of the nonce
abbrev pub recounted : Issued → List ℕ → ℕ → Issued
recounted issued nonce nc = map (λ entry. if bytes_eq nonce entry.0 then (entry.0, nc) else entry) issued

-- the last count of the nonce, where the table has it
abbrev pub last_count : Nonces → List ℕ → Option ℕ
last_count table nonce = count_in table.issued nonce

-- the table after the nonce is issued: its last count is 0, and of more nonces than the limit the oldest goes
abbrev pub with_nonce : Nonces → List ℕ → Nonces
with_nonce table nonce = record table { issued = newest table.limit (table.issued ++ (nonce, 0) ∷ []) }

-- the table after the count of the nonce is spent
abbrev pub with_count : Nonces → List ℕ → ℕ → Nonces
with_count table nonce nc = record table { issued = recounted table.issued nonce nc }

-- the answer to a count of a nonce that has this last count; one that isn't above the last may have been sent before
abbrev pub spending : Option ℕ → ℕ → Result (Unit {0}) SpendFault
spending None nc = Err Stale
spending (Some last) nc = if nat_le nc last then Err (Replayed last) else Ok tt
