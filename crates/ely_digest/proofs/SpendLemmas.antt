-- What the answer to a count says of the nonce's last count.
use Rattle.std.proofs.Common.{◌≡◌, ℕ, ◌≤◌, ◌<◌, ◌↔◌, Option, Some, None, IsNone, Result, Ok, Err, refl, ap, ⊎_elim, arith}
use Rattle.std.proofs.lemmas.Bool.{cases_lt, le-leb, lt-leb}
use Rattle.ely_digest.specs.declared.nonce_table.SpendFault.{SpendFault}
use Rattle.ely_digest.specs.declared.nonce_table.SpendFault.TheVariants.{Stale, Replayed}
use Rattle.ely_digest.specs.Nonces.{spending}

-- what a call answers
abbrev pub Answer : Type 0
Answer = Result (Unit {0}) SpendFault

-- a count that isn't above the last is refused with it
pub replayed : (last nc : ℕ) → nc ≤ last → ◌≡◌ {A = Answer} (Err (Replayed last)) (spending (Some last) nc)
replayed last nc low = rw (le-leb nc last low) refl

-- one that is above the last is accepted
pub accepted : (last nc : ℕ) → last < nc → ◌≡◌ {A = Answer} (Ok tt) (spending (Some last) nc)
accepted last nc above = rw (lt-leb nc last above) refl

-- a nonce is stale exactly where it has no last count
pub stale_where : (o : Option ℕ) (nc : ℕ) (r : Answer) → r ≡ spending o nc → (r ≡ Err Stale) ↔ IsNone o
stale_where None nc r is = (λ h. refl, λ h. is)
stale_where (Some last) nc r is = ⊎_elim
    (λ (above : last < nc). let ok = accepted last nc above in (λ h. cc, λ h. cc))
    (λ (low : nc ≤ last). let err = replayed last nc low in (λ h. cc, λ h. cc))
    (cases_lt last nc)

-- a count is a replay exactly where it isn't above the last
pub replayed_where : (o : Option ℕ) (nc : ℕ) (r : Answer) → r ≡ spending o nc → (last : ℕ)
    → (r ≡ Err (Replayed last)) ↔ ((o ≡ Some last) × (nc ≤ last))
replayed_where None nc r is last = (λ h. cc, λ h. let none = h.0 in cc)
replayed_where (Some l) nc r is last = ⊎_elim
    (λ (above : l < nc).
    let ok = accepted l nc above in
    (λ h. cc, λ h. let same_o = h.0 in let same : l ≡ last = cc in absurd (omega (arith, h.1, same, above))))
    (λ (low : nc ≤ l).
    let err = replayed l nc low in
    (λ h. let same : l ≡ last = cc in (ap Some same, omega (arith, same, low)), λ h. let same_o = h.0 in cc))
    (cases_lt l nc)
