-- What a naming finds.
use Rattle.std.proofs.Common.{◌≡◌, ℕ, true, false, length, Option, Some, None, Result, Ok, Err, refl, ap}
use Rattle.std.specs.Prelude.{IsSome}
use Rattle.std.specs.Option.{ok_or}
use Rattle.ely_base.specs.declared.refused.Refused.{Refused}
use Rattle.ely_base.specs.declared.refused.Refused.TheVariants.{Fault}
use Rattle.ely_base.specs.Refused.{◌>>=◌, Fails}
use Rattle.ely_row.specs.declared.mech.Mech.{Mech}
use Rattle.ely_pipeline.specs.declared.place.PipeFault.{PipeFault}
use Rattle.ely_pipeline.specs.declared.place.Place.{Place}
use Rattle.ely_row.specs.Rows.{Row}
use Rattle.ely_cred.specs.Keys.{chosen}
use Rattle.ely_login.specs.declared.claim.Claim.{Claim}
use Rattle.ely_login.specs.declared.outcome.Outcome.{Outcome}
use Rattle.ely_login.specs.declared.outcome.Outcome.TheVariants as outcomes
use Rattle.ely_domain.specs.declared.naming.Found.{Found}
use Rattle.ely_domain.specs.Contexts.{Finds}
use Rattle.ely_domain.specs.Given.{place_of}
use Rattle.ely_domain.specs.Identities.{Known, ident}
use Rattle.ely_domain.specs.Steps.{claimed_name, is_other, is_claim_of, serving, naming}

-- a name without a place is told the stage that gives nothing
pub naming_lost : (known : Known) (mech : Mech) (claim : Claim) (refused : Refused PipeFault) (fault : PipeFault)
    → is_claim_of mech claim ≡ true → is_other claim ≡ false → refused ≡ Fault fault
    → Fails refused (place_of known.given (claimed_name claim)) → naming known mech claim ≡ Err (outcomes.Pipe fault)
unfolding naming
naming_lost known mech claim refused fault form own is fails =
    let lost : place_of known.given (claimed_name claim) ≡ Err fault = rw is at fails in
    rw (form, own, lost) refl

-- a row that serves is the identity of now
serving_is : (known : Known) (mech : Mech) (place : Place) (row : Row) → serving known mech place ≡ Ok row
    → (ident known (length known.edits) place ≡ Some row) × IsSome (chosen mech row)
unfolding serving
serving_is known mech place row is = by_identity (ident known (length known.edits) place) refl is
  where
    by_chosen : (identity : Row) (o : Option (ℕ × _)) → chosen mech identity ≡ o
        → (ok_or o outcomes.NoCredential >>= λ c. Ok identity) ≡ Ok row → (identity ≡ row) × IsSome (chosen mech identity)
    by_chosen identity None e h = cc
    by_chosen identity (Some c) e h = (same_Ok h, rw e refl)
      where
        same_Ok : {F : Type 0} {x y : Row} → ◌≡◌ {A = Result Row F} (Ok x) (Ok y) → x ≡ y
        same_Ok h = cc

    by_identity : (o : Option Row) → ident known (length known.edits) place ≡ o
        → (ok_or o outcomes.Unknown >>= λ identity. ok_or (chosen mech identity) outcomes.NoCredential >>= λ c. Ok identity) ≡ Ok row
        → (o ≡ Some row) × IsSome (chosen mech row)
    by_identity None e h = cc
    by_identity (Some identity) e h =
        let both = by_chosen identity (chosen mech identity) refl h in
        (ap Some both.0, rw (← both.0) both.1)

module _ (known : Known) (mech : Mech) (claim : Claim) (place : Place)
    (form : is_claim_of mech claim ≡ true) (own : is_other claim ≡ false) (at : place_of known.given (claimed_name claim) ≡ Ok place) where
  -- what is found is what is pinned
  pub naming_found : (row : Row) → serving known mech place ≡ Ok row
      → (let found : Result Found Outcome = Ok (record { place = place; row = row }) in Finds known mech claim found)
  unfolding naming
  naming_found row is =
      let both = serving_is known mech place row is in
      (rw (form, own, at, is) refl, both.0, both.1, form)

  -- and what stands against it is told
  pub naming_refused : (refusal : Outcome) → serving known mech place ≡ Err refusal → naming known mech claim ≡ Err refusal
  unfolding naming
  naming_refused refusal is = rw (form, own, at, is) refl
