-- What a naming pins, and that what stands against it is a refusal.
use Rattle.std.proofs.Common.{◌≡◌, ℕ, Bool, true, false, not, List, length, Option, Some, None, Result, Ok, Err, refl, sym, subst}
use Rattle.std.specs.Prelude.{IsSome}
use Rattle.std.specs.Option.{ok_or}
use Rattle.ely_base.specs.Refused.{◌>>=◌, refused_as}
use Rattle.ely_row.specs.declared.cred.Credential.{Credential}
use Rattle.ely_row.specs.declared.mech.Mech.{Mech}
use Rattle.ely_pipeline.specs.declared.place.PipeFault.{PipeFault}
use Rattle.ely_pipeline.specs.declared.place.Place.{Place}
use Rattle.ely_row.specs.Rows.{Row}
use Rattle.ely_cred.specs.Keys.{chosen}
use Rattle.ely_login.specs.declared.claim.Claim.{Claim}
use Rattle.ely_login.specs.declared.outcome.Outcome.{Outcome}
use Rattle.ely_login.specs.declared.outcome.Outcome.TheVariants as outcomes
use Rattle.ely_login.specs.Outcomes.{is_accepted}
use Rattle.ely_domain.specs.Given.{place_of}
use Rattle.ely_domain.specs.Identities.{Known, ident}
use Rattle.ely_domain.specs.Logins.{Pinned}
use Rattle.ely_domain.specs.Steps.{claimed_name, is_other, is_claim_of, serving, naming, require}

-- what a naming pins, and that what stands against it is a refusal
module _ (known : Known) (mech : Mech) (claim : Claim) where
  -- what is pinned of an identity that serves
  abbrev after_serving : Place → Result Row Outcome → Result Pinned Outcome
  after_serving place o = o >>= λ identity. Ok (record { version = length known.edits; place = place; claim = claim })

  -- what the tests of a naming come to
  abbrev after_tests : Bool → Bool → Result Place PipeFault → (Place → Result Row Outcome) → Result Pinned Outcome
  after_tests form own place serves =
      require form (outcomes.Mechanism mech) >>= λ _. require (not own) outcomes.Authzid >>= λ _.
      refused_as outcomes.Pipe place >>= λ p. serves p >>= λ identity.
      Ok (record { version = length known.edits; place = p; claim = claim })

  same_Ok : {A F : Type 0} (x y : A) → ◌≡◌ {A = Result A F} (Ok x) (Ok y) → x ≡ y
  same_Ok x y h = cc

  same_Err : {A F : Type 0} (x y : F) → ◌≡◌ {A = Result A F} (Err x) (Err y) → x ≡ y
  same_Err x y h = cc

  pub naming_pins : (pin : Pinned) → naming known mech claim ≡ Ok pin
      → (pin ≡ record { version = length known.edits; place = pin.place; claim = claim }) × (place_of known.given (claimed_name claim) ≡ Ok pin.place)
  unfolding naming
  naming_pins pin is = by (is_claim_of mech claim) (is_other claim) (place_of known.given (claimed_name claim)) (serving known mech) is
    where
      by_serving : (place : Place) (o : Result Row Outcome)
          → after_serving place o ≡ Ok pin
          → (pin ≡ record { version = length known.edits; place = pin.place; claim = claim }) × (◌≡◌ {A = Result Place PipeFault} (Ok place) (Ok pin.place))
      by_serving place (Ok identity) h =
          let here : pin ≡ record { version = length known.edits; place = place; claim = claim } = sym (same_Ok _ pin h) in
          (rw here refl, rw here refl)
      by_serving place (Err refusal) h = cc

      by : (form own : Bool) (place : Result Place PipeFault) (serves : Place → Result Row Outcome) → after_tests form own place serves ≡ Ok pin
          → (pin ≡ record { version = length known.edits; place = pin.place; claim = claim }) × (place ≡ Ok pin.place)
      by true false (Ok place) serves h = by_serving place (serves place) h
      by true false (Err fault) serves h = cc
      by true true place serves h = cc
      by false own place serves h = cc

  -- and only of a place that has an identity, by a name of the client's own
  pub naming_finds : (pin : Pinned) → naming known mech claim ≡ Ok pin → (is_other claim ≡ false) × IsSome (ident known (length known.edits) pin.place)
  unfolding naming serving
  naming_finds pin is = by (is_claim_of mech claim) (is_other claim) (place_of known.given (claimed_name claim)) is
    where
      -- what serving looks for at a place
      by_row : Option Row → Result Row Outcome
      by_row o = ok_or o outcomes.Unknown >>= λ identity. ok_or (chosen mech identity) outcomes.NoCredential >>= λ c. Ok identity

      by_place : (place : Place) (o : Option Row) → ident known (length known.edits) place ≡ o → after_serving place (by_row o) ≡ Ok pin
          → IsSome (ident known (length known.edits) pin.place)
      by_place place None e h = cc
      by_place place (Some identity) e h = by_chosen (chosen mech identity) h
        where
          by_chosen : (o : Option (ℕ × Credential)) → after_serving place (ok_or o outcomes.NoCredential >>= λ c. Ok identity) ≡ Ok pin
              → IsSome (ident known (length known.edits) pin.place)
          by_chosen None h = cc
          by_chosen (Some c) h =
              let here : record { version = length known.edits; place = place; claim = claim } ≡ pin = same_Ok _ pin h in
              subst (λ (p : Pinned). IsSome (ident known (length known.edits) p.place)) here (rw e refl)

      by : (form own : Bool) (place : Result Place PipeFault) → after_tests form own place (λ p. by_row (ident known (length known.edits) p)) ≡ Ok pin
          → (own ≡ false) × IsSome (ident known (length known.edits) pin.place)
      by true false (Ok place) h = (refl, by_place place (ident known (length known.edits) place) refl h)
      by true false (Err fault) h = cc
      by true true place h = cc
      by false own place h = cc

  serving_refuses : (place : Place) (refusal : Outcome) → serving known mech place ≡ Err refusal → is_accepted refusal ≡ false
  unfolding serving
  serving_refuses place refusal is = by (ident known (length known.edits) place) is
    where
      by_chosen : (identity : Row) (o : Option (ℕ × Credential)) → ◌≡◌ {A = Result Row Outcome} (ok_or o outcomes.NoCredential >>= λ c. Ok identity) (Err refusal) → is_accepted refusal ≡ false
      by_chosen identity None h = rw (← same_Err outcomes.NoCredential refusal h) refl
      by_chosen identity (Some c) h = cc

      by : (o : Option Row) → ◌≡◌ {A = Result Row Outcome} (ok_or o outcomes.Unknown >>= λ identity. ok_or (chosen mech identity) outcomes.NoCredential >>= λ c. Ok identity) (Err refusal) → is_accepted refusal ≡ false
      by None h = rw (← same_Err outcomes.Unknown refusal h) refl
      by (Some identity) h = by_chosen identity (chosen mech identity) h

  pub naming_refuses : (refusal : Outcome) → naming known mech claim ≡ Err refusal → is_accepted refusal ≡ false
  unfolding naming
  naming_refuses refusal is = by (is_claim_of mech claim) (is_other claim) (place_of known.given (claimed_name claim)) is
    where
      by_serving : (place : Place) (o : Result Row Outcome) → serving known mech place ≡ o
          → after_serving place o ≡ Err refusal → is_accepted refusal ≡ false
      by_serving place (Ok identity) e h = cc
      by_serving place (Err other) e h = rw (← same_Err other refusal h) (serving_refuses place other e)

      by : (form own : Bool) (place : Result Place PipeFault) → after_tests form own place (serving known mech) ≡ Err refusal → is_accepted refusal ≡ false
      by true false (Ok place) h = by_serving place (serving known mech place) refl h
      by true false (Err fault) h = rw (← same_Err (outcomes.Pipe fault) refusal h) refl
      by true true place h = rw (← same_Err outcomes.Authzid refusal h) refl
      by false own place h = rw (← same_Err (outcomes.Mechanism mech) refusal h) refl
