-- What is known of a key that a place has.
use Rattle.std.proofs.Common.{◌≡◌, ℕ, List, Option, Some, None, refl, ap}
use Rattle.std.specs.Prelude.{IfSome}
use Rattle.std.specs.Option.{option_map, option_and_then}
use Rattle.ely_row.specs.declared.cred.Credential.{Credential}
use Rattle.ely_row.specs.declared.mech.Mech.{Mech}
use Rattle.ely_pipeline.specs.declared.place.Place.{Place}
use Rattle.ely_row.specs.Rows.{Row}
use Rattle.ely_row.specs.Salts.{Params}
use Rattle.ely_cred.specs.declared.key.ReadyKey.{ReadyKey}
use Rattle.ely_cred.specs.Keys.{Ready, chosen, key_of, ready_from, ready_of}
use Rattle.ely_domain.specs.Identities.{Known, ident, key_at}

-- a derived key is for the mechanism that it was asked for
keyed_mech : (d : Params) (realm name : List ℕ) (mech : Mech) (cred : Credential) (o : Option ReadyKey)
    → IfSome (option_map (ready_from d realm name mech cred) o) (λ k. k.mech ≡ mech)
keyed_mech d realm name mech cred None = tt
keyed_mech d realm name mech cred (Some key) = refl

ready_mech : (d : Params) (realm name : List ℕ) (mech : Mech) (row : Row)
    → IfSome (ready_of d realm name mech row) (λ k. k.mech ≡ mech)
unfolding ready_of
ready_mech d realm name mech row = by_chosen (chosen mech row)
  where
    by_chosen : (o : Option (ℕ × Credential))
        → IfSome (option_and_then (λ p. option_map (ready_from d realm name mech p.1) (key_of d realm name mech p.1)) o) (λ k. k.mech ≡ mech)
    by_chosen None = tt
    by_chosen (Some p) = keyed_mech d realm name mech p.1 (key_of d realm name mech p.1)

-- the key of a place is for the mechanism that it is asked for
pub key_mech : (known : Known) (mech : Mech) (version : ℕ) (place : Place) (ready : Ready)
    → key_at known mech version place ≡ Some ready → ready.mech ≡ mech
unfolding key_at
key_mech known mech version place ready is =
    rw is at (by_row (ident known version place))
  where
    by_row : (o : Option Row)
        → IfSome (option_and_then (ready_of known.given.config.params place.realm place.name mech) o) (λ k. k.mech ≡ mech)
    by_row None = tt
    by_row (Some row) = ready_mech known.given.config.params place.realm place.name mech row

-- the key of a place is that of the row that it has
pub key_of_row : (known : Known) (mech : Mech) (version : ℕ) (place : Place) (row : Row)
    → ident known version place ≡ Some row
    → key_at known mech version place ≡ ready_of known.given.config.params place.realm place.name mech row
unfolding key_at
key_of_row known mech version place row is =
    ap (option_and_then (ready_of known.given.config.params place.realm place.name mech)) is
