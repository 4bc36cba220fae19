-- What a further edit leaves as it was.
use Rattle.std.proofs.Common.{◌≡◌, ℕ, ◌≤◌, List, [], ◌∷◌, ◌++◌, length, Option, Some, None, sym, ap, ◌∙◌, arith}
use Rattle.std.specs.Prelude.{IfSome}
use Rattle.std.specs.Option.{option_and_then}
use Rattle.std.proofs.lemmas.List.{take-append-le, length-append}
use Rattle.ely_row.specs.declared.edit.Edit.{Edit}
use Rattle.ely_row.specs.declared.mech.Mech.{Mech}
use Rattle.ely_pipeline.specs.declared.place.Place.{Place}
use Rattle.ely_cred.specs.Keys.{Ready, ready_of}
use Rattle.ely_context.specs.declared.naming.Naming.{Naming}
use Rattle.ely_context.specs.declared.pin.Pin.{Pin}
use Rattle.ely_context.specs.declared.stage.Stage.TheVariants.{Fresh, Loading, Named, Checking, Proved, Authorized, Complete, Failed}
use Rattle.ely_context.specs.Contexts.{ContextStage, ContextLogin}
use Rattle.ely_domain.specs.declared.prepared.Prepared.{Prepared}
use Rattle.ely_domain.specs.Contexts.{IsPin, IsKey, HoldsIts, HasHandout, IsSound}
use Rattle.ely_domain.specs.Identities.{Known, identity_after, ident, key_at, roles_in, roles, grants}
use Rattle.ely_perm.specs.Grants.{granted}

-- what is known after one more edit
abbrev pub more : Known → Edit → Known
more known e = record { given = known.given; edits = known.edits ++ e ∷ [] }

-- the identity at a version stays, and so do its key and its roles
pub ident_stays : (known : Known) (e : Edit) (version : ℕ) (place : Place) → version ≤ length known.edits
    → ident (more known e) version place ≡ ident known version place
ident_stays known e version place past =
    ap (λ es. identity_after known.given es place.realm place.name) (take-append-le version known.edits (e ∷ []) past)

pub key_stays : (known : Known) (e : Edit) (mech : Mech) (version : ℕ) (place : Place) → version ≤ length known.edits
    → key_at (more known e) mech version place ≡ key_at known mech version place
unfolding key_at
key_stays known e mech version place past =
    ap (option_and_then (ready_of known.given.config.params place.realm place.name mech)) (ident_stays known e version place past)

pub roles_stay : (known : Known) (e : Edit) (version : ℕ) (place : Place) → version ≤ length known.edits
    → roles (more known e) version place ≡ roles known version place
roles_stay known e version place past =
    ap (roles_in known.given.config place.realm) (ident_stays known e version place past)

-- and so does each permission
pub grants_stay : (known : Known) (e : Edit) (version : ℕ) (place : Place) (wanted : List ℕ) → version ≤ length known.edits
    → grants (more known e) version place wanted ≡ grants known version place wanted
unfolding grants
grants_stay known e version place wanted past =
    ap (λ found. granted known.given.config.permissions place.name found wanted) (roles_stay known e version place past)

-- a pin stays one
pin_stays : (known : Known) (e : Edit) (mech : Mech) (p : Pin) → IsPin known mech p → IsPin (more known e) mech p
pin_stays known e mech p is = record {
  past = omega (arith, is.past, length-append known.edits (e ∷ []));
  row_is = ident_stays known e p.version p.place is.past ∙ is.row_is;
  serves = is.serves;
  form = is.form;
  held = held_stays p.held is.held;
  hit = is.hit;
}
  where
    held_stays : (o : Option Ready) → IfSome o (λ ready. key_at known mech p.version p.place ≡ Some ready)
        → IfSome o (λ ready. key_at (more known e) mech p.version p.place ≡ Some ready)
    held_stays None h = tt
    held_stays (Some ready) h = key_stays known e mech p.version p.place is.past ∙ h

key_holds : (known : Known) (e : Edit) (mech : Mech) (nonce : List ℕ) (p : Pin) (key : Naming) → p.version ≤ length known.edits
    → IsKey known mech nonce p key → IsKey (more known e) mech nonce p key
key_holds known e mech nonce p key past is =
    record { ready_is = key_stays known e mech p.version p.place past ∙ is.ready_is; first_is = is.first_is }

holds_stay : (known : Known) (e : Edit) (mech : Mech) (nonce : List ℕ) (stage : ContextStage)
    → HoldsIts known mech nonce stage → HoldsIts (more known e) mech nonce stage
holds_stay known e mech nonce Fresh holds = tt
holds_stay known e mech nonce (Loading p) holds = pin_stays known e mech p holds
holds_stay known e mech nonce (Named p key) holds =
    (pin_stays known e mech p holds.0, key_holds known e mech nonce p key holds.0.past holds.1)
holds_stay known e mech nonce (Checking p key evidence) holds =
    (pin_stays known e mech p holds.0, key_holds known e mech nonce p key holds.0.past holds.1, holds.2)
holds_stay known e mech nonce (Proved p) holds = pin_stays known e mech p holds
holds_stay known e mech nonce (Authorized p) holds = pin_stays known e mech p holds
holds_stay known e mech nonce (Complete p) holds = pin_stays known e mech p holds
holds_stay known e mech nonce Failed holds = tt

handout_stays : (known : Known) (e : Edit) (mech : Mech) (nonce : List ℕ) (prepared : Option Prepared) (stage : ContextStage)
    → HoldsIts known mech nonce stage → HasHandout known prepared stage → HasHandout (more known e) prepared stage
handout_stays known e mech nonce prepared Fresh holds has = tt
handout_stays known e mech nonce prepared (Loading p) holds has = tt
handout_stays known e mech nonce prepared (Named p key) holds has = tt
handout_stays known e mech nonce prepared (Checking p key evidence) holds has = tt
handout_stays known e mech nonce prepared (Proved p) holds has = tt
handout_stays known e mech nonce prepared (Authorized p) holds has =
    has ∙ ap (λ found. Some (let r : Prepared = record { version = p.version; place = p.place; roles = found } in r))
    (sym (roles_stay known e p.version p.place holds.past))
handout_stays known e mech nonce prepared (Complete p) holds has = tt
handout_stays known e mech nonce prepared Failed holds has = tt

-- logins stay sound
pub sound_stays : (known : Known) (e : Edit) (logins : List (ℕ × ContextLogin)) (prepared : List (ℕ × Prepared))
    → IsSound known logins prepared → IsSound (more known e) logins prepared
sound_stays known e logins prepared sound c login found =
    let was = sound c login found in
    (holds_stay known e login.mech login.nonce login.stage was.0, handout_stays known e login.mech login.nonce _ login.stage was.0 was.1)
