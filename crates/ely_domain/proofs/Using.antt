-- Uses of nonces: which steps use one, and how a use is refused.
use Rattle.std.proofs.Common.{◌≡◌, ℕ, Bool, true, false, cond, Option, Some, None, Result, Ok, Err, ◌⊎◌, inl, inr, refl, sym, ap, ◌∙◌}
use Rattle.std.proofs.lemmas.Option.{same_Some}
use Rattle.ely_digest.specs.declared.nonce_table.SpendFault.{SpendFault}
use Rattle.ely_digest.specs.declared.nonce_table.SpendFault.TheVariants as faults
use Rattle.ely_digest.specs.Nonces.{Nonces, last_count, spending}
use Rattle.ely_login.specs.declared.claim.Evidence.{Evidence}
use Rattle.ely_login.specs.declared.claim.Evidence.TheVariants as evidences
use Rattle.ely_login.specs.declared.outcome.Outcome.{Outcome}
use Rattle.ely_login.specs.declared.outcome.Outcome.TheVariants as outcomes
use Rattle.ely_login.specs.declared.word.StateWord.{StateWord}
use Rattle.ely_login.specs.Outcomes.{is_accepted}
use Rattle.ely_context.specs.declared.stage.Stage.TheVariants.{Fresh, Loading, Named, Checking, Proved, Authorized, Complete, Failed}
use Rattle.ely_domain.specs.declared.event.Event.{Event}
use Rattle.ely_domain.specs.declared.event.Event.TheVariants as events
use Rattle.ely_domain.specs.Identities.{Known}
use Rattle.ely_domain.specs.Logins.{Pinned, KnownStage, KnownLogin}
use Rattle.ely_domain.specs.Steps.{Stays, is_evidence_of, use_refusal, shown_refusal, shown_or, used_by, check1, reply, not_due}

-- the nonces stay as they were where the outcome isn't that of a use
pub not_due_uses : (nonces : Nonces) (event : Event) (state : StateWord) → used_by nonces event (not_due event state) ≡ nonces
not_due_uses nonces (events.Check1 c serial evidence) state = refl
not_due_uses nonces (events.Bad bad) state = refl
not_due_uses nonces (events.Change edit) state = refl
not_due_uses nonces (events.Begin c mech brought) state = refl
not_due_uses nonces (events.Name1 c claim) state = refl
not_due_uses nonces (events.Name2 c serial brought) state = refl
not_due_uses nonces (events.Check2 c serial brought) state = refl
not_due_uses nonces (events.Authorize c) state = refl
not_due_uses nonces (events.Allows c wanted) state = refl
not_due_uses nonces (events.Succeed c) state = refl
not_due_uses nonces (events.Fail c) state = refl
not_due_uses nonces (events.Close c) state = refl

pub gone_uses : (nonces : Nonces) (event : Event) → used_by nonces event outcomes.Gone ≡ nonces
gone_uses nonces (events.Check1 c serial evidence) = refl
gone_uses nonces (events.Bad bad) = refl
gone_uses nonces (events.Change edit) = refl
gone_uses nonces (events.Begin c mech brought) = refl
gone_uses nonces (events.Name1 c claim) = refl
gone_uses nonces (events.Name2 c serial brought) = refl
gone_uses nonces (events.Check2 c serial brought) = refl
gone_uses nonces (events.Authorize c) = refl
gone_uses nonces (events.Allows c wanted) = refl
gone_uses nonces (events.Succeed c) = refl
gone_uses nonces (events.Fail c) = refl
gone_uses nonces (events.Close c) = refl

none_is_some : {refusal : Outcome} → ◌≡◌ {A = Option Outcome} None (Some refusal) → ⊥
none_is_some h = cc

-- a use that isn't accepted is of a nonce that isn't known, or was used so often already
abbrev pub IsUseRefusal : Outcome → Type 0
IsUseRefusal refusal = (refusal ≡ outcomes.Stale) ⊎ ((last : ℕ) × (refusal ≡ outcomes.Replayed last))

refused_use : (used : Result (Unit {0}) SpendFault) (refusal : Outcome) → use_refusal used ≡ Some refusal → IsUseRefusal refusal
refused_use (Ok used) refusal is = absurd (none_is_some is)
refused_use (Err faults.Stale) refusal is = inl (sym (same_Some _ _ is))
refused_use (Err (faults.Replayed last)) refusal is = inr (last, sym (same_Some _ _ is))

pub refused_by : (nonces : Nonces) (evidence : Evidence) (refusal : Outcome) → shown_refusal nonces evidence ≡ Some refusal
    → IsUseRefusal refusal
refused_by nonces (evidences.Plain password) refusal is = absurd (none_is_some is)
refused_by nonces (evidences.Scram last) refusal is = absurd (none_is_some is)
refused_by nonces (evidences.Digest reply method target) refusal is =
    refused_use (spending (last_count nonces reply.nonce) reply.nc) refusal is

pub shown_refuses : (nonces : Nonces) (evidence : Evidence) (refusal : Outcome) → shown_refusal nonces evidence ≡ Some refusal
    → is_accepted refusal ≡ false
shown_refuses nonces evidence refusal is = by (refused_by nonces evidence refusal is)
  where
    by : IsUseRefusal refusal → is_accepted refusal ≡ false
    by (inl stale) = rw stale refl
    by (inr replayed) = rw replayed.1 refl

refused_uses : (nonces : Nonces) (c : ℕ) (serial : Option ℕ) (evidence : Evidence) (refusal : Outcome)
    → shown_refusal nonces evidence ≡ Some refusal → used_by nonces (events.Check1 c serial evidence) refusal ≡ nonces
refused_uses nonces c serial evidence refusal is = by (refused_by nonces evidence refusal is)
  where
    by : IsUseRefusal refusal → used_by nonces (events.Check1 c serial evidence) refusal ≡ nonces
    by (inl stale) = rw stale refl
    by (inr replayed) = rw replayed.1 refl

-- a login that stays as it was has used no nonce
pub stays_uses : (known : Known) (nonces : Nonces) (login : KnownLogin) (event : Event) (said : Outcome)
    → reply known nonces login event ≡ Stays said → used_by nonces event said ≡ nonces
stays_uses known nonces login (events.Check1 c serial evidence) said stays = by_stage login.stage stays
  where
    by_refusal : (p : Pinned) (key : Unit {0}) (o : Option Outcome) → shown_refusal nonces evidence ≡ o
        → shown_or evidence (Named p key) o ≡ Stays said → used_by nonces (events.Check1 c serial evidence) said ≡ nonces
    by_refusal p key None is stays = cc
    by_refusal p key (Some refusal) is stays =
        let same : refusal ≡ said = cc in
        refused_uses nonces c serial evidence said (is ∙ ap Some same)

    by_form : (p : Pinned) (key : Unit {0}) (b : Bool)
        → cond b (shown_or evidence (Named p key) (shown_refusal nonces evidence)) (Stays (outcomes.Mechanism login.mech)) ≡ Stays said
        → used_by nonces (events.Check1 c serial evidence) said ≡ nonces
    by_form p key true stays = by_refusal p key (shown_refusal nonces evidence) refl stays
    by_form p key false stays =
        let same : outcomes.Mechanism login.mech ≡ said = cc in
        ap (used_by nonces (events.Check1 c serial evidence)) (sym same)

    by_stage : (stage : KnownStage) → check1 nonces login evidence stage ≡ Stays said
        → used_by nonces (events.Check1 c serial evidence) said ≡ nonces
    by_stage (Named p key) stays = by_form p key (is_evidence_of login.mech evidence) stays
    by_stage Fresh stays = cc
    by_stage (Loading p) stays = cc
    by_stage (Checking p key shown) stays = cc
    by_stage (Proved p) stays = cc
    by_stage (Authorized p) stays = cc
    by_stage (Complete p) stays = cc
    by_stage Failed stays = cc
stays_uses known nonces login (events.Bad bad) said stays = refl
stays_uses known nonces login (events.Change edit) said stays = refl
stays_uses known nonces login (events.Begin c mech brought) said stays = refl
stays_uses known nonces login (events.Name1 c claim) said stays = refl
stays_uses known nonces login (events.Name2 c serial brought) said stays = refl
stays_uses known nonces login (events.Check2 c serial brought) said stays = refl
stays_uses known nonces login (events.Authorize c) said stays = refl
stays_uses known nonces login (events.Allows c wanted) said stays = refl
stays_uses known nonces login (events.Succeed c) said stays = refl
stays_uses known nonces login (events.Fail c) said stays = refl
stays_uses known nonces login (events.Close c) said stays = refl
