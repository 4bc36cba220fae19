-- A step of one login, as a step among all of them.
use Rattle.std.proofs.Common.{◌≡◌, ℕ, Bool, true, false, cond, eqb, List, [], Some, None, Ok, Err, Result, refl, sym, ap, subst, ◌∙◌, eqb-true}
use Rattle.std.specs.Prelude.{◌==◌, OnErr, IfOk}
use Rattle.std.specs.Option.{option_map}
use Rattle.std.proofs.lemmas.Option.{same_Some}
use Rattle.ely_login.specs.declared.outcome.Outcome.{Outcome}
use Rattle.ely_login.specs.declared.outcome.Outcome.TheVariants as outcomes
use Rattle.ely_context.specs.Contexts.{ContextLogin}
use Rattle.ely_context.specs.Logins.{login_of, with_login, without_login, each_login, AreRising}
use Rattle.ely_context.proofs.LoginLemmas.{login_of-each_login, login_of-with_login, login_of-without_login, with_login-each_login, with_login-same}
use Rattle.ely_context.proofs.StageLemmas.{state-view}
use Rattle.ely_context.specs.Stages.{state_of}
use Rattle.ely_domain.specs.declared.event.Event.{Event}
use Rattle.ely_domain.specs.declared.prepared.Prepared.{Prepared}
use Rattle.ely_domain.specs.Contexts.{pinned, seen_login, seen_live, IsSound, IsSoundAt, IsReply, Answers, AnswersBy}
use Rattle.ely_cache.specs.declared.caches.RealmCache.{RealmCache}
use Rattle.ely_login.specs.declared.word.CacheWord.{CacheWord}
use Rattle.ely_domain.specs.Caches.{found_in, founds_of}
use Rattle.ely_domain.specs.Costs.{cost_for, login_cost, RoseBy}
use Rattle.ely_domain.specs.Identities.{Known}
use Rattle.ely_domain.specs.Machine.{Answered, answered, answered_for, carried_out}
use Rattle.ely_digest.specs.Nonces.{Nonces}
use Rattle.ely_domain.specs.Steps.{Reply, NotDue, Stays, Moves, reply, used_by, carried, is_carried, not_due, not_there}
use Rattle.ely_domain.proofs.Founds.{found_there}
use Rattle.ely_domain.proofs.Using.{not_due_uses, gone_uses, stays_uses}

module _ (known : Known) (logins : List (ℕ × ContextLogin)) (nonces : Nonces) (event : Event) (id : ℕ) where
  -- a step of a login that isn't there
  pub none_answered : None ≡ login_of logins id
      → answered known (seen_live logins nonces) event id ≡ record { outcome = not_there event; live = seen_live logins nonces }
  unfolding answered
  none_answered none =
      ap (answered_for known (seen_live logins nonces) event id) (login_of-each_login seen_login logins id ∙ ap (option_map seen_login) (sym none))

  -- the list where the login is put that a step left
  unchanged : (old new : ContextLogin) → AreRising logins → login_of logins id ≡ Some old → new ≡ old
      → seen_live logins nonces ≡ seen_live (with_login logins id new) nonces
  unchanged old new rising found same =
      ap (λ ls. seen_live ls nonces) (sym (with_login-same logins id old rising found) ∙ ap (with_login logins id) (sym same))

  -- a reply that is carried out on what is seen
  replied : (old new : ContextLogin) (outcome : Outcome) (r : Reply) → AreRising logins → login_of logins id ≡ Some old
      → ((said : Outcome) → r ≡ Stays said → used_by nonces event said ≡ nonces)
      → IsReply r (not_due event) old outcome new
      → carried_out (seen_live logins nonces) event id (seen_login old) r
      ≡ record { outcome = outcome; live = seen_live (with_login logins id new) (used_by nonces event outcome) }
  replied old new outcome NotDue rising found stays is =
      rw (is.0, not_due_uses nonces event (state_of old.stage), ← unchanged old new rising found is.1)
      (ap (λ s. (let a : Answered = record { outcome = not_due event s; live = seen_live logins nonces } in a)) (state-view pinned (λ key. tt) old.stage))
  replied old new outcome (Stays said) rising found stays is =
      rw (is.0, stays said refl, ← unchanged old new rising found is.1) refl
  replied old new outcome (Moves said stage) rising found stays is =
      rw is.0 (ap (λ ls. (let a : Answered = record { outcome = said; live = record { logins = ls; nonces = used_by nonces event said } } in a))
      (ap (with_login (each_login seen_login logins) id) (sym is.1) ∙ with_login-each_login seen_login logins id new))

  -- a step of a login that was found
  pub found_answered : (old new : ContextLogin) (outcome : Outcome) (nonces' : Nonces) → AreRising logins → login_of logins id ≡ Some old
      → Answers known nonces event old outcome new → nonces' ≡ used_by nonces event outcome
      → answered known (seen_live logins nonces) event id ≡ record { outcome = outcome; live = seen_live (with_login logins id new) nonces' }
  unfolding answered
  found_answered old new outcome nonces' rising found answers used =
      ap (answered_for known (seen_live logins nonces) event id) (login_of-each_login seen_login logins id ∙ ap (option_map seen_login) found)
      ∙ by (is_carried (carried event) old.serial) answers
      ∙ ap (λ ns. (let a : Answered = record { outcome = outcome; live = seen_live (with_login logins id new) ns } in a)) (sym used)
    where
      by : (b : Bool) → AnswersBy b known nonces event old outcome new
          → cond {A = Answered} b (carried_out (seen_live logins nonces) event id (seen_login old) (reply known nonces (seen_login old) event))
          (record { outcome = outcomes.Gone; live = seen_live logins nonces })
          ≡ record { outcome = outcome; live = seen_live (with_login logins id new) (used_by nonces event outcome) }
      by true is =
          replied old new outcome (reply known nonces (seen_login old) event) rising found
          (stays_uses known nonces (seen_login old) event) is
      by false is = rw (is.0, gone_uses nonces event, ← unchanged old new rising found is.1) refl

  -- the same of an answer that may want memory
  pub found_all : {E : Type 0} (old new : ContextLogin) (result : Result (Outcome × CacheWord) E) (nonces' : Nonces) → AreRising logins
      → login_of logins id ≡ Some old
      → IfOk result (λ said. Answers known nonces event old said.0 new)
      → IfOk result (λ said. nonces' ≡ used_by nonces event said.0)
      → IfOk result (λ said. answered known (seen_live logins nonces) event id
      ≡ record { outcome = said.0; live = seen_live (with_login logins id new) nonces' })
  found_all old new (Ok said) nonces' rising found answers used = found_answered old new said.0 nonces' rising found answers used
  found_all old new (Err e) nonces' rising found answers used = answers

  -- what it costs
  pub found_cost : (old : ContextLogin) (before after : ℕ) → login_of logins id ≡ Some old
      → RoseBy before after (cost_for known (found_in old) event (Some (seen_login old)))
      → RoseBy before after (login_cost known (founds_of logins) (seen_live logins nonces) event id)
  found_cost old before after found rose =
      rw (found_there logins id old found, login_of-each_login seen_login logins id, found) rose

-- every login stays sound where one moves
module _ (known : Known) (logins : List (ℕ × ContextLogin)) (prepared prepared' : List (ℕ × Prepared)) (id : ℕ) (new : ContextLogin)
    (sound : IsSound known logins prepared) (others : (c : ℕ) → (c == id) ≡ false → login_of prepared' c ≡ login_of prepared c) where
  pub moved_stays : IsSoundAt known (login_of prepared' id) new → IsSound known (with_login logins id new) prepared'
  moved_stays is c login found = by (eqb c id) refl
    where
      by : (b : Bool) → eqb c id ≡ b → IsSoundAt known (login_of prepared' c) login
      by true e =
          let here : new ≡ login = same_Some _ _ (sym (login_of-with_login logins id new c ∙ ap (λ b. cond b (Some new) (login_of logins c)) e) ∙ found) in
          rw (eqb-true c id e, ← here) is
      by false e =
          let there : login_of logins c ≡ Some login = sym (login_of-with_login logins id new c ∙ ap (λ b. cond b (Some new) (login_of logins c)) e) ∙ found in
          rw (others c e) (sound c login there)

-- and where one is taken away
pub closed_stays : (known : Known) (logins : List (ℕ × ContextLogin)) (prepared : List (ℕ × Prepared)) (id : ℕ)
    → IsSound known logins prepared → IsSound known (without_login logins id) (without_login prepared id)
closed_stays known logins prepared id sound c login found = by (eqb c id) refl
  where
    by : (b : Bool) → eqb c id ≡ b → IsSoundAt known (login_of (without_login prepared id) c) login
    by true e = absurd (true_is_none (sym (login_of-without_login logins id c ∙ ap (λ b. cond b None (login_of logins c)) e) ∙ found))
      where
        true_is_none : None ≡ Some login → ⊥
        true_is_none h = cc
    by false e =
        let there : login_of logins c ≡ Some login = sym (login_of-without_login logins id c ∙ ap (λ b. cond b None (login_of logins c)) e) ∙ found in
        rw (login_of-without_login prepared id c, e) (sound c login there)

-- what a refused step leaves is what was there
pub kept_all : {A E : Type 0} (result : Result A E) (logins : List (ℕ × ContextLogin)) (nonces nonces' : Nonces)
    (prepared prepared' : List (ℕ × Prepared)) (caches caches' : List RealmCache) (id : ℕ) (old new : ContextLogin)
    → AreRising logins → login_of logins id ≡ Some old
    → OnErr result ((nonces' ≡ nonces) × (new ≡ old) × (prepared' ≡ prepared) × (caches' ≡ caches))
    → OnErr result ((with_login logins id new ≡ logins) × (nonces' ≡ nonces) × (prepared' ≡ prepared) × (caches' ≡ caches))
kept_all (Ok x) logins nonces nonces' prepared prepared' caches caches' id old new rising found same = same
kept_all (Err e) logins nonces nonces' prepared prepared' caches caches' id old new rising found same =
    (ap (with_login logins id) same.1 ∙ with_login-same logins id old rising found, same.0, same.2, same.3)

-- no logins are sound
pub nothing_sound : (known : Known) (logins : List (ℕ × ContextLogin)) (prepared : List (ℕ × Prepared)) → logins ≡ [] → IsSound known logins prepared
nothing_sound known logins prepared none = subst (λ ls. IsSound known ls prepared) (sym none) (λ c login found. cc)
