-- Logins as the machine knows them, found and changed.
use Rattle.std.proofs.Common.{◌≡◌, ℕ, false, cond, List, Option, Some, None, refl, sym, ap, ◌∙◌, eq-eqb}
use Rattle.std.specs.Prelude.{◌==◌}
use Rattle.std.specs.Option.{option_map}
use Rattle.ely_context.specs.Contexts.{ContextLogin}
use Rattle.ely_context.specs.Logins.{login_of, with_login, without_login, state_or_absent, state_at}
use Rattle.ely_context.proofs.LoginLemmas.{login_of-each_login, login_of-with_login, login_of-without_login}
use Rattle.ely_context.proofs.StageLemmas.{state-view}
use Rattle.ely_domain.specs.Contexts.{pinned, seen_login, seen_live}
use Rattle.ely_digest.specs.Nonces.{Nonces}
use Rattle.ely_domain.specs.Serials.{serial_at}

-- the state of a login that was found is the state that is seen
pub state_seen : (logins : List (ℕ × ContextLogin)) (nonces : Nonces) (id : ℕ) (found : Option ContextLogin)
    → found ≡ login_of logins id → state_or_absent found ≡ state_at (seen_live logins nonces).logins id
state_seen logins nonces id found is =
    alike found ∙ ap (λ o. state_or_absent (option_map seen_login o)) is
    ∙ ap state_or_absent (sym (login_of-each_login seen_login logins id))
  where
    alike : (o : Option ContextLogin) → state_or_absent o ≡ state_or_absent (option_map seen_login o)
    alike None = refl
    alike (Some login) = sym (state-view pinned (λ key. tt) login.stage)

-- and so is its serial
pub serial_seen : (logins : List (ℕ × ContextLogin)) (nonces : Nonces) (id : ℕ) (found : Option ContextLogin)
    → found ≡ login_of logins id → option_map (λ login. login.serial) found ≡ serial_at (seen_live logins nonces) id
serial_seen logins nonces id found is =
    alike found ∙ ap (λ o. option_map (λ login. login.serial) (option_map seen_login o)) is
    ∙ ap (option_map (λ login. login.serial)) (sym (login_of-each_login seen_login logins id))
  where
    alike : (o : Option ContextLogin)
        → option_map (λ login. login.serial) o ≡ option_map (λ login. login.serial) (option_map seen_login o)
    alike None = refl
    alike (Some login) = refl

module _ {L : Type 0} where
  -- every other id has what it had, where a login was put or taken away
  pub others_with : (logins : List (ℕ × L)) (id : ℕ) (login : L) (other : ℕ) → (other == id) ≡ false
      → login_of (with_login logins id login) other ≡ login_of logins other
  others_with logins id login other apart =
      login_of-with_login logins id login other ∙ ap (λ b. cond b (Some login) (login_of logins other)) apart

  pub itself_with : (logins : List (ℕ × L)) (id : ℕ) (login : L) → login_of (with_login logins id login) id ≡ Some login
  itself_with logins id login =
      login_of-with_login logins id login id ∙ ap (λ b. cond b (Some login) (login_of logins id)) (eq-eqb id id refl)

  pub others_without : (logins : List (ℕ × L)) (id other : ℕ) → (other == id) ≡ false
      → login_of (without_login logins id) other ≡ login_of logins other
  others_without logins id other apart =
      login_of-without_login logins id other ∙ ap (λ b. cond b None (login_of logins other)) apart
