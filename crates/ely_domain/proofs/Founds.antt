-- What the namings of live logins found, as logins come, move and go.
use Rattle.std.proofs.Common.{◌≡◌, ℕ, List, Option, Some, sym, ap, ◌∙◌}
use Rattle.std.specs.Prelude.{unwrap_or}
use Rattle.std.specs.Option.{option_map}
use Rattle.ely_login.specs.declared.word.CacheWord.{CacheWord}
use Rattle.ely_login.specs.declared.word.CacheWord.TheVariants as words
use Rattle.ely_context.specs.Contexts.{ContextLogin}
use Rattle.ely_context.specs.Logins.{AreRising, login_of, with_login, without_login}
use Rattle.ely_context.proofs.LoginLemmas.{login_of-each_login, with_login-each_login, with_login-same, without_login-each_login}
use Rattle.ely_domain.specs.Caches.{found_in, founds_of}
use Rattle.ely_domain.specs.Keeping.{found_at}

module _ (logins : List (ℕ × ContextLogin)) (id : ℕ) where
  pub founds_moved : (new : ContextLogin) → founds_of (with_login logins id new) ≡ with_login (founds_of logins) id (found_in new)
  founds_moved new = sym (with_login-each_login found_in logins id new)

  pub founds_closed : founds_of (without_login logins id) ≡ without_login (founds_of logins) id
  founds_closed = sym (without_login-each_login found_in logins id)

  pub found_there : (login : ContextLogin) → login_of logins id ≡ Some login → found_at (founds_of logins) id ≡ found_in login
  found_there login is =
      ap (λ (o : Option CacheWord). unwrap_or o words.None) (login_of-each_login found_in logins id ∙ ap (option_map found_in) is)

  -- what a login found that stands there is there
  pub founds_same : (login : ContextLogin) → AreRising logins → login_of logins id ≡ Some login
      → with_login (founds_of logins) id (found_in login) ≡ founds_of logins
  founds_same login rise is = sym (founds_moved login) ∙ ap founds_of (with_login-same logins id login rise is)
