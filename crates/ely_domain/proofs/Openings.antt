-- Logins that are opened, and that are closed.
use Rattle.std.proofs.Common.{◌≡◌, ℕ, ◌+◌, ◌<◌, ◌≤◌, Bool, true, false, cond, leb, List, length, Option, Some, None, refl, sym, ap, ◌∙◌, arith}
use Rattle.std.proofs.lemmas.Bool.Decides.{nat_tests}
use Rattle.std.proofs.lemmas.List.{length-map}
use Rattle.std.specs.Prelude.{is_some}
use Rattle.std.specs.Option.{option_map}
use Rattle.ely_row.specs.declared.edit.Edit.{Edit}
use Rattle.ely_row.specs.declared.mech.Mech.{Mech}
use Rattle.ely_login.specs.declared.outcome.Outcome.{Outcome}
use Rattle.ely_login.specs.declared.outcome.Outcome.TheVariants as outcomes
use Rattle.ely_login.specs.declared.word.StateWord.TheVariants as states
use Rattle.ely_context.specs.Contexts.{ContextLogin}
use Rattle.ely_context.specs.ContextTable as table
use Rattle.ely_context.specs.Logins.{login_of, with_login, without_login, each_login}
use Rattle.ely_context.proofs.LoginLemmas.{login_of-each_login, with_login-each_login, without_login-each_login}
use Rattle.ely_domain.specs.Contexts.{seen_login, seen_live}
use Rattle.ely_domain.specs.Given.{Given, nonce_of}
use Rattle.ely_digest_msg.specs.declared.header.DigestAlg.{DigestAlg}
use Rattle.ely_digest.specs.Nonces.{Nonces}
use Rattle.ely_domain.specs.Logins.{KnownLogin}
use Rattle.ely_domain.specs.Machine.{Machine, Stepped, alg_of, is_used, issued, challenge, begin, opening_fault, closed, with_answered}

-- whether something is there is the same of what is seen of it
pub is_some-map : {A B : Type 0} (f : A → B) (o : Option A) → is_some (option_map f o) ≡ is_some o
is_some-map f None = refl
is_some-map f (Some x) = refl

module _ (logins : List (ℕ × ContextLogin)) (nonces : Nonces) (id : ℕ) where
  entry_seen : ℕ × ContextLogin → ℕ × KnownLogin
  entry_seen entry = (entry.0, seen_login entry.1)

  seen_count : length (each_login seen_login logins) ≡ length logins
  unfolding entry_seen
  seen_count = length-map logins entry_seen

  there_seen : is_some (login_of (seen_live logins nonces).logins id) ≡ is_some (login_of logins id)
  there_seen = ap is_some (login_of-each_login seen_login logins id) ∙ is_some-map seen_login (login_of logins id)

  -- why no login can be opened, by what is found and counted
  module _ (nonce : List ℕ) (alg : Option DigestAlg) where
    pub in_use : is_some (login_of logins id) ≡ true → Some outcomes.InUse ≡ opening_fault (seen_live logins nonces) id nonce alg
    in_use there = rw (there_seen, there) refl

    pub all_in_use : is_some (login_of logins id) ≡ false → 4096 ≤ length logins
        → Some outcomes.ContextsFull ≡ opening_fault (seen_live logins nonces) id nonce alg
    all_in_use absent many =
        let full : leb 4096 (length (each_login seen_login logins)) ≡ true = grind (arith, nat_tests, seen_count) in
        rw (there_seen, absent, full) refl

    pub nonce_known : is_some (login_of logins id) ≡ false → length logins < 4096 → is_used nonces nonce alg ≡ true
        → Some outcomes.NonceUsed ≡ opening_fault (seen_live logins nonces) id nonce alg
    nonce_known absent few used =
        let room : leb 4096 (length (each_login seen_login logins)) ≡ false = grind (arith, nat_tests, seen_count) in
        rw (there_seen, absent, room, used) refl

    pub has_room : is_some (login_of logins id) ≡ false → length logins < 4096 → is_used nonces nonce alg ≡ false
        → None ≡ opening_fault (seen_live logins nonces) id nonce alg
    has_room absent few unused =
        let room : leb 4096 (length (each_login seen_login logins)) ≡ false = grind (arith, nat_tests, seen_count) in
        rw (there_seen, absent, room, unused) refl

    -- where nothing stands against it, no login is there, and the nonce isn't known
    some_is_none : {refusal : Outcome} → ◌≡◌ {A = Option Outcome} (Some refusal) None → ⊥
    some_is_none h = cc

    pub none_there : opening_fault (seen_live logins nonces) id nonce alg ≡ None → login_of logins id ≡ None
    none_there none = by (login_of logins id) refl
      where
        by : (o : Option ContextLogin) → login_of logins id ≡ o → o ≡ None
        by None is = refl
        by (Some login) is = absurd (some_is_none (in_use (ap is_some is) ∙ none))

    pub unused : opening_fault (seen_live logins nonces) id nonce alg ≡ None → is_used nonces nonce alg ≡ false
    unused none =
        by (is_some (login_of (seen_live logins nonces).logins id)) (leb 4096 (length (each_login seen_login logins))) (is_used nonces nonce alg) none
      where
        by : (there full used : Bool)
            → cond there (Some outcomes.InUse) (cond full (Some outcomes.ContextsFull) (cond used (Some outcomes.NonceUsed) None)) ≡ None
            → used ≡ false
        by true full used h = absurd (some_is_none h)
        by false true used h = absurd (some_is_none h)
        by false false true h = absurd (some_is_none h)
        by false false false h = refl

  -- a login that is opened
  pub begun : (given : Given) (edits : List Edit) (opened : ℕ) (mech : Mech) (brought : Option (List ℕ)) (nonce : List ℕ)
      (text : Option (List ℕ)) (logins' : List (ℕ × ContextLogin)) (nonces' : Nonces)
      → nonce ≡ nonce_of given mech (opened + 1) brought → opening_fault (seen_live logins nonces) id nonce (alg_of mech) ≡ None
      → text ≡ challenge given nonce (alg_of mech)
      → logins' ≡ with_login logins id (table.begin (opened + 1) mech nonce) → nonces' ≡ issued nonces nonce (alg_of mech)
      → (let m : Machine = record { edits = edits; live = seen_live logins nonces; opened = opened } in
      let s : Stepped = (outcomes.Opened (opened + 1) text, record { edits = edits; live = seen_live logins' nonces'; opened = opened + 1 }) in
      s ≡ begin given m id mech brought)
  begun given edits opened mech brought nonce text logins' nonces' nonce_is none text_is logins_is nonces_is =
      rw (logins_is, nonces_is, text_is, ← nonce_is, none)
      (ap (λ ls. (let s : Stepped = (
        outcomes.Opened (opened + 1) (challenge given nonce (alg_of mech)),
        record { edits = edits; live = record { logins = ls; nonces = issued nonces nonce (alg_of mech) }; opened = opened + 1 },
      ) in s))
      (sym (with_login-each_login seen_login logins id (table.begin (opened + 1) mech nonce))))

  -- a login that is closed
  pub closed_is : (edits : List Edit) (opened : ℕ) (there : Bool) (outcome : Outcome)
      → there ≡ is_some (login_of logins id) → outcome ≡ cond there outcomes.Fine (outcomes.State states.Absent)
      → (let m : Machine = record { edits = edits; live = seen_live logins nonces; opened = opened } in
      let s : Stepped = (outcome, record { edits = edits; live = seen_live (without_login logins id) nonces; opened = opened }) in
      s ≡ with_answered m (closed (seen_live logins nonces) id))
  unfolding closed
  closed_is edits opened there outcome there_is outcome_is =
      rw (there_seen, ← there_is, outcome_is, without_login-each_login seen_login logins id) refl
