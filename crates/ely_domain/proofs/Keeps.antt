-- A step of one login, as it is kept among all of them.
use Rattle.std.proofs.Common.{◌≡◌, ℕ, Bool, true, false, cond, List, Option, Some, None, Result, Ok, Err, refl, sym, ap, ap₂, ◌∙◌}
use Rattle.std.specs.Prelude.{IfOk, is_some}
use Rattle.std.specs.Option.{option_map, option_map_or}
use Rattle.ely_cache.specs.declared.caches.RealmCache.{RealmCache}
use Rattle.ely_digest.specs.Nonces.{Nonces}
use Rattle.ely_login.specs.declared.outcome.Outcome.{Outcome}
use Rattle.ely_login.specs.declared.outcome.Outcome.TheVariants as outcomes
use Rattle.ely_login.specs.declared.word.CacheWord.{CacheWord}
use Rattle.ely_login.specs.declared.word.CacheWord.TheVariants as words
use Rattle.ely_login.specs.declared.word.StateWord.TheVariants as states
use Rattle.ely_login.specs.Outcomes.{is_accepted}
use Rattle.ely_context.specs.Contexts.{ContextLogin}
use Rattle.ely_context.specs.Logins.{AreRising, login_of, with_login}
use Rattle.ely_context.proofs.LoginLemmas.{login_of-each_login}
use Rattle.ely_domain.specs.declared.event.Event.{Event}
use Rattle.ely_domain.specs.declared.event.Event.TheVariants as events
use Rattle.ely_domain.specs.Caches.{Keeps, KeepsBy, found_after, found_in, founds_of, kept_in, lists_of}
use Rattle.ely_domain.specs.Contexts.{seen_live, seen_login}
use Rattle.ely_domain.specs.Identities.{Known}
use Rattle.ely_domain.specs.Keeping.{Founds, Kept, Nothing, found_at, founds_by, kept_on, kept_opened, lists_by, meaning, means, with_founds, word_by, word_on}
use Rattle.ely_domain.specs.KeptKeys.{stands_for}
use Rattle.ely_domain.specs.Logins.{KnownLogin, Live}
use Rattle.ely_domain.specs.Steps.{carried, not_there}
use Rattle.ely_domain.proofs.Founds.{founds_moved, founds_same, found_there}

module _ (known : Known) (logins : List (ℕ × ContextLogin)) (nonces : Nonces) (event : Event) (id : ℕ) where
  -- what a step of a login means that was found
  meaning_is : (old : ContextLogin) → login_of logins id ≡ Some old → meaning known (seen_live logins nonces) id event ≡ means known event (seen_login old)
  meaning_is old found =
      ap (λ (o : Option KnownLogin). option_map_or (means known event) o Nothing) (login_of-each_login seen_login logins id ∙ ap (option_map seen_login) found)

  -- what the namings found, where one login moved
  founds_are : (old new : ContextLogin) (shown : CacheWord) → AreRising logins → login_of logins id ≡ Some old
      → found_in new ≡ found_after event shown (found_in old) → founds_of (with_login logins id new) ≡ founds_by id event shown (founds_of logins)
  founds_are old new shown rise found is = founds_moved logins id new ∙ ap (with_login (founds_of logins) id) is ∙ by event
    where
      stays : with_login (founds_of logins) id (found_in old) ≡ founds_of logins
      stays = founds_same logins id old rise found

      by : (e : Event) → with_login (founds_of logins) id (found_after e shown (found_in old)) ≡ founds_by id e shown (founds_of logins)
      by (events.Name1 c claim) = refl
      by (events.Name2 c serial brought) = refl
      by (events.Fail c) = refl
      by (events.Bad bad) = stays
      by (events.Change edit) = stays
      by (events.Begin c mech brought) = stays
      by (events.Check1 c serial evidence) = stays
      by (events.Check2 c serial brought) = stays
      by (events.Authorize c) = stays
      by (events.Allows c wanted) = stays
      by (events.Succeed c) = stays
      by (events.Close c) = stays

  module _ (caches caches' : List RealmCache) (old new : ContextLogin) (outcome : Outcome) (shown : CacheWord)
      (rise : AreRising logins) (found : login_of logins id ≡ Some old) (keeps : Keeps known event outcome shown caches caches' old new) where
    pub word_among : stands_for shown ≡ word_on known (seen_live logins nonces) (kept_in caches logins) id event outcome
    word_among = by (is_accepted outcome) keeps
      where
        by : (b : Bool) → KeepsBy b known (means known event (seen_login old)) event shown (lists_of caches) (lists_of caches') (found_in old) (found_in new)
            → stands_for shown ≡ cond b (word_by known (lists_of caches) (found_at (founds_of logins) id) (meaning known (seen_live logins nonces) id event)) words.None
        by true k = k.0 ∙ ap₂ (word_by known (lists_of caches)) (sym (found_there logins id old found)) (sym (meaning_is old found))
        by false k = ap stands_for k.0

    pub kept_among : kept_in caches' (with_login logins id new) ≡ kept_on known (seen_live logins nonces) (kept_in caches logins) id event outcome shown
    kept_among = by (is_accepted outcome) keeps
      where
        by : (b : Bool) → KeepsBy b known (means known event (seen_login old)) event shown (lists_of caches) (lists_of caches') (found_in old) (found_in new)
            → kept_in caches' (with_login logins id new)
            ≡ cond {A = Kept} b
            (record { lists = lists_by (meaning known (seen_live logins nonces) id event) shown (lists_of caches); founds = founds_by id event shown (founds_of logins) })
            (kept_in caches logins)
        by true k =
            ap₂ (λ ls fs. (let kept : Kept = record { lists = ls; founds = fs } in kept))
            (k.1 ∙ ap (λ m. lists_by m shown (lists_of caches)) (sym (meaning_is old found))) (founds_are old new shown rise found k.2)
        by false k =
            ap₂ (λ ls fs. (let kept : Kept = record { lists = ls; founds = fs } in kept))
            k.1 (founds_moved logins id new ∙ ap (with_login (founds_of logins) id) k.2 ∙ founds_same logins id old rise found)

  -- the same of an answer that may want memory
  pub word_all : {E : Type 0} (caches caches' : List RealmCache) (old new : ContextLogin) (result : Result (Outcome × CacheWord) E)
      → AreRising logins → login_of logins id ≡ Some old → IfOk result (λ said. Keeps known event said.0 said.1 caches caches' old new)
      → IfOk result (λ said. stands_for said.1 ≡ word_on known (seen_live logins nonces) (kept_in caches logins) id event said.0)
  word_all caches caches' old new (Ok said) rise found keeps = word_among caches caches' old new said.0 said.1 rise found keeps
  word_all caches caches' old new (Err e) rise found keeps = keeps

  pub keeps_all : {E : Type 0} (caches caches' : List RealmCache) (old new : ContextLogin) (result : Result (Outcome × CacheWord) E)
      → AreRising logins → login_of logins id ≡ Some old → IfOk result (λ said. Keeps known event said.0 said.1 caches caches' old new)
      → IfOk result (λ said. kept_in caches' (with_login logins id new)
      ≡ kept_on known (seen_live logins nonces) (kept_in caches logins) id event said.0 said.1)
  keeps_all caches caches' old new (Ok said) rise found keeps = kept_among caches caches' old new said.0 said.1 rise found keeps
  keeps_all caches caches' old new (Err e) rise found keeps = keeps

-- a step of a login that isn't there is refused
pub not_there_refuses : (event : Event) → is_accepted (not_there event) ≡ false
not_there_refuses event = by (is_some (carried event))
  where
    by : (b : Bool) → is_accepted (cond b outcomes.Gone (outcomes.State states.Absent)) ≡ false
    by true = refl
    by false = refl

-- so it shows no word and leaves what is kept
module _ (known : Known) (logins : List (ℕ × ContextLogin)) (nonces : Nonces) (event : Event) (id : ℕ) (caches : List RealmCache) where
  pub word_of_none : words.None ≡ word_on known (seen_live logins nonces) (kept_in caches logins) id event (not_there event)
  word_of_none = rw (not_there_refuses event) refl

  pub kept_of_none : kept_in caches logins ≡ kept_on known (seen_live logins nonces) (kept_in caches logins) id event (not_there event) words.None
  kept_of_none = rw (not_there_refuses event) refl

-- ---- steps that mean nothing for the keys

module _ (k : Known) (live : Live) (kept : Kept) (c : ℕ) (event : Event) (none : (login : KnownLogin) → means k event login ≡ Nothing) where
  nothing : meaning k live c event ≡ Nothing
  nothing = by (login_of live.logins c)
    where
      by : (o : Option KnownLogin) → option_map_or (means k event) o Nothing ≡ Nothing
      by None = refl
      by (Some login) = none login

  -- no word is due
  pub no_words : {E : Type 0} (result : Result (Outcome × CacheWord) E) → IfOk result (λ said. stands_for said.1 ≡ word_on k live kept c event said.0)
      → IfOk result (λ said. stands_for said.1 ≡ words.None)
  no_words (Ok said) is = is ∙ by (is_accepted said.0)
    where
      by : (b : Bool) → cond b (word_by k kept.lists (found_at kept.founds c) (meaning k live c event)) words.None ≡ words.None
      by true = ap (word_by k kept.lists (found_at kept.founds c)) nothing
      by false = refl
  no_words (Err e) is = is

  -- the lists stay, and the namings under way found this
  one_stays : (said : Outcome × CacheWord) (after : Kept) (founds : Founds) → founds_by c event said.1 kept.founds ≡ founds
      → after ≡ kept_on k live kept c event said.0 said.1 → after ≡ kept_opened kept founds said.0
  one_stays said after founds found is = is ∙ by (is_accepted said.0)
    where
      by : (b : Bool) → cond {A = Kept} b (record { lists = lists_by (meaning k live c event) said.1 kept.lists; founds = founds_by c event said.1 kept.founds }) kept
          ≡ cond b (with_founds kept founds) kept
      by true = ap₂ (λ ls fs. (let after : Kept = record { lists = ls; founds = fs } in after)) (ap (λ m. lists_by m said.1 kept.lists) nothing) found
      by false = refl

  pub lists_stay : {E : Type 0} (result : Result (Outcome × CacheWord) E) (after : Kept) (founds : Founds)
      → ((shown : CacheWord) → founds_by c event shown kept.founds ≡ founds)
      → IfOk result (λ said. after ≡ kept_on k live kept c event said.0 said.1) → IfOk result (λ said. after ≡ kept_opened kept founds said.0)
  lists_stay (Ok said) after founds found is = one_stays said after founds (found said.1) is
  lists_stay (Err e) after founds found is = is

  -- all stays
  pub all_stays : {E : Type 0} (result : Result (Outcome × CacheWord) E) (after : Kept) → ((shown : CacheWord) → founds_by c event shown kept.founds ≡ kept.founds)
      → IfOk result (λ said. after ≡ kept_on k live kept c event said.0 said.1) → IfOk result (λ said. after ≡ kept)
  all_stays (Ok said) after found is = one_stays said after kept.founds (found said.1) is ∙ by (is_accepted said.0)
    where
      by : (b : Bool) → cond b (with_founds kept kept.founds) kept ≡ kept
      by true = refl
      by false = refl
  all_stays (Err e) after found is = is
