-- The jobs of logins: which one a login at a stage has.
use Rattle.std.proofs.Common.{is_some, ◌≡◌, ℕ, Bool, true, false, cond, List, length, Option, Some, None, Ok, refl, sym, ap, subst, ◌∙◌, arith}
use Rattle.std.specs.Prelude.{IfSome, IsSome, option_and_then, nat_eq}
use Rattle.std.specs.Option.{option_map}
use Rattle.std.proofs.lemmas.Option.{same_Some}
use Rattle.ely_row.specs.declared.mech.Mech.{Mech}
use Rattle.ely_login.specs.declared.claim.Evidence.{Evidence}
use Rattle.ely_cred.specs.Keys.{Ready, ready_cost, ready_of}
use Rattle.ely_job.specs.declared.job.Work.{Work}
use Rattle.ely_job.specs.declared.job.Work.TheVariants as works
use Rattle.ely_job.specs.Dones.{Done}
use Rattle.ely_context.specs.declared.naming.Naming.{Naming}
use Rattle.ely_context.specs.declared.pin.Pin.{Pin}
use Rattle.ely_context.specs.declared.stage.Stage.TheVariants.{Fresh, Loading, Named, Checking, Proved, Authorized, Complete, Failed}
use Rattle.ely_context.specs.Contexts.{ContextStage, ContextLogin}
use Rattle.ely_context.specs.Stages.{loading_pin, named_parts, checked_parts, stage_view, state_of}
use Rattle.ely_login.specs.declared.claim.Claim.{Claim}
use Rattle.ely_login.specs.declared.word.CacheWord.{CacheWord}
use Rattle.ely_login.specs.declared.word.StateWord.TheVariants as states
use Rattle.ely_domain.specs.declared.naming.Found.{Found}
use Rattle.ely_context.specs.Logins.{login_of}
use Rattle.ely_context.proofs.LoginLemmas.{login_of-each_login}
use Rattle.ely_digest.specs.Nonces.{Nonces}
use Rattle.ely_domain.specs.Caches.{found_by_stage, found_in, founds_of}
use Rattle.ely_domain.specs.Contexts.{Finds, IsKey, HoldsIts, pinned, seen_login, seen_live}
use Rattle.ely_domain.specs.Costs.{RoseBy, naming_cost}
use Rattle.ely_domain.specs.declared.event.Event.{Event}
use Rattle.ely_domain.specs.declared.event.Event.TheVariants as events
use Rattle.ely_domain.specs.Identities.{Known, ident, key_at}
use Rattle.ely_domain.specs.Logins.{KnownLogin}
use Rattle.ely_domain.specs.Keeping.{found_at}
use Rattle.ely_domain.specs.KeptKeys.{RealmKeys, is_hit, list_of, word_in}
use Rattle.ely_domain.specs.Jobs.{check_job, job_at, job_with, job_of, IsBrought, BringsTo, Brings}
use Rattle.ely_domain.specs.Handing.{name1_job, check1_job, job_by, job_ahead}
use Rattle.ely_domain.specs.Serials.{carrier}
use Rattle.ely_domain.specs.Steps.{is_evidence_of, shown_refusal}
use Rattle.ely_domain.specs.Verdicts.{exchange, server_first}
use Rattle.ely_domain.proofs.Founds.{found_there}
use Rattle.ely_domain.proofs.Keys.{key_mech, key_of_row}

-- none is not some
pub not_some : {A : Type 0} → false ≡ true → A
not_some h = absurd (none h)
  where
    none : false ≡ true → ⊥
    none h = cc

module _ (known : Known) (serial : ℕ) (mech : Mech) (nonce : List ℕ) where
  abbrev login : ContextStage → ContextLogin
  login stage = record { serial = serial; mech = mech; nonce = nonce; stage = stage }

  -- the job of a loading login: the key that it found, or the derivation of it
  pub held_job : (stage : ContextStage) (p : Pin) (ready : Ready) → loading_pin stage ≡ Some p → HoldsIts known mech nonce stage → p.held ≡ Some ready
      → Some (works.Held ready) ≡ job_at known (found_by_stage stage) (seen_login (login stage)) (seen_login (login stage)).stage
  held_job (Loading q) p ready is holds held =
      let own : q.held ≡ Some ready = ap (λ (x : Pin). x.held) (same_Some _ _ is) ∙ held in
      let hit : is_hit q.found ≡ true = sym holds.hit ∙ ap is_some own in
      let key : key_at known mech q.version q.place ≡ Some ready = rw own at holds.held in
      rw (hit, key) refl
  held_job Fresh p ready is holds held = absurd cc
  held_job (Named q key) p ready is holds held = absurd cc
  held_job (Checking q key evidence) p ready is holds held = absurd cc
  held_job (Proved q) p ready is holds held = absurd cc
  held_job (Authorized q) p ready is holds held = absurd cc
  held_job (Complete q) p ready is holds held = absurd cc
  held_job Failed p ready is holds held = absurd cc

  pub loading_job : (stage : ContextStage) (p : Pin) → loading_pin stage ≡ Some p → HoldsIts known mech nonce stage → p.held ≡ None
      → Some (works.Derive p.place p.row mech known.given.config.params)
      ≡ job_at known (found_by_stage stage) (seen_login (login stage)) (seen_login (login stage)).stage
  loading_job (Loading q) p is holds none =
      let own : q.held ≡ None = ap (λ (x : Pin). x.held) (same_Some _ _ is) ∙ none in
      let miss : is_hit q.found ≡ false = sym holds.hit ∙ ap is_some own in
      rw (miss, holds.row_is, same_Some _ _ is) refl
  loading_job Fresh p is holds none = absurd cc
  loading_job (Named q key) p is holds none = absurd cc
  loading_job (Checking q key evidence) p is holds none = absurd cc
  loading_job (Proved q) p is holds none = absurd cc
  loading_job (Authorized q) p is holds none = absurd cc
  loading_job (Complete q) p is holds none = absurd cc
  loading_job Failed p is holds none = absurd cc

  -- the key that a loading login found is that of its row
  pub held_key : (stage : ContextStage) (p : Pin) → loading_pin stage ≡ Some p → HoldsIts known mech nonce stage
      → IfSome p.held (λ ready. Some ready ≡ ready_of known.given.config.params p.place.realm p.place.name mech p.row)
  held_key (Loading q) p is holds = subst (λ (x : Pin). IfSome x.held (λ ready. Some ready ≡ ready_of known.given.config.params x.place.realm x.place.name mech x.row)) (same_Some _ _ is) (own q.held holds.held)
    where
      own : (o : Option Ready) → IfSome o (λ ready. key_at known mech q.version q.place ≡ Some ready)
          → IfSome o (λ ready. Some ready ≡ ready_of known.given.config.params q.place.realm q.place.name mech q.row)
      own None h = tt
      own (Some ready) h = sym (sym (key_of_row known mech q.version q.place q.row holds.row_is) ∙ h)
  held_key Fresh p is holds = absurd cc
  held_key (Named q key) p is holds = absurd cc
  held_key (Checking q key evidence) p is holds = absurd cc
  held_key (Proved q) p is holds = absurd cc
  held_key (Authorized q) p is holds = absurd cc
  held_key (Complete q) p is holds = absurd cc
  held_key Failed p is holds = absurd cc

  -- what a loading login's key is derived to is the key of the pinned version
  pub loading_key : (stage : ContextStage) (p : Pin) (ready : Ready) → loading_pin stage ≡ Some p → HoldsIts known mech nonce stage
      → Some ready ≡ ready_of known.given.config.params p.place.realm p.place.name mech p.row → key_at known mech p.version p.place ≡ Some ready
  loading_key (Loading q) p ready is holds made =
      let same : q ≡ p = same_Some _ _ is in
      subst (λ (x : Pin). key_at known mech x.version x.place ≡ Some ready) same (key_of_row known mech q.version q.place q.row holds.row_is ∙ sym (rw (← same) at made))
  loading_key Fresh p ready is holds made = absurd cc
  loading_key (Named q key) p ready is holds made = absurd cc
  loading_key (Checking q key evidence) p ready is holds made = absurd cc
  loading_key (Proved q) p ready is holds made = absurd cc
  loading_key (Authorized q) p ready is holds made = absurd cc
  loading_key (Complete q) p ready is holds made = absurd cc
  loading_key Failed p ready is holds made = absurd cc

  -- the job of a checked login
  pub checking_job : (stage : ContextStage) (p : Pin) (key : Naming) (evidence : Evidence) → checked_parts stage ≡ Some (p, key, evidence)
      → HoldsIts known mech nonce stage
      → check_job (exchange known.given nonce p.claim) key.ready evidence ≡ job_at known (found_by_stage stage) (seen_login (login stage)) (seen_login (login stage)).stage
  checking_job (Checking q own shown) p key evidence is holds =
      let all = same_Some _ _ is in
      let pins : q ≡ p = ap (λ (x : Pin × Naming × Evidence). x.0) all in
      let keys : own ≡ key = ap (λ (x : Pin × Naming × Evidence). x.1) all in
      let shows : shown ≡ evidence = ap (λ (x : Pin × Naming × Evidence). x.2) all in
      rw (holds.1.ready_is, pins, keys, shows) refl
  checking_job Fresh p key evidence is holds = absurd cc
  checking_job (Loading q) p key evidence is holds = absurd cc
  checking_job (Named q own) p key evidence is holds = absurd cc
  checking_job (Proved q) p key evidence is holds = absurd cc
  checking_job (Authorized q) p key evidence is holds = absurd cc
  checking_job (Complete q) p key evidence is holds = absurd cc
  checking_job Failed p key evidence is holds = absurd cc

  -- any other login has none
  pub no_job : (stage : ContextStage) → loading_pin stage ≡ None → checked_parts stage ≡ None
      → None ≡ job_at known (found_by_stage stage) (seen_login (login stage)) (seen_login (login stage)).stage
  no_job Fresh h g = refl
  no_job (Loading q) h g = absurd cc
  no_job (Named q key) h g = refl
  no_job (Checking q key evidence) h g = absurd cc
  no_job (Proved q) h g = refl
  no_job (Authorized q) h g = refl
  no_job (Complete q) h g = refl
  no_job Failed h g = refl

  -- what is brought for a loading login costs nothing, and neither does a key that it found
  pub brought_to_loading : (stage : ContextStage) (p : Pin) (brought : Option Done) (before after : ℕ) → loading_pin stage ≡ Some p
      → HoldsIts known mech nonce stage → (IsSome p.held → after ≡ before)
      → (IsBrought brought (Some (works.Derive p.place p.row mech known.given.config.params)) → after ≡ before)
      → IsBrought brought (job_at known (found_by_stage stage) (seen_login (login stage)) (seen_login (login stage)).stage) → after ≡ before
  brought_to_loading stage p brought before after is holds held derived b = by p.held refl
    where
      by : (o : Option Ready) → p.held ≡ o → after ≡ before
      by (Some ready) e = held (ap is_some e)
      by None e = derived (subst (IsBrought brought) (sym (loading_job stage p is holds e)) b)

  pub brought_to_checking : (stage : ContextStage) (p : Pin) (key : Naming) (evidence : Evidence) (brought : Option Done)
      → checked_parts stage ≡ Some (p, key, evidence) → HoldsIts known mech nonce stage
      → IsBrought brought (job_at known (found_by_stage stage) (seen_login (login stage)) (seen_login (login stage)).stage)
      → IsBrought brought (check_job (exchange known.given nonce p.claim) key.ready evidence)
  brought_to_checking stage p key evidence brought is holds b = subst (IsBrought brought) (sym (checking_job stage p key evidence is holds)) b

  -- the key of a named login is of its mechanism, with the server's first message for it, and what is shown is judged by it
  named_holds : (P : Pin → Naming → Type 0) (stage : ContextStage) (p : Pin) (key : Naming) → named_parts stage ≡ Some (p, key)
      → HoldsIts known mech nonce stage → ((q : Pin) (own : Naming) → IsKey known mech nonce q own → P q own) → P p key
  named_holds P (Named q own) p key is holds give =
      let both = same_Some _ _ is in
      subst (λ (x : Pin × Naming). P x.0 x.1) both (give q own holds.1)
  named_holds P Fresh p key is holds give = absurd cc
  named_holds P (Loading q) p key is holds give = absurd cc
  named_holds P (Checking q own evidence) p key is holds give = absurd cc
  named_holds P (Proved q) p key is holds give = absurd cc
  named_holds P (Authorized q) p key is holds give = absurd cc
  named_holds P (Complete q) p key is holds give = absurd cc
  named_holds P Failed p key is holds give = absurd cc

  pub named_mech : (stage : ContextStage) (p : Pin) (key : Naming) → named_parts stage ≡ Some (p, key) → HoldsIts known mech nonce stage
      → key.ready.mech ≡ mech
  named_mech stage p key is holds =
      named_holds (λ q own. own.ready.mech ≡ mech) stage p key is holds
      (λ q own is_key. key_mech known mech q.version q.place own.ready is_key.ready_is)

  pub named_text : (stage : ContextStage) (p : Pin) (key : Naming) → named_parts stage ≡ Some (p, key) → HoldsIts known mech nonce stage
      → key.server_first ≡ server_first (exchange known.given nonce p.claim) key.ready
  named_text stage p key is holds =
      named_holds (λ q own. own.server_first ≡ server_first (exchange known.given nonce q.claim) own.ready) stage p key is holds
      (λ q own is_key. is_key.first_is)

  pub named_job : (stage : ContextStage) (p : Pin) (key : Naming) (evidence : Evidence) → named_parts stage ≡ Some (p, key)
      → HoldsIts known mech nonce stage → is_evidence_of mech evidence ≡ true
      → (nonces : Nonces) → is_some (shown_refusal nonces evidence) ≡ false
      → check_job (exchange known.given nonce p.claim) key.ready evidence
      ≡ check1_job known nonces (seen_login (login stage)) evidence (seen_login (login stage)).stage
  named_job (Named q own) p key evidence is holds form nonces fresh =
      let both = same_Some _ _ is in
      let pins : q ≡ p = ap (λ (x : Pin × Naming). x.0) both in
      let keys : own ≡ key = ap (λ (x : Pin × Naming). x.1) both in
      rw (form, fresh, holds.1.ready_is, pins, keys) refl
  named_job Fresh p key evidence is holds form nonces fresh = absurd cc
  named_job (Loading q) p key evidence is holds form nonces fresh = absurd cc
  named_job (Checking q own shown) p key evidence is holds form nonces fresh = absurd cc
  named_job (Proved q) p key evidence is holds form nonces fresh = absurd cc
  named_job (Authorized q) p key evidence is holds form nonces fresh = absurd cc
  named_job (Complete q) p key evidence is holds form nonces fresh = absurd cc
  named_job Failed p key evidence is holds form nonces fresh = absurd cc

  -- what its key takes: nothing where it was found
  pub loading_cost : (stage : ContextStage) (p : Pin) (before after : ℕ) → loading_pin stage ≡ Some p → HoldsIts known mech nonce stage
      → (IsSome p.held → after ≡ before) → RoseBy before after (ready_cost known.given.config.params mech p.row)
      → RoseBy before after (naming_cost known (found_by_stage stage) (seen_login (login stage)) (seen_login (login stage)).stage)
  loading_cost (Loading q) p before after is holds held rose = by q.held refl
    where
      own : q ≡ p
      own = same_Some _ _ is

      by : (o : Option Ready) → q.held ≡ o → RoseBy before after (naming_cost known q.found (seen_login (login (Loading q))) (seen_login (login (Loading q))).stage)
      by (Some ready) e =
          let hit : is_hit q.found ≡ true = sym holds.hit ∙ ap is_some e in
          let same : after ≡ before = held (ap (λ (x : Pin). is_some x.held) (sym own) ∙ ap is_some e) in
          rw hit (omega (arith, same), omega (arith, same))
      by None e =
          let miss : is_hit q.found ≡ false = sym holds.hit ∙ ap is_some e in
          rw (miss, holds.row_is, own) rose
  loading_cost Fresh p before after is holds held rose = absurd cc
  loading_cost (Named q key) p before after is holds held rose = absurd cc
  loading_cost (Checking q key evidence) p before after is holds held rose = absurd cc
  loading_cost (Proved q) p before after is holds held rose = absurd cc
  loading_cost (Authorized q) p before after is holds held rose = absurd cc
  loading_cost (Complete q) p before after is holds held rose = absurd cc
  loading_cost Failed p before after is holds held rose = absurd cc

-- the job of a login that was found, with this serial or with another, and of none
module _ (known : Known) (logins : List (ℕ × ContextLogin)) (nonces : Nonces) (id serial : ℕ) where
  found_job : (login : ContextLogin) → Some login ≡ login_of logins id
      → job_of known (founds_of logins) (seen_live logins nonces) id serial ≡ job_with known (found_in login) serial (seen_login login)
  unfolding job_of
  found_job login found =
      ap (λ word. option_and_then (job_with known word serial) (login_of (seen_live logins nonces).logins id)) (found_there logins id login (sym found))
      ∙ ap (option_and_then (job_with known (found_in login) serial)) (login_of-each_login seen_login logins id ∙ ap (option_map seen_login) (sym found))

  pub same_job : (login : ContextLogin) → Some login ≡ login_of logins id → nat_eq login.serial serial ≡ true
      → job_of known (founds_of logins) (seen_live logins nonces) id serial ≡ job_at known (found_in login) (seen_login login) (seen_login login).stage
  same_job login found same = found_job login found ∙ rw same refl

  pub other_job : (login : ContextLogin) → Some login ≡ login_of logins id → nat_eq login.serial serial ≡ false
      → None ≡ job_of known (founds_of logins) (seen_live logins nonces) id serial
  other_job login found other = sym (found_job login found ∙ rw other refl)

  pub absent_job : None ≡ login_of logins id → None ≡ job_of known (founds_of logins) (seen_live logins nonces) id serial
  unfolding job_of
  absent_job none =
      sym (ap (option_and_then (job_with known (found_at (founds_of logins) id) serial)) (login_of-each_login seen_login logins id ∙ ap (option_map seen_login) (sym none)))

-- what is brought for the login with an id is brought to it
module _ (known : Known) (logins : List (ℕ × ContextLogin)) (nonces : Nonces) (id : ℕ) where
  pub brings_found : (login : ContextLogin) (event : Event) → Some login ≡ login_of logins id
      → Brings known (founds_of logins) (seen_live logins nonces) id event → BringsTo known (found_in login) (seen_login login) event
  unfolding job_of
  brings_found login event found b = by event b
    where
      by_serial : (brought : Option Done) (same : Bool) (job : Option Work) → IsBrought brought (cond same job None) → IsBrought brought job
      by_serial brought true job b = b
      by_serial brought false job b = absurd (none b.0.job b.2)
        where
          none : (job : Work) → ◌≡◌ {A = Option Work} (Some job) None → ⊥
          none job h = cc

      by_job : (n : ℕ) (brought : Option Done) → IsBrought brought (job_of known (founds_of logins) (seen_live logins nonces) id n)
          → IsBrought brought (job_at known (found_in login) (seen_login login) (seen_login login).stage)
      by_job n brought b = by_serial brought (nat_eq login.serial n) _ (rw (found_job known logins nonces id n login found) at b)

      by : (event : Event) → Brings known (founds_of logins) (seen_live logins nonces) id event → BringsTo known (found_in login) (seen_login login) event
      by (events.Name2 c n brought) b = by_job n brought b
      by (events.Check2 c n brought) b = by_job n brought b
      by (events.Bad bad) b = b
      by (events.Change edit) b = b
      by (events.Begin c mech brought) b = b
      by (events.Name1 c claim) b = b
      by (events.Check1 c n evidence) b = b
      by (events.Authorize c) b = b
      by (events.Allows c wanted) b = b
      by (events.Succeed c) b = b
      by (events.Fail c) b = b
      by (events.Close c) b = b

  -- the job that a login is told to hand out
  pub ahead_none : (lists : List RealmKeys) (event : Event) → Some id ≡ carrier event → None ≡ login_of logins id → None ≡ job_ahead known lists (seen_live logins nonces) event
  ahead_none lists event is none =
      sym (ap (option_and_then (λ c. option_and_then (job_by known lists nonces event) (login_of (seen_live logins nonces).logins c))) (sym is)
      ∙ ap (option_and_then (job_by known lists nonces event)) (login_of-each_login seen_login logins id ∙ ap (option_map seen_login) (sym none)))

  pub ahead_found : (lists : List RealmKeys) (event : Event) (login : ContextLogin) → Some id ≡ carrier event → Some login ≡ login_of logins id
      → job_by known lists nonces event (seen_login login) ≡ job_ahead known lists (seen_live logins nonces) event
  ahead_found lists event login is found =
      sym (ap (option_and_then (λ c. option_and_then (job_by known lists nonces event) (login_of (seen_live logins nonces).logins c))) (sym is)
      ∙ ap (option_and_then (job_by known lists nonces event)) (login_of-each_login seen_login logins id ∙ ap (option_map seen_login) (sym found)))

-- a login in the state fresh is at that stage
pub fresh_at : (stage : ContextStage) → states.Fresh ≡ state_of stage → stage ≡ Fresh
fresh_at Fresh is = refl
fresh_at (Loading p) is = absurd cc
fresh_at (Named p key) is = absurd cc
fresh_at (Checking p key evidence) is = absurd cc
fresh_at (Proved p) is = absurd cc
fresh_at (Authorized p) is = absurd cc
fresh_at (Complete p) is = absurd cc
fresh_at Failed is = absurd cc

-- the job that a fresh login has behind its naming: the key that is found, or the derivation of it
module _ (known : Known) (lists : List RealmKeys) (login : KnownLogin) (claim : Claim) (found : Found) (job : Work) where
  abbrev its_word : CacheWord
  its_word = word_in (list_of lists found.place.realm) (record { name = found.place.name; mech = login.mech })

  pub named_ahead : {stage : ContextStage} → stage ≡ Fresh → Finds known login.mech claim (Ok found)
      → (is_hit its_word ≡ true → Some job ≡ option_map works.Held (key_at known login.mech (length known.edits) found.place))
      → (is_hit its_word ≡ false → job ≡ works.Derive found.place found.row login.mech known.given.config.params)
      → Some job ≡ name1_job known lists login claim (stage_view pinned (λ key. tt) stage)
  named_ahead fresh finds hit derived = rw (fresh, finds.0) (by (is_hit its_word) refl)
    where
      by : (b : Bool) → is_hit its_word ≡ b
          → Some job ≡ cond b (option_map works.Held (key_at known login.mech (length known.edits) found.place))
          (option_map (λ row. works.Derive found.place row login.mech known.given.config.params) (ident known (length known.edits) found.place))
      by true e = hit e
      by false e = rw finds.1 (ap Some (derived e))
