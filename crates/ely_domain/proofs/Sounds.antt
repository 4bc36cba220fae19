-- A login stays sound as it moves.
use Rattle.std.proofs.Common.{◌≡◌, ℕ, Bool, true, false, cond, List, length, Option, Some, None, Ok, Err, inl, inr, refl, sym, ap, subst, ◌∙◌, arith}
use Rattle.std.proofs.lemmas.Option.{same_Some}
use Rattle.std.specs.Prelude.{IfSome, is_some}
use Rattle.std.specs.Option.{option_map}
use Rattle.ely_row.specs.declared.mech.Mech.{Mech}
use Rattle.ely_cred.specs.Keys.{Ready, ready_of}
use Rattle.ely_login.specs.declared.claim.Claim.{Claim}
use Rattle.ely_login.specs.declared.claim.Evidence.{Evidence}
use Rattle.ely_login.specs.Outcomes.{is_accepted}
use Rattle.ely_login.specs.declared.outcome.Outcome.{Outcome}
use Rattle.ely_login.specs.declared.outcome.Outcome.TheVariants as outcomes
use Rattle.ely_context.specs.declared.naming.Naming.{Naming}
use Rattle.ely_context.specs.declared.pin.Pin.{Pin}
use Rattle.ely_context.specs.declared.stage.Stage.TheVariants.{Fresh, Loading, Named, Checking, Proved, Authorized, Complete, Failed}
use Rattle.ely_context.specs.declared.naming.Naming.{Naming}
use Rattle.ely_context.specs.Contexts.{ContextStage, ContextLogin, naming}
use Rattle.ely_context.specs.ContextTable as table
use Rattle.ely_context.specs.Stages.{loading_pin, proved_pin, complete_pin, checked_parts, at_stage}
use Rattle.ely_perm.specs.Grants.{granted}
use Rattle.ely_cache.specs.declared.caches.RealmCache.{RealmCache}
use Rattle.ely_job.specs.Dones.{Done}
use Rattle.ely_login.specs.declared.word.CacheWord.{CacheWord}
use Rattle.ely_table.specs.Touching.{touched_since}
use Rattle.ely_domain.specs.declared.event.Event.TheVariants as events
use Rattle.ely_domain.specs.Caches.{Keeps, found_in, lists_of}
use Rattle.ely_domain.specs.Keeping.{sought}
use Rattle.ely_login.specs.declared.word.CacheWord.TheVariants as words
use Rattle.ely_domain.specs.KeptKeys.{Key, RealmKeys, at_realm, fill_by, has_key, is_hit, list_of, stands_for, used, word_after, word_in}
use Rattle.ely_domain.specs.declared.naming.Found.{Found}
use Rattle.ely_domain.specs.declared.prepared.Prepared.{Prepared}
use Rattle.ely_domain.specs.Contexts.{IsPin, HoldsIts, IsSoundAt, StaysSound, IsReply, Finds, Asks, pinned, prepared_for, seen_login}
use Rattle.ely_domain.specs.Identities.{Known, deps, key_at, roles, grants}
use Rattle.ely_domain.specs.Steps.{is_evidence_of, announced, name2, check2, authorize, allows, yes_or_no}
use Rattle.ely_domain.specs.Verdicts.{exchange, server_first, verdict}
use Rattle.ely_domain.proofs.Keys.{key_of_row, key_mech}

-- a login at a stage that holds what it should, without one to hand out
abbrev Holds : Known → ContextLogin → Type 0
Holds known login = (prepared : Option Prepared) → IsSoundAt known prepared login

-- what an event makes of a login at a stage
abbrev at_next : ContextLogin → Option ContextStage → Option ContextLogin
at_next old stage = option_map (at_stage old) stage

-- a login that moved is the one that the table has
moved_sound : (known : Known) (old new : ContextLogin) (stage : ContextStage)
    → at_next old (Some stage) ≡ Some new
    → ((prepared : Option Prepared) → IsSoundAt known prepared old → IsSoundAt known prepared (at_stage old stage))
    → StaysSound known old new
moved_sound known old new stage moved sound prepared was =
    subst (IsSoundAt known prepared) (same_Some _ _ moved) (sound prepared was)

-- what is granted to the name and the roles that a pin hands out is granted at the pinned version
pub granted_as_prepared : (known : Known) (p : Pin) (prepared : Prepared) (wanted : List ℕ) (b : Bool) → prepared ≡ prepared_for known (pinned p)
    → b ≡ granted known.given.config.permissions prepared.place.name prepared.roles wanted → grants known p.version p.place wanted ≡ b
unfolding grants
granted_as_prepared known p prepared wanted b is made =
    sym (made ∙ ap (λ (r : Prepared). granted known.given.config.permissions r.place.name r.roles wanted) is)

-- the same of roles that are those of the pinned version
pub granted_as_pinned : (known : Known) (p : Pin) (found : List (List ℕ)) (wanted : List ℕ) (b : Bool) → found ≡ roles known p.version p.place
    → b ≡ granted known.given.config.permissions p.place.name found wanted → grants known p.version p.place wanted ≡ b
unfolding grants
granted_as_pinned known p found wanted b is made =
    sym (made ∙ ap (λ names. granted known.given.config.permissions p.place.name names wanted) is)

module _ (known : Known) (serial : ℕ) (mech : Mech) (nonce : List ℕ) where
  abbrev login : ContextStage → ContextLogin
  login stage = record { serial = serial; mech = mech; nonce = nonce; stage = stage }

  -- a naming's key is that of its pin
  pub named_sound : (stage : ContextStage) (new : ContextLogin) (p : Pin) (ready : Ready) (text : Option (List ℕ))
      → loading_pin stage ≡ Some p
      → Some ready ≡ ready_of known.given.config.params p.place.realm p.place.name mech p.row
      → text ≡ server_first (exchange known.given nonce p.claim) ready
      → table.after (login stage) (table.name2 (naming ready text)) ≡ Some new
      → StaysSound known (login stage) new
  named_sound (Loading q) new p ready text pin ready_is text_is moved =
      moved_sound known (login (Loading q)) new (Named q (naming ready text)) moved
      (λ prepared was.
      let held : IsPin known mech q = was.0 in
      let same : q ≡ p = same_Some _ _ pin in
      ((held, record { ready_is = key_of_row known mech q.version q.place q.row held.row_is ∙ sym (rw (← same) at ready_is); first_is = rw (← same) at text_is }), tt))
  named_sound Fresh new p ready text pin ready_is text_is moved = cc
  named_sound (Named q key) new p ready text pin ready_is text_is moved = cc
  named_sound (Checking q key evidence) new p ready text pin ready_is text_is moved = cc
  named_sound (Proved q) new p ready text pin ready_is text_is moved = cc
  named_sound (Authorized q) new p ready text pin ready_is text_is moved = cc
  named_sound (Complete q) new p ready text pin ready_is text_is moved = cc
  named_sound Failed new p ready text pin ready_is text_is moved = cc

  -- what is shown is of the login's mechanism
  pub shown_sound : (stage : ContextStage) (new : ContextLogin) (evidence : Evidence) → is_evidence_of mech evidence ≡ true
      → table.after (login stage) (table.check1 evidence) ≡ Some new → StaysSound known (login stage) new
  shown_sound (Named q key) new evidence form moved =
      moved_sound known (login (Named q key)) new (Checking q key evidence) moved (λ prepared was. ((was.0.0, was.0.1, form), tt))
  shown_sound Fresh new evidence form moved = cc
  shown_sound (Loading q) new evidence form moved = cc
  shown_sound (Checking q key shown) new evidence form moved = cc
  shown_sound (Proved q) new evidence form moved = cc
  shown_sound (Authorized q) new evidence form moved = cc
  shown_sound (Complete q) new evidence form moved = cc
  shown_sound Failed new evidence form moved = cc

  -- and it is told by the server's first message for it
  pub named_reply : (stage : ContextStage) (new : ContextLogin) (p : Pin) (ready : Ready) (text : Option (List ℕ)) (outcome : Outcome)
      → loading_pin stage ≡ Some p → HoldsIts known mech nonce stage
      → Some ready ≡ ready_of known.given.config.params p.place.realm p.place.name mech p.row
      → text ≡ server_first (exchange known.given nonce p.claim) ready → outcome ≡ announced text
      → table.after (login stage) (table.name2 (naming ready text)) ≡ Some new
      → IsReply (name2 known (seen_login (login stage)) (seen_login (login stage)).stage) (λ state. outcomes.Gone) (login stage) outcome new
  named_reply (Loading q) new p ready text outcome pin holds ready_is text_is told moved =
      let same : q ≡ p = same_Some _ _ pin in
      let key : key_at known mech q.version q.place ≡ Some ready =
      key_of_row known mech q.version q.place q.row holds.row_is ∙ sym (rw (← same) at ready_is) in
      (told ∙ ap announced (rw (← same) at text_is) ∙ rw key refl, ap seen_login (sym (same_Some _ _ moved)))
  named_reply Fresh new p ready text outcome pin holds ready_is text_is told moved = cc
  named_reply (Named q key) new p ready text outcome pin holds ready_is text_is told moved = cc
  named_reply (Checking q key evidence) new p ready text outcome pin holds ready_is text_is told moved = cc
  named_reply (Proved q) new p ready text outcome pin holds ready_is text_is told moved = cc
  named_reply (Authorized q) new p ready text outcome pin holds ready_is text_is told moved = cc
  named_reply (Complete q) new p ready text outcome pin holds ready_is text_is told moved = cc
  named_reply Failed new p ready text outcome pin holds ready_is text_is told moved = cc

  -- and its fill is what the end of a naming means
  pub named_keeps : (stage : ContextStage) (new : ContextLogin) (p : Pin) (ready : Ready) (text : Option (List ℕ)) (outcome : Outcome)
      (c n : ℕ) (brought : Option Done) (shown : CacheWord) (caches caches' : List RealmCache)
      → loading_pin stage ≡ Some p → outcome ≡ announced text → table.after (login stage) (table.name2 (naming ready text)) ≡ Some new
      → stands_for shown ≡ word_after p.found (touched_since known.edits p.version (deps known p.place))
      → lists_of caches' ≡ fill_by shown p.place.realm (sought mech (pinned p)) (lists_of caches)
      → Keeps known (events.Name2 c n brought) outcome shown caches caches' (login stage) new
  named_keeps (Loading q) new p ready text outcome c n brought shown caches caches' pin told moved word lists =
      let same : q ≡ p = same_Some _ _ pin in
      let accepted : is_accepted outcome ≡ true = ap is_accepted told ∙ announced_accepted text in
      rw accepted (rw (← same) at word, rw (← same) at lists, ap found_in (sym (same_Some _ _ moved)))
    where
      announced_accepted : (t : Option (List ℕ)) → is_accepted (announced t) ≡ true
      announced_accepted None = refl
      announced_accepted (Some t) = refl
  named_keeps Fresh new p ready text outcome c n brought shown caches caches' pin told moved word lists = cc
  named_keeps (Named q key) new p ready text outcome c n brought shown caches caches' pin told moved word lists = cc
  named_keeps (Checking q key evidence) new p ready text outcome c n brought shown caches caches' pin told moved word lists = cc
  named_keeps (Proved q) new p ready text outcome c n brought shown caches caches' pin told moved word lists = cc
  named_keeps (Authorized q) new p ready text outcome c n brought shown caches caches' pin told moved word lists = cc
  named_keeps (Complete q) new p ready text outcome c n brought shown caches caches' pin told moved word lists = cc
  named_keeps Failed new p ready text outcome c n brought shown caches caches' pin told moved word lists = cc

  -- a check's verdict leaves the pin
  pub checked_sound : (stage : ContextStage) (new : ContextLogin) (proved : Bool)
      → table.after (login stage) (table.check2 proved) ≡ Some new → StaysSound known (login stage) new
  checked_sound (Checking q key evidence) new true moved =
      moved_sound known (login (Checking q key evidence)) new (Proved q) moved (λ prepared was. (was.0.0, tt))
  checked_sound (Checking q key evidence) new false moved =
      moved_sound known (login (Checking q key evidence)) new Failed moved (λ prepared was. (tt, tt))
  checked_sound Fresh new proved moved = cc
  checked_sound (Loading q) new proved moved = cc
  checked_sound (Named q key) new proved moved = cc
  checked_sound (Proved q) new proved moved = cc
  checked_sound (Authorized q) new proved moved = cc
  checked_sound (Complete q) new proved moved = cc
  checked_sound Failed new proved moved = cc

  -- and it is told as the machine tells it
  pub checked_reply : (stage : ContextStage) (new : ContextLogin) (p : Pin) (key : Naming) (evidence : Evidence) (outcome : Outcome)
      → checked_parts stage ≡ Some (p, key, evidence) → HoldsIts known mech nonce stage
      → outcome ≡ verdict (exchange known.given nonce p.claim) (Some key.ready) evidence
      → table.after (login stage) (table.check2 (is_accepted outcome)) ≡ Some new
      → IsReply (check2 known (seen_login (login stage)) (seen_login (login stage)).stage) (λ state. outcomes.Gone) (login stage) outcome new
  checked_reply (Checking q own shown) new p key evidence outcome is holds outcome_is moved =
      let all = same_Some _ _ is in
      let pins : q ≡ p = ap (λ (x : Pin × Naming × Evidence). x.0) all in
      let keys : own ≡ key = ap (λ (x : Pin × Naming × Evidence). x.1) all in
      let shows : shown ≡ evidence = ap (λ (x : Pin × Naming × Evidence). x.2) all in
      let judged : outcome ≡ verdict (exchange known.given nonce q.claim) (key_at known mech q.version q.place) shown =
      rw (holds.1.ready_is, pins, keys, shows) outcome_is in
      (judged, rw (← judged) (seen (is_accepted outcome) moved))
    where
      seen : (b : Bool) → at_next (login (Checking q own shown)) (Some (cond b (Proved q) Failed)) ≡ Some new
          → seen_login new ≡ at_stage (seen_login (login (Checking q own shown))) (cond b (Proved (pinned q)) Failed)
      seen true moved = ap seen_login (sym (same_Some _ _ moved))
      seen false moved = ap seen_login (sym (same_Some _ _ moved))
  checked_reply Fresh new p key evidence outcome is holds outcome_is moved = cc
  checked_reply (Loading q) new p key evidence outcome is holds outcome_is moved = cc
  checked_reply (Named q own) new p key evidence outcome is holds outcome_is moved = cc
  checked_reply (Proved q) new p key evidence outcome is holds outcome_is moved = cc
  checked_reply (Authorized q) new p key evidence outcome is holds outcome_is moved = cc
  checked_reply (Complete q) new p key evidence outcome is holds outcome_is moved = cc
  checked_reply Failed new p key evidence outcome is holds outcome_is moved = cc

  -- what is judged is of the key's mechanism
  pub evidence_fits : (stage : ContextStage) (p : Pin) (key : Naming) (evidence : Evidence)
      → HoldsIts known mech nonce stage → checked_parts stage ≡ Some (p, key, evidence) → is_evidence_of key.ready.mech evidence ≡ true
  evidence_fits (Checking q own shown) p key evidence holds is =
      let all = same_Some _ _ is in
      let of_key : key.ready.mech ≡ mech = ap (λ (x : Pin × Naming × Evidence). x.1.ready.mech) (sym all) ∙ key_mech known mech q.version q.place own.ready holds.1.ready_is in
      let same : shown ≡ evidence = ap (λ (x : Pin × Naming × Evidence). x.2) all in
      rw of_key (rw (← same) holds.2)
  evidence_fits Fresh p key evidence holds is = cc
  evidence_fits (Loading q) p key evidence holds is = cc
  evidence_fits (Named q own) p key evidence holds is = cc
  evidence_fits (Proved q) p key evidence holds is = cc
  evidence_fits (Authorized q) p key evidence holds is = cc
  evidence_fits (Complete q) p key evidence holds is = cc
  evidence_fits Failed p key evidence holds is = cc

  -- and the server's first message is the key's
  pub message_fits : (stage : ContextStage) (p : Pin) (key : Naming) (evidence : Evidence)
      → HoldsIts known mech nonce stage → checked_parts stage ≡ Some (p, key, evidence)
      → key.server_first ≡ server_first (exchange known.given nonce p.claim) key.ready
  message_fits (Checking q own shown) p key evidence holds is =
      let all = same_Some _ _ is in
      let pins : q ≡ p = ap (λ (x : Pin × Naming × Evidence). x.0) all in
      let keys : own ≡ key = ap (λ (x : Pin × Naming × Evidence). x.1) all in
      rw (← pins, ← keys) holds.1.first_is
  message_fits Fresh p key evidence holds is = cc
  message_fits (Loading q) p key evidence holds is = cc
  message_fits (Named q own) p key evidence holds is = cc
  message_fits (Proved q) p key evidence holds is = cc
  message_fits (Authorized q) p key evidence holds is = cc
  message_fits (Complete q) p key evidence holds is = cc
  message_fits Failed p key evidence holds is = cc

  -- a login that stands at a stage that is known
  at_stage_known : (Q : ContextStage → Type 0) (stage there : ContextStage) → stage ≡ there → Q there → Q stage
  at_stage_known Q stage there is = subst Q (sym is)

  -- a login whose pin is that of a proved one is proved
  pub proved_holds : (stage : ContextStage) (p : Pin) → proved_pin stage ≡ Some p → HoldsIts known mech nonce stage
      → (stage ≡ Proved p) × IsPin known mech p
  proved_holds (Proved q) p is holds = let same = same_Some _ _ is in (ap Proved same, subst (IsPin known mech) same holds)
  proved_holds Fresh p is holds = cc
  proved_holds (Loading q) p is holds = cc
  proved_holds (Named q key) p is holds = cc
  proved_holds (Checking q key evidence) p is holds = cc
  proved_holds (Authorized q) p is holds = cc
  proved_holds (Complete q) p is holds = cc
  proved_holds Failed p is holds = cc

  -- a login whose pin is that of a complete one is complete
  pub complete_holds : (stage : ContextStage) (p : Pin) → complete_pin stage ≡ Some p → HoldsIts known mech nonce stage
      → (stage ≡ Complete p) × IsPin known mech p
  complete_holds (Complete q) p is holds = let same = same_Some _ _ is in (ap Complete same, subst (IsPin known mech) same holds)
  complete_holds Fresh p is holds = cc
  complete_holds (Loading q) p is holds = cc
  complete_holds (Named q key) p is holds = cc
  complete_holds (Checking q key evidence) p is holds = cc
  complete_holds (Proved q) p is holds = cc
  complete_holds (Authorized q) p is holds = cc
  complete_holds Failed p is holds = cc

  -- what a complete login is told of a permission
  pub allowed_reply : (stage : ContextStage) (p : Pin) (wanted : List ℕ) (b : Bool) → stage ≡ Complete p → grants known p.version p.place wanted ≡ b
      → IsReply (allows known wanted (seen_login (login stage)).stage) outcomes.State (login stage) (yes_or_no b) (login stage)
  allowed_reply stage p wanted b is granted =
      at_stage_known (λ s. IsReply (allows known wanted (seen_login (login s)).stage) outcomes.State (login s) (yes_or_no b) (login s))
      stage (Complete p) is (rw granted (refl, refl))

  -- what an authorization answers that was refused
  pub refused_reply : (stage : ContextStage) (refusal : Outcome) → Asks known stage (Err refusal)
      → IsReply (authorize known (seen_login (login stage)).stage) outcomes.State (login stage) refusal (login stage)
  refused_reply stage refusal (inr denied) =
      at_stage_known (λ s. IsReply (authorize known (seen_login (login s)).stage) outcomes.State (login s) refusal (login s))
      stage (Proved denied.0) denied.1 (rw denied.2 (denied.3, refl))
  refused_reply (Proved p) refusal (inl other) = cc
  refused_reply Fresh refusal (inl other) = (other.1, refl)
  refused_reply (Loading p) refusal (inl other) = (other.1, refl)
  refused_reply (Named p key) refusal (inl other) = (other.1, refl)
  refused_reply (Checking p key evidence) refusal (inl other) = (other.1, refl)
  refused_reply (Authorized p) refusal (inl other) = (other.1, refl)
  refused_reply (Complete p) refusal (inl other) = (other.1, refl)
  refused_reply Failed refusal (inl other) = (other.1, refl)

  -- what one answers that was accepted, and what the login holds then
  pub authorized_reply : (stage : ContextStage) (new : ContextLogin) (prepared : Prepared) → Asks known stage (Ok prepared)
      → table.after (login stage) (table.authorize true) ≡ Some new
      → IsReply (authorize known (seen_login (login stage)).stage) outcomes.State (login stage) outcomes.Authorized new
  authorized_reply stage new prepared asked =
      at_stage_known (λ s. table.after (login s) (table.authorize true) ≡ Some new
      → IsReply (authorize known (seen_login (login s)).stage) outcomes.State (login s) outcomes.Authorized new)
      stage (Proved asked.0) asked.1
      (λ moved. rw asked.2 (refl, ap seen_login (sym (same_Some _ _ moved))))

  pub authorized_sound : (stage : ContextStage) (new : ContextLogin) (prepared : Prepared) (found : Option Prepared)
      → Asks known stage (Ok prepared) → HoldsIts known mech nonce stage → found ≡ Some prepared
      → table.after (login stage) (table.authorize true) ≡ Some new → IsSoundAt known found new
  authorized_sound stage new prepared found asked holds there =
      at_stage_known (λ s. HoldsIts known mech nonce s → table.after (login s) (table.authorize true) ≡ Some new → IsSoundAt known found new)
      stage (Proved asked.0) asked.1
      (λ held moved. subst (IsSoundAt known found) (same_Some _ _ moved) (held, there ∙ ap Some asked.3))
      holds

  -- a login that may be authorized is at the stage for it
  pub not_refused : {A : Type 0} (stage : ContextStage) (prepared : Prepared) → Asks known stage (Ok prepared)
      → table.after (login stage) (table.authorize true) ≡ None → A
  not_refused {A = A} stage prepared asked =
      at_stage_known (λ s. table.after (login s) (table.authorize true) ≡ None → A) stage (Proved asked.0) asked.1
      (λ refused. cc)

  -- what is pinned of a fresh login is of its time
  module _ (stage : ContextStage) (new : ContextLogin) (claim : Claim) (found : Found) (word : CacheWord) (held : Option Ready)
      (fresh : stage ≡ Fresh) (finds : Finds known mech claim (Ok found)) where
    abbrev pub its_pin : Pin
    its_pin = record { version = length known.edits; place = found.place; row = found.row; claim = claim; found = word; held = held }

    pub pinned_sound : IfSome held (λ ready. key_at known mech (length known.edits) found.place ≡ Some ready) → is_some held ≡ is_hit word
        → table.after (login stage) (table.name1 its_pin) ≡ Some new → StaysSound known (login stage) new
    pinned_sound current hit =
        at_stage_known (λ s. table.after (login s) (table.name1 its_pin) ≡ Some new → StaysSound known (login s) new) stage Fresh fresh
        (λ moved prepared was. subst (IsSoundAt known prepared) (same_Some _ _ moved)
        (record { past = omega arith; row_is = finds.1; serves = finds.2; form = finds.3; held = current; hit = hit }, tt))

    -- and its word and the use of a key are what the beginning of a naming means
    pub pinned_keeps : (c : ℕ) (caches caches' : List RealmCache)
        → word ≡ word_in (list_of (lists_of caches) found.place.realm) (record { name = found.place.name; mech = mech })
        → lists_of caches' ≡ at_realm found.place.realm (λ limit. used (record { name = found.place.name; mech = mech })) (lists_of caches)
        → table.after (login stage) (table.name1 its_pin) ≡ Some new
        → Keeps known (events.Name1 c claim) (outcomes.Pinned (length known.edits)) word caches caches' (login stage) new
    pinned_keeps c caches caches' word_is lists =
        at_stage_known (λ s. table.after (login s) (table.name1 its_pin) ≡ Some new
        → Keeps known (events.Name1 c claim) (outcomes.Pinned (length known.edits)) word caches caches' (login s) new) stage Fresh fresh
        (λ moved. rw finds.0 (stands (list_of (lists_of caches) found.place.realm) (record { name = found.place.name; mech = mech }) word_is, lists, ap found_in (sym (same_Some _ _ moved))))
      where
        stands : (l : Option RealmKeys) (key : Key) → word ≡ word_in l key → stands_for word ≡ word_in l key
        stands l key is = ap stands_for is ∙ by l
          where
            by_test : (b : Bool) → stands_for (cond b words.Hit words.Miss) ≡ cond b words.Hit words.Miss
            by_test true = refl
            by_test false = refl

            by : (o : Option RealmKeys) → stands_for (word_in o key) ≡ word_in o key
            by None = refl
            by (Some its) = by_test (has_key key its.keys)
