-- What a login is told to hand out before a step is the job that it has behind it.
use Rattle.std.proofs.Common.{◌≡◌, ℕ, Bool, true, false, cond, List, Option, Some, None, Result, Ok, Err, refl, sym, inl, inr}
use Rattle.std.specs.Prelude.{is_some, option_and_then}
use Rattle.std.specs.Option.{option_map_or}
use Rattle.ely_login.specs.declared.word.CacheWord.{CacheWord}
use Rattle.ely_login.specs.declared.word.CacheWord.TheVariants as words
use Rattle.ely_domain.specs.Keeping.{Kept, Nothing, found_at, means, word_by}
use Rattle.ely_domain.specs.KeptKeys.{RealmKeys}
use Rattle.ely_job.specs.declared.job.Work.{Work}
use Rattle.ely_login.specs.declared.claim.Claim.{Claim}
use Rattle.ely_login.specs.declared.claim.Evidence.{Evidence}
use Rattle.ely_login.specs.declared.outcome.Outcome.{Outcome}
use Rattle.ely_login.specs.declared.outcome.Outcome.TheVariants as outcomes
use Rattle.ely_login.specs.declared.word.StateWord.TheVariants as states
use Rattle.ely_login.specs.Outcomes.{is_accepted}
use Rattle.ely_context.specs.declared.stage.Stage.TheVariants.{Fresh, Loading, Named, Checking, Proved, Authorized, Complete, Failed}
use Rattle.ely_context.specs.Logins.{login_of}
use Rattle.ely_domain.specs.declared.event.Event.{Event}
use Rattle.ely_domain.specs.declared.event.Event.TheVariants as events
use Rattle.ely_domain.specs.Given.{Given}
use Rattle.ely_domain.specs.Handing.{pin_job, name1_job, check1_job, job_by, job_ahead}
use Rattle.ely_domain.specs.Identities.{Known}
use Rattle.ely_domain.specs.Jobs.{job_at, job_given, job_behind}
use Rattle.ely_domain.specs.Logins.{Pinned, KnownStage, KnownLogin, Live}
use Rattle.ely_domain.specs.Machine.{Machine, Answered, known, answered, answered_for, carried_out, step}
use Rattle.ely_domain.specs.Steps.{Reply, Stays, is_evidence_of, is_carried, naming, pinned_or, name1, check1, shown_refusal, shown_or}
use Rattle.ely_domain.proofs.Seeing.{itself_with}
use Rattle.ely_domain.proofs.NamingLemmas.{naming_refuses}
use Rattle.ely_domain.proofs.Using.{IsUseRefusal, refused_by}

-- what an answer hands out that shows this word
abbrev given_by : Known → CacheWord → Event → Answered → Option Work
given_by k word event a = job_given k word a.live event a.outcome

module _ (k : Known) (live : Live) (c : ℕ) where
  module _ (lists : List RealmKeys) (found : CacheWord) where
    -- the word behind a naming, where this login is found
    abbrev word_for : Claim → Option KnownLogin → Outcome → CacheWord
    word_for claim o outcome =
        cond (is_accepted outcome) (word_by k lists found (option_map_or (means k (events.Name1 c claim)) o Nothing)) words.None

    -- a naming that is refused hands out nothing
    refused_gives : (word : CacheWord) (claim : Claim) (outcome : Outcome) → is_accepted outcome ≡ false → job_given k word live (events.Name1 c claim) outcome ≡ None
    refused_gives word claim = elim [ outcomes.Pinned version ↦ (λ h. cc) | _ ↦ (λ h. refl) ]

    -- an answer to a naming, with the word that is due behind it
    abbrev named_by : Claim → Option KnownLogin → Answered → Option Work
    named_by claim o a = given_by k (word_for claim o a.outcome) (events.Name1 c claim) a

    name1_by_naming : (claim : Claim) (login : KnownLogin) (r : Result Pinned Outcome) → naming k login.mech claim ≡ r
        → named_by claim (Some login) (carried_out live (events.Name1 c claim) c login (pinned_or r)) ≡ pin_job k lists login r
    name1_by_naming claim login (Ok pin) is = rw (itself_with live.logins c _, is) refl
    name1_by_naming claim login (Err refusal) is =
        refused_gives (word_for claim (Some login) refusal) claim refusal (naming_refuses k login.mech claim refusal is)

    name1_by_stage : (claim : Claim) (login : KnownLogin) (stage : KnownStage)
        → named_by claim (Some login) (carried_out live (events.Name1 c claim) c login (name1 k login claim stage)) ≡ name1_job k lists login claim stage
    name1_by_stage claim login Fresh = name1_by_naming claim login (naming k login.mech claim) refl
    name1_by_stage claim login (Loading p) = refl
    name1_by_stage claim login (Named p key) = refl
    name1_by_stage claim login (Checking p key e) = refl
    name1_by_stage claim login (Proved p) = refl
    name1_by_stage claim login (Authorized p) = refl
    name1_by_stage claim login (Complete p) = refl
    name1_by_stage claim login Failed = refl

    name1_gives : (claim : Claim) (o : Option KnownLogin)
        → named_by claim o (answered_for k live (events.Name1 c claim) c o) ≡ option_and_then (job_by k lists live.nonces (events.Name1 c claim)) o
    name1_gives claim None = refl
    name1_gives claim (Some login) = name1_by_stage claim login login.stage

  module _ (serial : Option ℕ) (evidence : Evidence) where
    check1_by_refusal : (login : KnownLogin) (p : Pinned) (key : Unit {0}) (o : Option Outcome) → shown_refusal live.nonces evidence ≡ o
        → given_by k words.None (events.Check1 c serial evidence) (carried_out live (events.Check1 c serial evidence) c login
        (shown_or evidence (Named p key) o))
        ≡ cond (is_some o) None (job_at k words.None login (Checking p key evidence))
    check1_by_refusal login p key None is = rw (itself_with live.logins c _) refl
    check1_by_refusal login p key (Some refusal) is = by (refused_by live.nonces evidence refusal is)
      where
        by : IsUseRefusal refusal → job_given k words.None live (events.Check1 c serial evidence) refusal ≡ None
        by (inl stale) = rw stale refl
        by (inr replayed) = rw replayed.1 refl

    check1_by_form : (login : KnownLogin) (p : Pinned) (key : Unit {0}) (b : Bool)
        → given_by k words.None (events.Check1 c serial evidence) (carried_out live (events.Check1 c serial evidence) c login
        (cond {A = Reply} b (shown_or evidence (Named p key) (shown_refusal live.nonces evidence)) (Stays (outcomes.Mechanism login.mech))))
        ≡ cond b (cond (is_some (shown_refusal live.nonces evidence)) None (job_at k words.None login (Checking p key evidence))) None
    check1_by_form login p key true = check1_by_refusal login p key (shown_refusal live.nonces evidence) refl
    check1_by_form login p key false = refl

    check1_by_stage : (login : KnownLogin) (stage : KnownStage)
        → given_by k words.None (events.Check1 c serial evidence) (carried_out live (events.Check1 c serial evidence) c login (check1 live.nonces login evidence stage))
        ≡ check1_job k live.nonces login evidence stage
    check1_by_stage login (Named p key) = check1_by_form login p key (is_evidence_of login.mech evidence)
    check1_by_stage login Fresh = refl
    check1_by_stage login (Loading p) = refl
    check1_by_stage login (Checking p key e) = refl
    check1_by_stage login (Proved p) = refl
    check1_by_stage login (Authorized p) = refl
    check1_by_stage login (Complete p) = refl
    check1_by_stage login Failed = refl

    check1_by_serial : (login : KnownLogin) (b : Bool)
        → given_by k words.None (events.Check1 c serial evidence) (cond {A = Answered} b
        (carried_out live (events.Check1 c serial evidence) c login (check1 live.nonces login evidence login.stage)) (record { outcome = outcomes.Gone; live = live }))
        ≡ cond b (check1_job k live.nonces login evidence login.stage) None
    check1_by_serial login true = check1_by_stage login login.stage
    check1_by_serial login false = refl

    absent_gives : (b : Bool) → job_given k words.None live (events.Check1 c serial evidence) (cond b outcomes.Gone (outcomes.State states.Absent)) ≡ None
    absent_gives true = refl
    absent_gives false = refl

    check1_gives : (lists : List RealmKeys) (o : Option KnownLogin)
        → given_by k words.None (events.Check1 c serial evidence) (answered_for k live (events.Check1 c serial evidence) c o)
        ≡ option_and_then (job_by k lists live.nonces (events.Check1 c serial evidence)) o
    check1_gives lists None = absent_gives (is_some serial)
    check1_gives lists (Some login) = check1_by_serial login (is_carried serial login.serial)

-- the job that is told before a step is the one behind it
pub ahead_is : (given : Given) (m : Machine) (kept : Kept) (event : Event) → job_ahead (known given m) kept.lists m.live event ≡ job_behind given m kept event
unfolding job_behind step answered
ahead_is given m kept (events.Name1 c claim) =
    sym (name1_gives (known given m) m.live c kept.lists (found_at kept.founds c) claim (login_of m.live.logins c))
ahead_is given m kept (events.Check1 c serial evidence) = sym (check1_gives (known given m) m.live c serial evidence kept.lists (login_of m.live.logins c))
ahead_is given m kept (events.Bad bad) = refl
ahead_is given m kept (events.Change edit) = refl
ahead_is given m kept (events.Begin c mech brought) = refl
ahead_is given m kept (events.Name2 c n brought) = refl
ahead_is given m kept (events.Check2 c n brought) = refl
ahead_is given m kept (events.Authorize c) = refl
ahead_is given m kept (events.Allows c wanted) = refl
ahead_is given m kept (events.Succeed c) = refl
ahead_is given m kept (events.Fail c) = refl
ahead_is given m kept (events.Close c) = refl
