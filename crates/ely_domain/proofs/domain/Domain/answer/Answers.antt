use Rattle.std.proofs.Common.{inl, inr, refl}
use Rattle.ely_context.specs.Logins.{with_login}
use Rattle.ely_login.specs.declared.word.CacheWord.TheVariants as words
use Rattle.ely_domain.specs.declared.event.Event.TheVariants as events
use Rattle.ely_domain.specs.Machine.{known}
use Rattle.ely_domain.proofs.Keeps.{all_stays, lists_stay, no_words}
use Rattle.ely_domain.proofs.domain.Domain.answer.Goals as goal

pub returns-in-Name1-clause-word : goal.returns-in-Name1-clause-word
returns-in-Name1-clause-word g c =
    let k = known c.args.self.now.given c.args.self.now.machine in
    let live = c.args.self.now.machine.live in
    let kept = c.args.self.now.kept in
    let x = c.in-Name1.is in
    elim x [
      | inl x ↦ rw x.1 (rw (c.in-Name1.event-is, x.1) at c.step_login.ensures.word)
      | inr x ↦ elim x [
        | inl x ↦ rw x.2 (rw (c.in-Name1.event-is, x.2) at c.step_login.ensures.word)
        | inr x ↦ elim x [
          | inl x ↦ rw x.2 (no_words k live kept c.in-Name1.ctx (events.Check1 c.in-Name1.ctx x.0 x.1) (λ login. refl) c.step_login.result (rw (c.in-Name1.event-is, x.2) at c.step_login.ensures.word))
          | inr x ↦ elim x [
            | inl x ↦ rw x.2 (no_words k live kept c.in-Name1.ctx (events.Check2 c.in-Name1.ctx x.0 x.1) (λ login. refl) c.step_login.result (rw (c.in-Name1.event-is, x.2) at c.step_login.ensures.word))
            | inr x ↦ elim x [
              | inl x ↦ rw x (no_words k live kept c.in-Name1.ctx (events.Authorize c.in-Name1.ctx) (λ login. refl) c.step_login.result (rw (c.in-Name1.event-is, x) at c.step_login.ensures.word))
              | inr x ↦ elim x [
                | inl x ↦ rw x.1 (no_words k live kept c.in-Name1.ctx (events.Allows c.in-Name1.ctx x.0) (λ login. refl) c.step_login.result (rw (c.in-Name1.event-is, x.1) at c.step_login.ensures.word))
                | inr x ↦ elim x [ inl x ↦ rw x (no_words k live kept c.in-Name1.ctx (events.Succeed c.in-Name1.ctx) (λ login. refl) c.step_login.result (rw (c.in-Name1.event-is, x) at c.step_login.ensures.word)) | inr y ↦ rw y (no_words k live kept c.in-Name1.ctx (events.Fail c.in-Name1.ctx) (λ login. refl) c.step_login.result (rw (c.in-Name1.event-is, y) at c.step_login.ensures.word)) ]
              ]
            ]
          ]
        ]
      ]
    ]

pub returns-in-Name1-clause-kept : goal.returns-in-Name1-clause-kept
returns-in-Name1-clause-kept g c =
    let k = known c.args.self.now.given c.args.self.now.machine in
    let live = c.args.self.now.machine.live in
    let kept = c.args.self.now.kept in
    let x = c.in-Name1.is in
    elim x [
      | inl x ↦ rw x.1 (rw (c.in-Name1.event-is, x.1) at c.step_login.ensures.kept)
      | inr x ↦ elim x [
        | inl x ↦ rw x.2 (rw (c.in-Name1.event-is, x.2) at c.step_login.ensures.kept)
        | inr x ↦ elim x [
          | inl x ↦ rw x.2 (all_stays k live kept c.in-Name1.ctx (events.Check1 c.in-Name1.ctx x.0 x.1) (λ login. refl) c.step_login.result c.step_login.new.self.kept (λ shown. refl) (rw (c.in-Name1.event-is, x.2) at c.step_login.ensures.kept))
          | inr x ↦ elim x [
            | inl x ↦ rw x.2 (all_stays k live kept c.in-Name1.ctx (events.Check2 c.in-Name1.ctx x.0 x.1) (λ login. refl) c.step_login.result c.step_login.new.self.kept (λ shown. refl) (rw (c.in-Name1.event-is, x.2) at c.step_login.ensures.kept))
            | inr x ↦ elim x [
              | inl x ↦ rw x (all_stays k live kept c.in-Name1.ctx (events.Authorize c.in-Name1.ctx) (λ login. refl) c.step_login.result c.step_login.new.self.kept (λ shown. refl) (rw (c.in-Name1.event-is, x) at c.step_login.ensures.kept))
              | inr x ↦ elim x [
                | inl x ↦ rw x.1 (all_stays k live kept c.in-Name1.ctx (events.Allows c.in-Name1.ctx x.0) (λ login. refl) c.step_login.result c.step_login.new.self.kept (λ shown. refl) (rw (c.in-Name1.event-is, x.1) at c.step_login.ensures.kept))
                | inr x ↦ elim x [ inl x ↦ rw x (all_stays k live kept c.in-Name1.ctx (events.Succeed c.in-Name1.ctx) (λ login. refl) c.step_login.result c.step_login.new.self.kept (λ shown. refl) (rw (c.in-Name1.event-is, x) at c.step_login.ensures.kept)) | inr y ↦ rw y (lists_stay k live kept c.in-Name1.ctx (events.Fail c.in-Name1.ctx) (λ login. refl) c.step_login.result c.step_login.new.self.kept (with_login kept.founds c.in-Name1.ctx words.None) (λ shown. refl) (rw (c.in-Name1.event-is, y) at c.step_login.ensures.kept)) ]
              ]
            ]
          ]
        ]
      ]
    ]
