use Rattle.std.proofs.Common.{sym}
use Rattle.ely_domain.specs.Contexts.{read_of}
use Rattle.ely_domain.proofs.Moving.{none_answered, found_all, found_cost, moved_stays, kept_all}
use Rattle.ely_domain.proofs.Keeps.{keeps_all, kept_of_none, word_all, word_of_none}
use Rattle.ely_domain.proofs.Working.{brings_found}
use Rattle.ely_domain.proofs.login_step.login_step.Goals as goal

pub answer_found-requires-clause-sound : goal.answer_found-requires-clause-sound
answer_found-requires-clause-sound g c = c.requires.sound c.args.id c.in-Some.context.now (sym c.in-Some.ensures.value)

pub returns-in-None-clause-answer : goal.returns-in-None-clause-answer
returns-in-None-clause-answer g c =
    rw (c.no_word.ensures, c.not_there-outcome.ensures) (none_answered (read_of c.args.planned.now c.args.tables.now) c.args.logins.now c.args.nonces.now c.args.event c.args.id c.in-None.ensures.value)

pub returns-in-Some-clause-answer : goal.returns-in-Some-clause-answer
returns-in-Some-clause-answer g c =
    found_all (read_of c.args.planned.now c.args.tables.now) c.args.logins.now c.args.nonces.now c.args.event c.args.id c.in-Some.context.now
    c.answer_found.new.context c.answer_found.result c.answer_found.new.nonces c.in-Some.ensures.rise (sym c.in-Some.ensures.value)
    c.answer_found.ensures.answer c.answer_found.ensures.used

pub returns-in-Some-clause-sound : goal.returns-in-Some-clause-sound
returns-in-Some-clause-sound g c =
    moved_stays (read_of c.args.planned.now c.args.tables.now) c.args.logins.now c.args.handouts.now c.answer_found.new.handouts c.args.id c.answer_found.new.context
    c.requires.sound c.answer_found.ensures.others c.answer_found.ensures.sound

pub returns-in-Some-clause-err : goal.returns-in-Some-clause-err
returns-in-Some-clause-err g c =
    kept_all c.answer_found.result c.args.logins.now c.args.nonces.now c.answer_found.new.nonces c.args.handouts.now c.answer_found.new.handouts
    c.args.caches.now c.answer_found.new.caches c.args.id c.in-Some.context.now c.answer_found.new.context
    c.in-Some.ensures.rise (sym c.in-Some.ensures.value) c.answer_found.ensures.err

pub returns-in-Some-clause-cost : goal.returns-in-Some-clause-cost
returns-in-Some-clause-cost g c =
    found_cost (read_of c.args.planned.now c.args.tables.now) c.args.logins.now c.args.nonces.now c.args.event c.args.id c.in-Some.context.now _ _
    (sym c.in-Some.ensures.value) c.answer_found.ensures.cost

pub returns-in-Some-clause-brought : goal.returns-in-Some-clause-brought
returns-in-Some-clause-brought g c = λ brought.
    c.answer_found.ensures.brought
    (brings_found (read_of c.args.planned.now c.args.tables.now) c.args.logins.now c.args.nonces.now c.args.id c.in-Some.context.now c.args.event c.in-Some.ensures.value brought)

pub returns-in-None-clause-word : goal.returns-in-None-clause-word
returns-in-None-clause-word g c =
    rw (c.no_word.ensures, c.not_there-outcome.ensures)
    (word_of_none (read_of c.args.planned.now c.args.tables.now) c.args.logins.now c.args.nonces.now c.args.event c.args.id c.args.caches.now)

pub returns-in-None-clause-kept : goal.returns-in-None-clause-kept
returns-in-None-clause-kept g c =
    rw (c.no_word.ensures, c.not_there-outcome.ensures)
    (kept_of_none (read_of c.args.planned.now c.args.tables.now) c.args.logins.now c.args.nonces.now c.args.event c.args.id c.args.caches.now)

pub returns-in-Some-clause-word : goal.returns-in-Some-clause-word
returns-in-Some-clause-word g c =
    word_all (read_of c.args.planned.now c.args.tables.now) c.args.logins.now c.args.nonces.now c.args.event c.args.id c.args.caches.now c.answer_found.new.caches
    c.in-Some.context.now c.answer_found.new.context c.answer_found.result c.in-Some.ensures.rise (sym c.in-Some.ensures.value) c.answer_found.ensures.keeps

pub returns-in-Some-clause-kept : goal.returns-in-Some-clause-kept
returns-in-Some-clause-kept g c =
    keeps_all (read_of c.args.planned.now c.args.tables.now) c.args.logins.now c.args.nonces.now c.args.event c.args.id c.args.caches.now c.answer_found.new.caches
    c.in-Some.context.now c.answer_found.new.context c.answer_found.result c.in-Some.ensures.rise (sym c.in-Some.ensures.value) c.answer_found.ensures.keeps
