use Rattle.std.proofs.Common.{refl}
use Rattle.ely_context.specs.Logins.{login_of}
use Rattle.ely_domain.specs.Contexts.{IsReply, read_of, seen_login}
use Rattle.ely_domain.specs.Steps.{not_due, reply}
use Rattle.ely_domain.proofs.Quiet.{quiet_all, quiet_due, word_err, word_is_ok, word_ok}
use Rattle.ely_domain.proofs.login_step.move_login.Goals as goal

pub returns-in-Name1-clause-sound : goal.returns-in-Name1-clause-sound
returns-in-Name1-clause-sound g c = c.name1.ensures.sound (login_of c.args.handouts.now c.args.id) c.requires.sound

pub returns-in-Name2-clause-sound : goal.returns-in-Name2-clause-sound
returns-in-Name2-clause-sound g c = c.name2.ensures.sound (login_of c.args.handouts.now c.args.id) c.requires.sound

pub returns-in-Name2-clause-keeps : goal.returns-in-Name2-clause-keeps
returns-in-Name2-clause-keeps g c = rw c.in-Name2.is (c.name2.ensures.keeps c.in-Name2.ctx c.in-Name2.serial)

-- what a quiet step does, with no word behind it
pub returns-in_default : goal.returns-in_default
returns-in_default g c =
    let known = read_of c.args.planned.now c.args.tables.now in
    let old = c.args.context.now in
    let new = c.quiet_step.new.context in
    let due = quiet_due c.args.event c.requires.due c.in_default.not-Name1 c.in_default.not-Name2 in
    let said = rw c.config-config.ensures at c.quiet_step.ensures.reply in
    rw c.no_word.ensures (record {
      reply = word_ok c.quiet_step.result (λ outcome. IsReply (reply known c.args.nonces.now (seen_login old) c.args.event) (not_due c.args.event) old outcome new) said;
      used = word_ok c.quiet_step.result _ c.quiet_step.ensures.used;
      keeps = quiet_all known c.args.nonces.now old new c.args.caches.now c.args.event c.quiet_step.result due said;
      current = c.requires.current;
      sound = rw c.config-config.ensures at c.quiet_step.ensures.sound;
      others = c.quiet_step.ensures.others;
      err = word_err _ _ _ _ c.quiet_step.result refl c.quiet_step.ensures.err;
      takes_no_memory = λ free. word_is_ok c.quiet_step.result (c.quiet_step.ensures.takes_no_memory free);
      cost = rw c.config-config.ensures at c.quiet_step.ensures.cost;
      brought = rw c.config-config.ensures at c.quiet_step.ensures.brought;
    })
