use Rattle.std.proofs.Common.{ap, arith, rules}
use Rattle.ely_domain.specs.Domains.{Seen}
use Rattle.ely_history.proofs.Extends.{no_history}
use Rattle.ely_front.proofs.AnswerLemmas.{has_begun}
use Rattle.ely_front.proofs.replay.ReplayMode.begin.Goals as goal

pub returns : goal.returns
returns c = has_begun _ _ (record {
  given_is = ap (λ (d : Seen). d.given) c.in_ok-domain.ensures;
  is_history = no_history c.args.setup;
  machine_is = ap (λ (d : Seen). d.machine) c.in_ok-domain.ensures;
  kept_is = ap (λ (d : Seen). d.kept) c.in_ok-domain.ensures;
  number_is = omega arith;
  counted = λ a. search rules;
  few = omega arith;
  opened = omega (arith, ap (λ (d : Seen). d.machine.opened) c.in_ok-domain.ensures);
})
