use Rattle.std.proofs.Common.{◌∙◌, sym, ap, arith, rules}
use Rattle.ely_scram.specs.declared.judgement.Judged.TheVariants.{Proved}
use Rattle.ely_scram.proofs.JudgementLemmas.{bytes_eq-test, steps_of-cost, steps_of-no_cost, has_proof-other_len, has_proof-sized, judgement_of-binding, judgement_of-nonce, judgement_of-proof, judgement_of-proved, judge_cost-binding, judge_cost-nonce, judge_cost-other_len, judge_cost-proof, judge_cost-proved}
use Rattle.ely_scram.proofs.WhoGetsIn.{IsProved-exactly}
use Rattle.ely_scram.proofs.judgement.judge.Goals as goal

pub returns-then-not-has_binding-clause-value : goal.returns-then-not-has_binding-clause-value
returns-then-not-has_binding-clause-value g c =
    sym (judgement_of-binding _ _ _ _ _ _ (bytes_eq-test _ _ _ _ c.has_binding.ensures c.if-not-has_binding.true))

pub returns-then-not-has_binding-clause-cost : goal.returns-then-not-has_binding-clause-cost
returns-then-not-has_binding-clause-cost g c =
    steps_of-no_cost _ _ (judge_cost-binding _ _ _ _ _ _ (bytes_eq-test _ _ _ _ c.has_binding.ensures c.if-not-has_binding.true))

pub returns-then-not-has_nonce-clause-value : goal.returns-then-not-has_nonce-clause-value
returns-then-not-has_nonce-clause-value g c =
    sym (judgement_of-nonce _ _ _ _ _ _ (bytes_eq-test _ _ _ _ c.has_binding.ensures c.if-not-has_binding.false) (bytes_eq-test _ _ _ _ c.has_nonce.ensures c.if-not-has_nonce.true))

pub returns-then-not-has_nonce-clause-cost : goal.returns-then-not-has_nonce-clause-cost
returns-then-not-has_nonce-clause-cost g c =
    steps_of-no_cost _ _ (judge_cost-nonce _ _ _ _ _ _ (bytes_eq-test _ _ _ _ c.has_binding.ensures c.if-not-has_binding.false) (bytes_eq-test _ _ _ _ c.has_nonce.ensures c.if-not-has_nonce.true))

pub returns-in_default-clause-value : goal.returns-in_default-clause-value
returns-in_default-clause-value g c =
    sym (judgement_of-proof _ _ _ _ _ _ (bytes_eq-test _ _ _ _ c.has_binding.ensures c.if-not-has_binding.false) (bytes_eq-test _ _ _ _ c.has_nonce.ensures c.if-not-has_nonce.false) (has_proof-other_len _ _ _ _ _ (search rules)))

pub returns-in_default-clause-exactly : goal.returns-in_default-clause-exactly
returns-in_default-clause-exactly g c =
    IsProved-exactly _ g.H.HashAlg.laws _ _ _ _ _ _ (returns-in_default-clause-value g c)

pub returns-in_default-clause-cost : goal.returns-in_default-clause-cost
returns-in_default-clause-cost g c =
    steps_of-no_cost _ _ (judge_cost-other_len _ _ _ _ _ _ (bytes_eq-test _ _ _ _ c.has_binding.ensures c.if-not-has_binding.false) (bytes_eq-test _ _ _ _ c.has_nonce.ensures c.if-not-has_nonce.false) (search rules))

pub returns-then-not-shows_key-clause-value : goal.returns-then-not-shows_key-clause-value
returns-then-not-shows_key-clause-value g c =
    sym (judgement_of-proof _ _ _ _ _ _ (bytes_eq-test _ _ _ _ c.has_binding.ensures c.if-not-has_binding.false) (bytes_eq-test _ _ _ _ c.has_nonce.ensures c.if-not-has_nonce.false) (has_proof-sized _ _ _ _ _ _ _ _ _ c.signature-client.ensures.value c.in-Some.ensures.value (search rules) c.shows_key.ensures c.if-not-shows_key.true))

pub returns-then-not-shows_key-clause-exactly : goal.returns-then-not-shows_key-clause-exactly
returns-then-not-shows_key-clause-exactly g c =
    IsProved-exactly _ g.H.HashAlg.laws _ _ _ _ _ _ (returns-then-not-shows_key-clause-value g c)

pub returns-then-not-shows_key-clause-cost : goal.returns-then-not-shows_key-clause-cost
returns-then-not-shows_key-clause-cost g c =
    steps_of-cost _ _ 1 _ c.signature-client.ensures.cost (judge_cost-proof _ _ _ _ _ _ (bytes_eq-test _ _ _ _ c.has_binding.ensures c.if-not-has_binding.false) (bytes_eq-test _ _ _ _ c.has_nonce.ensures c.if-not-has_nonce.false) (search rules) (has_proof-sized _ _ _ _ _ _ _ _ _ c.signature-client.ensures.value c.in-Some.ensures.value (search rules) c.shows_key.ensures c.if-not-shows_key.true))

pub returns-clause-value : goal.returns-clause-value
returns-clause-value g c =
    ap Proved c.signature.ensures.value ∙ sym (judgement_of-proved _ _ _ _ _ _ (bytes_eq-test _ _ _ _ c.has_binding.ensures c.if-not-has_binding.false) (bytes_eq-test _ _ _ _ c.has_nonce.ensures c.if-not-has_nonce.false) (has_proof-sized _ _ _ _ _ _ _ _ _ c.signature-client.ensures.value c.in-Some.ensures.value (search rules) c.shows_key.ensures c.if-not-shows_key.false))

pub returns-clause-exactly : goal.returns-clause-exactly
returns-clause-exactly g c =
    IsProved-exactly _ g.H.HashAlg.laws _ _ _ _ _ _ (returns-clause-value g c)

pub returns-clause-cost : goal.returns-clause-cost
returns-clause-cost g c =
    steps_of-cost _ _ 2 _ (omega (arith, c.signature.ensures.cost, c.signature-client.ensures.cost)) (judge_cost-proved _ _ _ _ _ _ (bytes_eq-test _ _ _ _ c.has_binding.ensures c.if-not-has_binding.false) (bytes_eq-test _ _ _ _ c.has_nonce.ensures c.if-not-has_nonce.false) (search rules) (has_proof-sized _ _ _ _ _ _ _ _ _ c.signature-client.ensures.value c.in-Some.ensures.value (search rules) c.shows_key.ensures c.if-not-shows_key.false))
