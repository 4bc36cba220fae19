use Rattle.ely_digest_msg.proofs.QuoteLemmas.{quoted_from_start, found_quote, past_escape, past_plain, no_quote, ends_at, ends_nowhere}
use Rattle.ely_digest_msg.proofs.parts.quoted_len.Goals as goal

pub loop-i-init : goal.loop-i-init
loop-i-init c = quoted_from_start c.args.text.now

pub returns-then-text-i-eq34-clause-value : goal.returns-then-text-i-eq34-clause-value
returns-then-text-i-eq34-clause-value c = ends_at c.args.text.now c.loop-i.i (found_quote c.args.text.now c.loop-i.i c.loop-i-test.true c.if-text-i-eq34.true c.loop-i.invariant)

pub returns-clause-value : goal.returns-clause-value
returns-clause-value c = ends_nowhere c.args.text.now (no_quote c.args.text.now c.loop-i.i c.loop-i-test.false c.loop-i.invariant)

pub loop-i-preserved-then-text-i-eq92 : goal.loop-i-preserved-then-text-i-eq92
loop-i-preserved-then-text-i-eq92 c = past_escape c.args.text.now c.loop-i.i c.loop-i-test.true c.if-text-i-eq92.true c.loop-i.invariant

pub loop-i-preserved : goal.loop-i-preserved
loop-i-preserved c = past_plain c.args.text.now c.loop-i.i c.loop-i-test.true c.if-text-i-eq34.false c.if-text-i-eq92.false c.loop-i.invariant
