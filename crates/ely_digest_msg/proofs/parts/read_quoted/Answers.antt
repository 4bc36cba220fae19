use Rattle.std.proofs.Common.{◌∙◌}
use Rattle.ely_digest_msg.proofs.QuoteLemmas.{read_within}
use Rattle.ely_digest_msg.proofs.parts.read_quoted.Goals as goal

pub returns-in-Some-clause-value : goal.returns-in-Some-clause-value
returns-in-Some-clause-value c =
    read_within _ c.from_offset-inner.result.now c.split_at.result.0.now c.split_at.result.1.now c.of.result c.of-in-Some.result c.in-Some.len _
    c.from_offset-inner.ensures c.in-Some.ensures.value c.split_at.ensures.front c.split_at.ensures.back c.of.ensures (c.of-in-Some.ensures ∙ c.from_offset.ensures)
