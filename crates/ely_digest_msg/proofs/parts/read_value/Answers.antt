use Rattle.std.proofs.Common.{◌∙◌, sym, ap, ℕ, List, Result, Ok}
use Rattle.ely_digest_msg.specs.declared.fault.DigestFault.{DigestFault}
use Rattle.ely_digest_msg.proofs.QuoteLemmas.{token_value}
use Rattle.ely_digest_msg.proofs.parts.read_value.Goals as goal

pub returns-clause-value : goal.returns-clause-value
returns-clause-value c =
    let rest = c.in_ok-token.rest in
    token_value c.args.size c.args.text.now c.bytes.result.now c.of.result rest (sym c.starts.ensures ∙ c.if-starts.false) c.of.ensures
    (ap (λ (xs : List ℕ). let r : Result (List ℕ × List ℕ) DigestFault = Ok (xs, rest) in r) c.bytes.ensures ∙ c.in_ok-token.ensures.value)
