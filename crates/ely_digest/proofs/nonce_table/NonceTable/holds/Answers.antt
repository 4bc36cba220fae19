use Rattle.std.proofs.Common.{◌∙◌, arith}
use Rattle.ely_digest.proofs.KeptLemmas.{found_is, length-oldest_first}
use Rattle.ely_digest.proofs.nonce_table.NonceTable.holds.Goals as goal

pub returns-clause-count : goal.returns-clause-count
returns-clause-count c = rw (← c.self.view_is) (c.copied.ensures ∙ (c.peek.ensures
    ∙ found_is c.self.inside.counts c.args.nonce.now c.self.invariant))

pub returns-clause-within : goal.returns-clause-within
returns-clause-within c = rw (← c.self.view_is) (omega
    (arith, c.self.invariant.within, length-oldest_first c.self.inside.counts.entries))

pub returns-clause-distinct : goal.returns-clause-distinct
returns-clause-distinct c = rw (← c.self.view_is) c.self.invariant.distinct
