use Rattle.std.proofs.Common.{◌≡◌, ℕ, false, Option, None, Some, refl, sym, ap, ◌∙◌}
use Rattle.std.specs.Option.{is_some}
use Rattle.std.specs.Map.{lookup}
use Rattle.ely_digest.specs.Nonces.{Nonces, last_count, with_nonce}
use Rattle.ely_digest.specs.Kept.{nonces_of}
use Rattle.ely_digest.proofs.KeptLemmas.{Cache, is_key, put_in, found_is, put_is, IsTable-put, begins}
use Rattle.ely_digest.proofs.nonce_table.NonceTable.issue.Goals as goal

unknown : (o : Option ℕ) → is_some o ≡ false → o ≡ None
unknown None h = refl
unknown (Some x) h = cc

-- the nonce is not in the table
absent : (c : goal.In_ok-put) → last_count (nonces_of c.self.inside.counts) c.args.nonce.now ≡ None
absent c =
    let held : c.holds.result ≡ None = unknown c.holds.result (sym c.is_some.ensures ∙ c.if-is_some.false) in
    ap (λ (t : Nonces). last_count t c.args.nonce.now) c.self.view_is ∙ (sym c.holds.ensures.count ∙ held)

no_key : (c : goal.In_ok-put) → lookup (is_key c.in_ok-key.key.items) c.self.inside.counts.entries ≡ None
no_key c = rw c.in_ok-key.ensures.items (found_is c.self.inside.counts c.args.nonce.now c.self.invariant ∙ absent c)

-- it is issued
put : (c : goal.In_ok-put) → nonces_of (put_in c.self.inside.counts c.in_ok-key.key) ≡ with_nonce
    (nonces_of c.self.inside.counts) c.args.nonce.now
put c =
    let k = c.self.inside.counts in
    put_is k c.in_ok-key.key c.self.invariant (no_key c) ∙ ap (with_nonce (nonces_of k)) c.in_ok-key.ensures.items

pub invariant_of-self-2 : goal.invariant_of-self-2
invariant_of-self-2 c = rw c.in_ok-put.ensures.entries (IsTable-put c.self.inside.counts c.in_ok-key.key c.self.invariant
    (no_key c))

pub returns-clause-issued : goal.returns-clause-issued
returns-clause-issued c =
    ap nonces_of c.in_ok-put.ensures.entries ∙ (put c ∙ ap (λ (t : Nonces). with_nonce t c.args.nonce.now) c.self.view_is)

pub returns-clause-begins : goal.returns-clause-begins
returns-clause-begins c =
    let nonce = c.args.nonce.now in
    ap (λ (cache : Cache). last_count (nonces_of cache) nonce) c.in_ok-put.ensures.entries
    ∙ (ap (λ (t : Nonces). last_count t nonce) (put c)
    ∙ begins (nonces_of c.self.inside.counts) nonce c.self.invariant.some (absent c))
