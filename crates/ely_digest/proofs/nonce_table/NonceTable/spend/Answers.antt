use Rattle.std.proofs.Common.{◌≡◌, None, Some, sym, ap, ◌∙◌, subst}
use Rattle.std.proofs.lemmas.Map.Steps.{set_value_same}
use Rattle.lru.specs.LruCache.{lru_cache}
use Rattle.ely_digest.specs.Nonces.{Nonces, last_count, with_count, spending}
use Rattle.ely_digest.specs.Uses.{IsSpent}
use Rattle.ely_digest.specs.Kept.{nonces_of}
use Rattle.ely_digest.proofs.KeptLemmas.{Pairs, is_key, found_is, set_is, IsTable-set}
use Rattle.ely_digest.proofs.SpendLemmas.{accepted, replayed, stale_where, replayed_where}
use Rattle.ely_digest.proofs.UseLemmas.{spent}
use Rattle.ely_digest.proofs.nonce_table.NonceTable.spend.Goals as goal

-- ---- the nonce is not in the table

pub returns-in_default-clause-answer : goal.returns-in_default-clause-answer
returns-in_default-clause-answer c =
    let none : None ≡ last_count c.args.self.now c.args.nonce.now = rw (← c.self.view_is) (c.in_default.ensures.value
    ∙ found_is c.self.inside.counts c.args.nonce.now c.self.invariant) in
    ap (λ o. spending o c.args.nc) none

pub returns-in_default-clause-stale : goal.returns-in_default-clause-stale
returns-in_default-clause-stale c = stale_where _ c.args.nc _ (returns-in_default-clause-answer c)

pub returns-in_default-clause-replayed : goal.returns-in_default-clause-replayed
returns-in_default-clause-replayed c = replayed_where _ c.args.nc _ (returns-in_default-clause-answer c)

-- ---- its last count is not below this one

pub invariant_of-self-then-nc-last : goal.invariant_of-self-then-nc-last
invariant_of-self-then-nc-last c = IsTable-set c.self.inside.counts c.args.nonce.now c.in-Some.last.now c.self.invariant

pub returns-then-nc-last-clause-answer : goal.returns-then-nc-last-clause-answer
returns-then-nc-last-clause-answer c =
    let found : Some c.in-Some.last.now ≡ last_count c.args.self.now c.args.nonce.now = rw (← c.self.view_is)
    (c.in-Some.ensures.value ∙ found_is c.self.inside.counts c.args.nonce.now c.self.invariant) in
    replayed c.in-Some.last.now c.args.nc c.if-nc-last.true ∙ ap (λ o. spending o c.args.nc) found

pub returns-then-nc-last-clause-stale : goal.returns-then-nc-last-clause-stale
returns-then-nc-last-clause-stale c = stale_where _ c.args.nc _ (returns-then-nc-last-clause-answer c)

pub returns-then-nc-last-clause-replayed : goal.returns-then-nc-last-clause-replayed
returns-then-nc-last-clause-replayed c = replayed_where _ c.args.nc _ (returns-then-nc-last-clause-answer c)

pub returns-then-nc-last-clause-err : goal.returns-then-nc-last-clause-err
returns-then-nc-last-clause-err c =
    let k = c.self.inside.counts in
    let same = set_value_same (is_key c.args.nonce.now) k.entries c.in-Some.last.now (sym c.in-Some.ensures.value) in
    ap (λ (es : Pairs). nonces_of (lru_cache es k.cap)) same ∙ c.self.view_is

-- ---- the count is spent

pub invariant_of-self-2 : goal.invariant_of-self-2
invariant_of-self-2 c = IsTable-set c.self.inside.counts c.args.nonce.now c.args.nc c.self.invariant

pub returns-clause-answer : goal.returns-clause-answer
returns-clause-answer c =
    let found : Some c.in-Some.last.now ≡ last_count c.args.self.now c.args.nonce.now = rw (← c.self.view_is)
    (c.in-Some.ensures.value ∙ found_is c.self.inside.counts c.args.nonce.now c.self.invariant) in
    accepted c.in-Some.last.now c.args.nc c.if-nc-last.false ∙ ap (λ o. spending o c.args.nc) found

pub returns-clause-stale : goal.returns-clause-stale
returns-clause-stale c = stale_where _ c.args.nc _ (returns-clause-answer c)

pub returns-clause-replayed : goal.returns-clause-replayed
returns-clause-replayed c = replayed_where _ c.args.nc _ (returns-clause-answer c)

pub returns-clause-spent : goal.returns-clause-spent
returns-clause-spent c =
    set_is c.self.inside.counts c.args.nonce.now c.args.nc c.self.invariant
    ∙ ap (λ (t : Nonces). with_count t c.args.nonce.now c.args.nc) c.self.view_is

pub returns-clause-once : goal.returns-clause-once
returns-clause-once c =
    let nonce = c.args.nonce.now in
    subst (λ (t : Nonces). IsSpent t nonce c.args.nc) (sym (returns-clause-spent c)) (spent c.args.self.now nonce c.args.nc)
