use Rattle.std.proofs.Common.{◌≡◌, [], arith, ap, ◌∙◌}
use Rattle.ely_hash.specs.Formulas.{hmac_of}
use Rattle.ely_hash.specs.Macs.{IsHmac}
use Rattle.ely_hash.proofs.HiLemmas.{IsHiAt-one, IsHiAt-more, IsHiAt-hi_of}
use Rattle.ely_hash.proofs.derive.hi.Goals as goal

pub loop-k-init : goal.loop-k-init
loop-k-init g c =
    let alg = g.H.HashAlg in
    let fresh : IsHmac alg.stands alg.hash c.copy-mac.result c.args.password.now [] = rw c.copy-mac.ensures c.start-keyed.ensures in
    let one = c.end-last.ensures.value _ _ (c.add-2.ensures _ _ (c.add.ensures _ _ fresh)) in
    record { hi = IsHiAt-one _ _ _ _ one c.end-last.ensures.len; cost = c.tick.ensures }

pub loop-k-preserved : goal.loop-k-preserved
loop-k-preserved g c =
    let alg = g.H.HashAlg in
    let fresh : IsHmac alg.stands alg.hash c.copy-mac-in-loop-k.result c.args.password.now [] = rw c.copy-mac-in-loop-k.ensures c.start-keyed.ensures in
    let next = c.end-last-in-loop-k.ensures.value _ _ (c.add-in-loop-k.ensures _ _ fresh) in
    let next_is : c.end-last-in-loop-k.result ≡ hmac_of alg.hash c.args.password.now c.loop-k.last = next ∙ ap (hmac_of alg.hash c.args.password.now) c.bytes.ensures.value in
    record {
      hi = rw c.xor-total.ensures.value (IsHiAt-more _ _ _ _ _ _ _ c.loop-k.auto.k next_is c.end-last-in-loop-k.ensures.len c.loop-k.invariant.hi);
      cost = omega (arith, c.tick-in-loop-k.ensures, c.loop-k.invariant.cost);
    }

pub returns-clause-value : goal.returns-clause-value
returns-clause-value g c =
    let all : c.loop-k.k ≡ c.args.turns = omega (arith, c.requires, c.loop-k.auto.k-end) in
    IsHiAt-hi_of _ _ _ _ _ _ _ _ all c.loop-k.invariant.hi
