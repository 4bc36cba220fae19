use Rattle.std.proofs.Common.{sym, ◌∙◌, arith}
use Rattle.ely_config.proofs.RealmLemmas.{refused, passes, all_passed}
use Rattle.ely_config.proofs.realm_faults.realms_fault.Goals as goal

pub returns-in-Some-2 : goal.returns-in-Some-2
returns-in-Some-2 c =
    refused c.args.digest_realm.now c.args.realms.now c.loop-realm.at c.in-Some.realm.now c.in-Some.ensures.lookup.3.0 c.in-Some.ensures.lookup.1 c.in-Some-2.fault
    c.loop-realm.invariant (sym c.in_ok-fault.ensures ∙ c.in-Some-2.is)

pub loop-realm-preserved : goal.loop-realm-preserved
loop-realm-preserved c =
    passes c.args.digest_realm.now c.args.realms.now c.loop-realm.at c.in-Some.realm.now c.in-Some.ensures.lookup.3.0 c.in-Some.ensures.lookup.1
    c.loop-realm.invariant (sym c.in_ok-fault.ensures ∙ c.in_default-2.is)

pub returns : goal.returns
returns c =
    all_passed c.args.digest_realm.now c.args.realms.now c.loop-realm.at (omega (arith, c.in_default.ensures.lookup)) c.loop-realm.invariant
