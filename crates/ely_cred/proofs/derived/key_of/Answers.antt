use Rattle.ely_cred.proofs.derived.key_of.Goals as goal

-- PLAIN takes the credential as it is
pub returns-in-Plain-default-clause-value : goal.returns-in-Plain-default-clause-value
returns-in-Plain-default-clause-value g c =
    rw c.in-Plain-default.is-0 (c.plain_key.ensures c.args.params.now c.args.realm.now c.args.name.now)
