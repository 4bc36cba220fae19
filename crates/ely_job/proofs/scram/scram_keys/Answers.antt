use Rattle.ely_job.proofs.ScramKeys.{derived_key_is_scram}
use Rattle.ely_job.proofs.scram.scram_keys.Goals as goal

pub unreachable-requires : goal.unreachable-requires
unreachable-requires c =
    let key = c.args.ready.now in
    derived_key_is_scram key.params key.realm key.name key.mech key.cred c.key.result.now c.requires (rw c.key.ensures c.mech-mech.ensures.derived) c.in_default.not-Scram
