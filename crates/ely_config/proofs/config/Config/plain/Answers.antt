use Rattle.ely_config.proofs.RealmLemmas.{plain_sound}
use Rattle.ely_config.proofs.config.Config.plain.Goals as goal

pub invariant_of-result : goal.invariant_of-result
invariant_of-result c = rw c.in_ok-plain.ensures plain_sound
