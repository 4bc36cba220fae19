use Rattle.ely_config.proofs.RealmLemmas.{sound_realms}
use Rattle.ely_config.proofs.ReferenceLemmas.{limit_kept}
use Rattle.ely_config.proofs.laws.limits_are_kept.Goals as goal

pub returns : goal.returns
returns c = λ members i realm of limit sound here is. limit_kept members.digest_realm members.realms (sound_realms members sound) i realm here of limit is
