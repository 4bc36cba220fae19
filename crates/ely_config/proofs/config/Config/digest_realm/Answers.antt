use Rattle.std.proofs.Common.{subst}
use Rattle.ely_config.specs.Realms.{AreSound}
use Rattle.ely_config.proofs.RealmLemmas.{sound_realms}
use Rattle.ely_config.proofs.config.Config.digest_realm.Goals as goal

pub returns-clause-sound : goal.returns-clause-sound
returns-clause-sound c = subst (λ members. AreSound members.digest_realm members.realms) c.self.view_is (sound_realms c.self.inside.members c.self.invariant)
