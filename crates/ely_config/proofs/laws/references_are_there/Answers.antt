use Rattle.ely_config.proofs.RealmLemmas.{sound_realms}
use Rattle.ely_config.proofs.ReferenceLemmas.{of_there, authentication_there, authorization_there}
use Rattle.ely_config.proofs.laws.references_are_there.Goals as goal

pub returns-clause-of : goal.returns-clause-of
returns-clause-of c = λ members i realm of limit sound here is. of_there members.digest_realm members.realms (sound_realms members sound) i realm here of limit is

pub returns-clause-authentication : goal.returns-clause-authentication
returns-clause-authentication c =
    λ members i realm authentication authorization sound here is.
    authentication_there members.digest_realm members.realms (sound_realms members sound) i realm here authentication authorization is

pub returns-clause-authorization : goal.returns-clause-authorization
returns-clause-authorization c =
    λ members i realm authentication authorization at name sound here is named.
    authorization_there members.digest_realm members.realms (sound_realms members sound) i realm here authentication authorization is at name named
