-- What a part that lends from its line says.
use Rattle.ely_login.specs.declared.claim.Claim.TheVariants as claims
use Rattle.ely_login.specs.declared.claim.Evidence.TheVariants as evidences
use Rattle.ely_history.specs.declared.part.Part.{Part as Lent}
use Rattle.ely_history.specs.declared.part.Part.TheVariants as lent
use Rattle.ely_history.specs.Parts.{Part, Bad, Change, Begin, Name1, Name2, Check1, Check2, Authorize, Allows, Succeed, Fail, Close}

-- the part that a lent one is
abbrev pub seen_part : Lent → Part
seen_part (lent.Bad bad) = Bad bad
seen_part (lent.Change edit) = Change edit.now
seen_part (lent.Begin c mech brought) = Begin c mech brought.now
seen_part (lent.PlainName c message) = Name1 c (claims.Plain message.now.authzid message.now.name)
seen_part (lent.ScramName c message) = Name1 c (claims.Scram message.now)
seen_part (lent.DigestName c reply) = Name1 c (claims.Digest reply.now.alg reply.now.name)
seen_part (lent.Name2 c) = Name2 c
seen_part (lent.PlainCheck c message) = Check1 c (evidences.Plain message.now.password)
seen_part (lent.ScramCheck c message) = Check1 c (evidences.Scram message.now)
seen_part (lent.DigestCheck c reply method target) = Check1 c (evidences.Digest reply.now method.now target.now)
seen_part (lent.Check2 c) = Check2 c
seen_part (lent.Authorize c) = Authorize c
seen_part (lent.Allows c wanted) = Allows c wanted.now
seen_part (lent.Succeed c) = Succeed c
seen_part (lent.Fail c) = Fail c
seen_part (lent.Close c) = Close c
