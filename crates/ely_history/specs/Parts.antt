-- The parts of a line: its steps in order, each with what the line says for it.
use Rattle.std.specs.Prelude.{ℕ, List, [], ◌∷◌, Option, Some, None, Ok, Err}
use Rattle.std.specs.Option.{option_map}
use Rattle.ely_row.specs.declared.edit.Edit.{Edit}
use Rattle.ely_row.specs.declared.mech.Mech.{Mech}
use Rattle.ely_login.specs.declared.claim.Claim.{Claim}
use Rattle.ely_login.specs.declared.claim.Claim.TheVariants as claims
use Rattle.ely_login.specs.declared.claim.Evidence.{Evidence}
use Rattle.ely_login.specs.declared.claim.Evidence.TheVariants as evidences
use Rattle.ely_script.specs.declared.command.LineError.TheVariants as errors
use Rattle.ely_script.specs.declared.command.Verb.{Verb}
use Rattle.ely_script.specs.declared.command.Verb.TheVariants as verbs
use Rattle.ely_login.specs.declared.outcome.BadLine.{BadLine}
use Rattle.ely_script.specs.Lines.{ScriptLine}
use Rattle.ely_domain.specs.declared.event.Event.{Event}
use Rattle.ely_domain.specs.declared.event.Event.TheVariants as events

-- a step of a line, before it is known which serial the line carries there
pub data Part : Type 0 where
  Bad : (bad : BadLine) → Part
  Change : (edit : Edit) → Part
  Begin : (c : ℕ) (mech : Mech) (brought : Option (List ℕ)) → Part
  Name1 : (c : ℕ) (claim : Claim) → Part
  Name2 : (c : ℕ) → Part
  Check1 : (c : ℕ) (evidence : Evidence) → Part
  Check2 : (c : ℕ) → Part
  Authorize : (c : ℕ) → Part
  Allows : (c : ℕ) (wanted : List ℕ) → Part
  Succeed : (c : ℕ) → Part
  Fail : (c : ℕ) → Part
  Close : (c : ℕ) → Part

-- the parts of a verb
abbrev pub parts_by : Verb → List Part
parts_by (verbs.Change edit) = Change edit ∷ []
parts_by (verbs.Begin c mech brought) = Begin c mech brought ∷ []
parts_by (verbs.Plain c message) =
    Name1 c (claims.Plain message.authzid message.name) ∷ Name2 c
    ∷ Check1 c (evidences.Plain message.password) ∷ Check2 c ∷ []
parts_by (verbs.First c message) = Name1 c (claims.Scram message) ∷ Name2 c ∷ []
parts_by (verbs.Last c message) = Check1 c (evidences.Scram message) ∷ Check2 c ∷ []
parts_by (verbs.Digest c method target reply) =
    Name1 c (claims.Digest reply.alg reply.name) ∷ Name2 c ∷ Check1 c (evidences.Digest reply method target) ∷ Check2 c ∷ []
parts_by (verbs.Authorize c) = Authorize c ∷ []
parts_by (verbs.Succeed c) = Succeed c ∷ []
parts_by (verbs.Fail c) = Fail c ∷ []
parts_by (verbs.Close c) = Close c ∷ []
parts_by (verbs.Allows c wanted) = Allows c wanted ∷ []

-- the parts of a line; one that can't be read is one step
abbrev pub parts_of : ScriptLine → List Part
parts_of (Ok command) = parts_by command.verb
parts_of (Err (errors.Bad actor bad)) = Bad bad ∷ []

-- the actor of a line
abbrev pub actor_of : ScriptLine → ℕ
actor_of (Ok command) = command.actor
actor_of (Err (errors.Bad actor bad)) = actor

-- the event of a part where the line carries this serial; the second halves need one
abbrev pub event_of : Part → Option ℕ → Option Event
event_of (Bad bad) carried = Some (events.Bad bad)
event_of (Change edit) carried = Some (events.Change edit)
event_of (Begin c mech brought) carried = Some (events.Begin c mech brought)
event_of (Name1 c claim) carried = Some (events.Name1 c claim)
event_of (Name2 c) carried = option_map (λ serial. events.Name2 c serial None) carried
event_of (Check1 c evidence) carried = Some (events.Check1 c carried evidence)
event_of (Check2 c) carried = option_map (λ serial. events.Check2 c serial None) carried
event_of (Authorize c) carried = Some (events.Authorize c)
event_of (Allows c wanted) carried = Some (events.Allows c wanted)
event_of (Succeed c) carried = Some (events.Succeed c)
event_of (Fail c) carried = Some (events.Fail c)
event_of (Close c) carried = Some (events.Close c)
