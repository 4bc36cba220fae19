-- What a context stands for.
use Rattle.std.specs.Prelude.{ℕ, List, Option}
use Rattle.ely_cred.specs.Keys.{Ready}
use Rattle.ely_context.specs.declared.naming.Naming.{Naming}
use Rattle.ely_context.specs.declared.pin.Pin.{Pin}
use Rattle.ely_context.specs.declared.stage.Stage.{Stage}
use Rattle.ely_context.specs.Stages.{Login}
use Rattle.ely_login.specs.declared.claim.Evidence.{Evidence}

-- a context's stage
abbrev pub ContextStage : Type 0
ContextStage = Stage Pin Naming Evidence

-- a context as it is seen
abbrev pub ContextLogin : Type 0
ContextLogin = Login Pin Naming Evidence

-- the key of a named login, with the server's first message where its client was sent one
abbrev pub naming : Ready → Option (List ℕ) → Naming
naming ready server_first = record { ready = ready; server_first = server_first }
