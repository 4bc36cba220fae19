-- The live logins as the machine knows them: what a naming pinned and what a check was shown, and neither rows nor keys.
use Rattle.std.specs.Prelude.{ℕ, List}
use Rattle.ely_pipeline.specs.declared.place.Place.{Place}
use Rattle.ely_login.specs.declared.claim.Claim.{Claim}
use Rattle.ely_login.specs.declared.claim.Evidence.{Evidence}
use Rattle.ely_context.specs.declared.stage.Stage.{Stage}
use Rattle.ely_context.specs.Stages.{Login}
use Rattle.ely_digest.specs.Nonces.{Nonces}

-- what a naming pinned: how many edits count, whom they are asked about, and what the login said of itself
pub record Pinned : Type 0 where
  pub version : ℕ
  pub place : Place
  pub claim : Claim

-- a stage of a login as the machine knows it: a key is no part of it, since it follows from the pin
abbrev pub KnownStage : Type 0
KnownStage = Stage Pinned (Unit {0}) Evidence

-- a login as the machine knows it
abbrev pub KnownLogin : Type 0
KnownLogin = Login Pinned (Unit {0}) Evidence

-- what a step of a login may change: the live logins by their ids, the ids rising, and the nonces that were issued, each with
-- the last count by which it was used
pub record Live : Type 0 where
  pub logins : List (ℕ × KnownLogin)
  pub nonces : Nonces
