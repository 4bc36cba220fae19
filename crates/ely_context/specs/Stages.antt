-- How far a login has come, and what it holds there: P is what its naming pinned, K what it is judged by once it is named, and
-- E what it shows.
use Rattle.std.specs.Prelude.{ℕ, List, Option, Some, None}
use Rattle.ely_row.specs.declared.mech.Mech.{Mech}
use Rattle.ely_login.specs.declared.word.StateWord.{StateWord}
use Rattle.ely_login.specs.declared.word.StateWord.TheVariants as words
use Rattle.ely_context.specs.declared.stage.Stage.{Stage}
use Rattle.ely_context.specs.declared.stage.Stage.TheVariants.{Fresh, Loading, Named, Checking, Proved, Authorized, Complete, Failed}

-- a login: which open it comes from, its mechanism, its nonce and its stage
pub record Login (P K E : Type 0) : Type 0 where
  pub serial : ℕ
  pub mech : Mech
  pub nonce : List ℕ
  pub stage : Stage P K E

module _ {P K E : Type 0} where
  -- the word of the stage
  abbrev pub state_of : Stage P K E → StateWord
  state_of Fresh = words.Fresh
  state_of (Loading pin) = words.Loading
  state_of (Named pin key) = words.Named
  state_of (Checking pin key evidence) = words.Checking
  state_of (Proved pin) = words.Proved
  state_of (Authorized pin) = words.Authorized
  state_of (Complete pin) = words.Complete
  state_of Failed = words.Failed

  -- what was pinned, where it is held
  abbrev pub pin_of : Stage P K E → Option P
  pin_of Fresh = None
  pin_of (Loading pin) = Some pin
  pin_of (Named pin key) = Some pin
  pin_of (Checking pin key evidence) = Some pin
  pin_of (Proved pin) = Some pin
  pin_of (Authorized pin) = Some pin
  pin_of (Complete pin) = Some pin
  pin_of Failed = None

  -- what the login is judged by, where it is held
  abbrev pub key_of : Stage P K E → Option K
  key_of (Named pin key) = Some key
  key_of (Checking pin key evidence) = Some key
  key_of _ = None

  -- what the login shows, where it is held
  abbrev pub evidence_of : Stage P K E → Option E
  evidence_of (Checking pin key evidence) = Some evidence
  evidence_of _ = None

  -- what was pinned, of a loading login
  abbrev pub loading_pin : Stage P K E → Option P
  loading_pin (Loading pin) = Some pin
  loading_pin _ = None

  -- what a named login pinned, and what it is judged by
  abbrev pub named_parts : Stage P K E → Option (P × K)
  named_parts (Named pin key) = Some (pin, key)
  named_parts _ = None

  -- what was pinned, of a proved login
  abbrev pub proved_pin : Stage P K E → Option P
  proved_pin (Proved pin) = Some pin
  proved_pin _ = None

  -- what was pinned, of a complete login
  abbrev pub complete_pin : Stage P K E → Option P
  complete_pin (Complete pin) = Some pin
  complete_pin _ = None

  -- what a login pinned that is checked, what it is judged by, and what it shows
  abbrev pub checked_parts : Stage P K E → Option (P × K × E)
  checked_parts (Checking pin key evidence) = Some (pin, key, evidence)
  checked_parts _ = None

  -- the login at another stage
  abbrev pub at_stage : Login P K E → Stage P K E → Login P K E
  at_stage login stage = record { serial = login.serial; mech = login.mech; nonce = login.nonce; stage = stage }

-- pins and keys seen in part
module _ {P Q K J E : Type 0} (pin_view : P → Q) (key_view : K → J) where
  -- the stage with its pin and its key seen so
  abbrev pub stage_view : Stage P K E → Stage Q J E
  stage_view Fresh = Fresh
  stage_view (Loading pin) = Loading (pin_view pin)
  stage_view (Named pin key) = Named (pin_view pin) (key_view key)
  stage_view (Checking pin key evidence) = Checking (pin_view pin) (key_view key) evidence
  stage_view (Proved pin) = Proved (pin_view pin)
  stage_view (Authorized pin) = Authorized (pin_view pin)
  stage_view (Complete pin) = Complete (pin_view pin)
  stage_view Failed = Failed

  -- the login with its stage seen so
  abbrev pub login_view : Login P K E → Login Q J E
  login_view login = record { serial = login.serial; mech = login.mech; nonce = login.nonce; stage = stage_view login.stage }
