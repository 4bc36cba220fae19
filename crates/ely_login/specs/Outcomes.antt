-- Which outcomes are no refusal.
use Rattle.std.specs.Prelude.{Bool, true, false}
use Rattle.ely_login.specs.declared.outcome.Outcome.{Outcome}
use Rattle.ely_login.specs.declared.outcome.Outcome.TheVariants as outcomes

-- the outcome is no refusal
abbrev pub is_accepted : Outcome → Bool
is_accepted (outcomes.Changed version) = true
is_accepted (outcomes.Opened serial challenge) = true
is_accepted (outcomes.Pinned version) = true
is_accepted outcomes.Named = true
is_accepted (outcomes.Challenge text) = true
is_accepted outcomes.Fine = true
is_accepted (outcomes.Proved verifier) = true
is_accepted outcomes.Authorized = true
is_accepted outcomes.Yes = true
is_accepted outcomes.No = true
is_accepted (outcomes.Established version place roles) = true
is_accepted _ = false
