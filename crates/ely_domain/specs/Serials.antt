-- Which serial an accepted step gives to those who make it: that of its login.
use Rattle.std.specs.Prelude.{ℕ, Option, Some, None}
use Rattle.std.specs.Option.{option_map}
use Rattle.ely_login.specs.declared.outcome.Outcome.{Outcome}
use Rattle.ely_login.specs.declared.outcome.Outcome.TheVariants as outcomes
use Rattle.ely_context.specs.Logins.{login_of}
use Rattle.ely_domain.specs.declared.event.Event.{Event}
use Rattle.ely_domain.specs.declared.event.Event.TheVariants as events
use Rattle.ely_domain.specs.Logins.{Live}

-- the serial of the login with this id
abbrev pub serial_at : Live → ℕ → Option ℕ
serial_at live c = option_map (λ login. login.serial) (login_of live.logins c)

-- the login whose serial an accepted step of it gives to its line
abbrev pub carrier : Event → Option ℕ
carrier (events.Name1 c claim) = Some c
carrier (events.Check1 c serial evidence) = Some c
carrier _ = None

-- the serial that an accepted open, name1 or check1 gives
abbrev pub serial_given : Option ℕ → Outcome → Live → Option ℕ
serial_given of_login (outcomes.Opened serial challenge) live = Some serial
serial_given (Some c) (outcomes.Pinned version) live = serial_at live c
serial_given (Some c) outcomes.Fine live = serial_at live c
serial_given _ _ live = None
