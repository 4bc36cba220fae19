-- What a domain is seen as.
use Rattle.ely_domain.specs.declared.event.Event.{Event}
use Rattle.ely_domain.specs.declared.event.Event.TheVariants as events
use Rattle.ely_domain.specs.Given.{Given}
use Rattle.ely_domain.specs.Keeping.{Kept, first_kept}
use Rattle.ely_domain.specs.Machine.{Machine, first_machine}

-- what the domain was made with, the machine that it stands for, and what it keeps beside it
pub record Seen : Type 0 where
  pub given : Given
  pub machine : Machine
  pub kept : Kept

-- a domain before its first step
abbrev pub first_seen : Given → Seen
first_seen given = record { given = given; machine = first_machine given; kept = first_kept given }

-- a step that takes no memory
abbrev pub TakesNoMemory : Event → Type 0
TakesNoMemory (events.Succeed c) = Unit {0}
TakesNoMemory (events.Fail c) = Unit {0}
TakesNoMemory (events.Close c) = Unit {0}
TakesNoMemory _ = ⊥

-- a step of a login that was opened
abbrev pub IsLoginStep : Event → Type 0
IsLoginStep (events.Bad bad) = ⊥
IsLoginStep (events.Change edit) = ⊥
IsLoginStep (events.Begin c mech brought) = ⊥
IsLoginStep (events.Close c) = ⊥
IsLoginStep _ = Unit {0}

-- a step of a login that was opened, and that is no naming
abbrev pub IsQuietStep : Event → Type 0
IsQuietStep (events.Name1 c claim) = ⊥
IsQuietStep (events.Name2 c serial brought) = ⊥
IsQuietStep event = IsLoginStep event
