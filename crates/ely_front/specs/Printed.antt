-- What a mode prints of the lines of an input, the first of which is its configuration.
use Rattle.std.specs.Prelude.{ℕ, ◌≡◌, List, [], ◌∷◌}
use Rattle.ely_domain.specs.Given.{Given}
use Rattle.ely_front.specs.FirstLine.{Configures}
use Rattle.ely_front.specs.Lines.{script_of}
use Rattle.ely_front.specs.Modes.{Telling, TellingAll}

-- what is printed of the lines whose LF was given; without a line it is nothing
abbrev pub IsPrinted : Telling → List (List ℕ) → List ℕ → Type 0
IsPrinted told [] said = said ≡ []
IsPrinted told (first ∷ lines) said = (given : Given) × Configures first given × told given (script_of lines) said

-- what is printed of all the lines of an input; without a line it is nothing
abbrev pub IsPrintedWhole : TellingAll → List (List ℕ) → List ℕ → Type 0
IsPrintedWhole at_end [] said = said ≡ []
IsPrintedWhole at_end (first ∷ lines) said =
    (given : Given) × Configures first given × (cost : ℕ) × at_end given (script_of lines) said cost
