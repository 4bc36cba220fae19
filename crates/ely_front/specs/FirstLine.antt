-- The first line of a script: its configuration, and why another line is refused.
use Rattle.std.specs.Prelude.{ℕ, ◌≡◌, ◌⊎◌, ◌<◌, ◌≤◌, List, [], ◌∷◌, ◌++◌, length, codes, Result, Ok, Err, None}
use Rattle.std.specs.Io.KnownBytes.{Consumes, IsAtEnd}
use Rattle.ely_io.specs.declared.line.Line.{Line}
use Rattle.ely_io.specs.declared.line.Line.TheVariants.{End, Text, TooLong}
use Rattle.ely_io.specs.Streams.{Input}
use Rattle.ely_io.specs.Lines.{HasNoLf}
use Rattle.ely_io.specs.Reading.{Reader, most, IsGiven, Counts}
use Rattle.ely_config.specs.Configs as configs
use Rattle.ely_config_text.specs.declared.fault.TextFault.{TextFault}
use Rattle.ely_config_text.specs.Texts.{config_in, fault_text}
use Rattle.ely_domain.specs.Given.{Given}
use Rattle.ely_front.specs.declared.first_line.FirstFault.{FirstFault}
use Rattle.ely_front.specs.declared.first_line.FirstFault.TheVariants.{Config, Long}
use Rattle.ely_front.specs.declared.ending.Ending.{Ending}
use Rattle.ely_front.specs.declared.ending.Ending.TheVariants as endings

-- what a configuration gives: in every mode the journal takes 131,072 edits
abbrev pub given_by : configs.Config → Given
given_by config = record { config = config; limit = 131072 }

-- what a reading of a configuration gives
abbrev pub given_or : Result configs.Config TextFault → Result Given TextFault
given_or (Ok config) = Ok (given_by config)
given_or (Err fault) = Err fault

-- what the first line gives: the configuration that its JSON text is
unfoldable pub conf : List ℕ → Result Given TextFault
conf line = given_or (config_in line)

-- the most bytes of the first line
abbrev pub config_most : ℕ
config_most = 1048576

-- the first line is within its limit, and is this configuration
abbrev pub Configures : List ℕ → Given → Type 0
Configures first given = (length first ≤ config_most) × (conf first ≡ Ok given)

-- the line that is written where the first line is longer
abbrev pub config_limit_text : List ℕ
config_limit_text = codes "limit config 1048576\n"

-- the first line of the bytes that were given: up to an LF, or up to the end of an input that a reader may read
pub record IsFirstLine (gave : List ℕ) (input : Input) (first : List ℕ) : Type 0 where
  pub no_lf : HasNoLf first
  pub given : ((rest : List ℕ) × (gave ≡ first ++ 10 ∷ rest))
      ⊎ ((gave ≡ first) × IsAtEnd input.left × (length gave < most))

-- a line that is no configuration is refused as the first
abbrev pub or_refused : Result Given TextFault → Result Given FirstFault
or_refused (Ok given) = Ok given
or_refused (Err fault) = Err (Config fault)

-- what a first line gives; an input without a line has the empty one
abbrev pub first_of : Line → Result Given FirstFault
first_of End = or_refused (conf [])
first_of (Text line) = or_refused (conf line)
first_of TooLong = Err Long

-- the line that is written where the first line is refused
abbrev pub first_text : FirstFault → List ℕ
first_text (Config fault) = fault_text fault
first_text Long = config_limit_text

-- how the mode ends then
abbrev pub first_ending : FirstFault → Ending
first_ending (Config fault) = endings.Config
first_ending Long = endings.ConfigLimit

-- A reader that began with the source gave the configuration.
pub record IsBegun (before after : Input) (reader : Reader) (given : Given) : Type 0 where
  pub gave : List ℕ
  pub first : List ℕ
  pub took : Consumes before.left after.left gave
  pub count : reader.taken ≡ length gave
  pub no_lf : HasNoLf first
  pub is_given : IsGiven gave first reader after.left
  pub configures : Configures first given
  pub mark : reader.mark ≡ None
  pub counts : Counts reader
