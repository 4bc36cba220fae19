-- The configuration of a line, or the first fault of its text, and how that is written.
use Rattle.std.specs.Prelude.{ℕ, if◌then◌else◌, List, ◌++◌, codes, Option, Some, None, Result, Ok, Err}
use Rattle.std.specs.Option.{option_map_or}
use Rattle.std.specs.Str.{is_utf8}
use Rattle.serde_json.specs.Data.{Data}
use Rattle.serde_json.specs.Read.{read}
use Rattle.ely_script.specs.FaultTexts.{prop_text}
use Rattle.ely_config.specs.declared.members.Members.{Members}
use Rattle.ely_config.specs.declared.fault.ConfigFault.{ConfigFault}
use Rattle.ely_config.specs.Configs.{Config, config_of}
use Rattle.ely_config_tree.specs.Faults.{Fault}
use Rattle.ely_config_tree.specs.Paths.{path_text}
use Rattle.ely_config_tree.specs.Tree.{tree_fault}
use Rattle.ely_config_json.specs.Members.{members_of}
use Rattle.ely_config_text.specs.declared.fault.Wrong.{Wrong}
use Rattle.ely_config_text.specs.declared.fault.Wrong.TheVariants as wrongs
use Rattle.ely_config_text.specs.declared.fault.TextFault.{TextFault}
use Rattle.ely_config_text.specs.declared.fault.TextFault.TheVariants.{NotJson, At}
use Rattle.ely_config_text.specs.Places.{wrong_of, is_constant, fault_path, wrong_between}

-- the JSON value whose text the line is
abbrev pub value_in : List ℕ → Option Data
value_in line = if is_utf8 line then read line else None

-- a fault between members, with its path
abbrev pub placed : Members → Result Config ConfigFault → Result Config TextFault
placed members (Ok config) = Ok config
placed members (Err fault) = Err (At (fault_path (is_constant members.pipeline.mapper) fault) (wrong_between fault))

-- the configuration of these members, or the first fault between them; a value without a fault in its tree has members
abbrev pub built : Option Members → Result Config TextFault
built None = Err NotJson
built (Some members) = placed members (config_of members)

-- the fault of the tree, or else the next
abbrev pub tree_or : Option Fault → Result Config TextFault → Result Config TextFault
tree_or None next = next
tree_or (Some fault) next = Err (At (path_text fault.steps) (wrong_of fault.kind))

-- the configuration that the value is, or its first fault: the tree comes before what members say of each other
abbrev pub judged : Data → Result Config TextFault
judged value = tree_or (tree_fault value) (built (members_of value))

-- the configuration that the line is, or its first fault
abbrev pub config_in : List ℕ → Result Config TextFault
config_in line = option_map_or judged (value_in line) (Err NotJson)

-- the word of what is wrong
abbrev pub wrong_text : Wrong → List ℕ
wrong_text wrongs.Missing = codes "missing"
wrong_text wrongs.Kind = codes "kind"
wrong_text wrongs.Range = codes "range"
wrong_text wrongs.Unknown = codes "unknown"
wrong_text wrongs.Twice = codes "twice"
wrong_text wrongs.Nested = codes "nested"
wrong_text (wrongs.Text fault) = prop_text fault

-- the line that is written for a fault
abbrev pub fault_text : TextFault → List ℕ
fault_text NotJson = codes "config / not-json\n"
fault_text (At path wrong) = codes "config " ++ (path ++ (codes " " ++ (wrong_text wrong ++ codes "\n")))
