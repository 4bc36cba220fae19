-- How the place of a fault is written.
use Rattle.std.specs.Prelude.{ℕ, List, [], ◌∷◌, ◌++◌}
use Rattle.std.specs.Fmt.{decimal}
use Rattle.ely_base.specs.Words.{word_text}
use Rattle.ely_config_tree.specs.declared.step.Step.{Step}
use Rattle.ely_config_tree.specs.declared.step.Step.TheVariants.{Member, Index}

-- a member as a coded word, an index in decimal digits
abbrev pub step_text : Step → List ℕ
step_text (Member name) = word_text name
step_text (Index index) = decimal index

-- each step with a slash (0x2F) before it, the outermost first
abbrev pub steps_text : List Step → List ℕ
steps_text [] = []
steps_text (step ∷ outer) = steps_text outer ++ 47 ∷ step_text step

-- the path of these steps; that of the root is a slash
abbrev pub path_text : List Step → List ℕ
path_text [] = 47 ∷ []
path_text (step ∷ outer) = steps_text (step ∷ outer)
