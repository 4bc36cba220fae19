-- How many HMAC computations the steps of a history take.
use Rattle.std.specs.Prelude.{ℕ, ◌+◌, List, ◌∷◌}
use Rattle.ely_login.specs.declared.word.CacheWord.{CacheWord}
use Rattle.ely_domain.specs.Costs.{step_cost}
use Rattle.ely_domain.specs.Given.{Given}
use Rattle.ely_domain.specs.Keeping.{Kept, kept_after}
use Rattle.ely_domain.specs.Machine.{Machine, step}
use Rattle.ely_history.specs.Lines.{Taken}

-- what all steps of a history take, behind which these words were shown, from a machine on
abbrev pub cost_from : Given → Machine → Kept → List Taken → List CacheWord → ℕ
cost_from given m kept (t ∷ ts) (shown ∷ words) =
    step_cost given m kept t.event
    + cost_from given (step given m t.event).1 (kept_after given m kept t.event t.outcome shown) ts words
cost_from given m kept _ _ = 0
