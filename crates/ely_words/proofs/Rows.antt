-- What the definition says of words that are written out.
use Rattle.std.proofs.Common.{◌≡◌, ◌∷◌, [], Some, None, refl, codes}
use Rattle.clap.proofs.OnLiterals.{clap_on_literals}
use Rattle.ely_words.specs.CommandLine.{given}
use Rattle.ely_words.specs.Asking.{asked_by}
use Rattle.ely_words.specs.declared.asked.Asked.TheVariants.{Replay, Check}

-- the word of a mode behind the program's name
replay_alone : asked_by (codes "elydom" ∷ codes "replay" ∷ []) ≡ Some Replay
unfolding clap_on_literals given
replay_alone = refl

-- `--` may stand before the mode
check_behind_dashes : asked_by (codes "elydom" ∷ codes "--" ∷ codes "check" ∷ []) ≡ Some Check
unfolding clap_on_literals given
check_behind_dashes = refl

-- the first word is the program's name, whatever it is
name_alone : asked_by (codes "replay" ∷ []) ≡ None
unfolding clap_on_literals given
name_alone = refl

-- `replay` has no workers
replay_with_workers : asked_by (codes "elydom" ∷ codes "replay" ∷ codes "--workers" ∷ codes "2" ∷ []) ≡ None
unfolding clap_on_literals given
replay_with_workers = refl
