use Rattle.std.proofs.Common.{◌≡◌, ◌<◌, ℕ, length, get_or}
use Rattle.ely_base.specs.Texts.{is_base64}
use Rattle.ely_base.proofs.texts.is_base64.Given as goal

abbrev pub invariant-loop-rest : goal.invariant-loop-rest
invariant-loop-rest l = (is_base64 l.rest ≡ is_base64 l.text) × ((i : ℕ) → get_or l.rest i 0 < 256)

abbrev pub decreases-loop-rest : goal.decreases-loop-rest
decreases-loop-rest l = length l.rest
