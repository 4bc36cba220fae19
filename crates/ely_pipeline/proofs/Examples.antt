-- Examples of cuts and pairs, by computing.
use Rattle.std.proofs.Common.{◌≡◌, [], ◌∷◌, Some, None, refl}
use Rattle.std.specs.Prelude.{codes}
use Rattle.ely_pipeline.specs.Cuts.{part_before, part_after, without_prefix, without_suffix}
use Rattle.ely_pipeline.specs.Rules.{target_of}

-- of two places the first counts
before_first : part_before (codes "@") (codes "a@b@c") ≡ Some (codes "a")
before_first = refl

after_first : part_after (codes "@") (codes "a@b@c") ≡ Some (codes "b@c")
after_first = refl

after_none : part_after (codes "::") (codes "a:b") ≡ None
after_none = refl

stripped : without_prefix (codes "corp-") (codes "corp-user") ≡ Some (codes "user")
stripped = refl

not_stripped : without_suffix (codes "@main") (codes "@main.") ≡ None
not_stripped = refl

-- of two pairs the first counts
first_pair : target_of (codes "a") ((codes "a", codes "b") ∷ (codes "a", codes "c") ∷ []) ≡ Some (codes "b")
first_pair = refl
