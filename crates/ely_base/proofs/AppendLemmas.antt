-- Texts that grew, step by step.
use Rattle.std.proofs.Common.{◌≡◌, ℕ, List, [], ◌++◌, sym, ap, ◌∙◌, append_assoc}
use Rattle.std.proofs.lemmas.List.{append-nil}
use Rattle.ely_base.specs.Appended.{Extends}

-- nothing was written
pub extends_same : {old new : List ℕ} → new ≡ old → Extends old new
extends_same {old = old} h = record { more = []; is = h ∙ sym (append-nil old) }

-- this much was written
pub extends_by : {old new : List ℕ} (more : List ℕ) → new ≡ old ++ more → Extends old new
extends_by more h = record { more = more; is = h }

-- some was written, and then some more
pub extends_behind : {old mid new : List ℕ} (a : List ℕ) → mid ≡ old ++ a → Extends mid new → Extends old new
extends_behind {old = old} a h k = record { more = a ++ k.more; is = k.is ∙ (ap (λ (xs : List ℕ). xs ++ k.more) h ∙ append_assoc old a k.more) }

-- what was written by and by
pub extends_more : {old mid new : List ℕ} (a : List ℕ) → Extends old mid → new ≡ mid ++ a → Extends old new
extends_more {old = old} a h k = record { more = h.more ++ a; is = k ∙ (ap (λ (xs : List ℕ). xs ++ a) h.is ∙ append_assoc old h.more a) }
