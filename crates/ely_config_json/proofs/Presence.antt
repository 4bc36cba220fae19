-- What is there where something that is made of it is there.
use Rattle.std.proofs.Common.{◌≡◌, Option, Some, None, refl, ap, option_map}
use Rattle.std.specs.Option.{option_and_then}
use Rattle.ely_config_json.specs.Parts.{both}

-- something isn't nothing
pub some_is_there : {X : Type 0} (x : X) → None ≡ Some x → ⊥
some_is_there x is = cc

pub both-first : {A B : Type 0} (x : Option A) (y : Option B) (made : A × B) → both x y ≡ Some made → x ≡ Some made.0
both-first None y made is = absurd (some_is_there made is)
both-first (Some a) None made is = absurd (some_is_there made is)
both-first (Some a) (Some b) made is = ap (λ o. option_map (λ p. p.0) o) is

pub both-second : {A B : Type 0} (x : Option A) (y : Option B) (made : A × B) → both x y ≡ Some made → y ≡ Some made.1
both-second None y made is = absurd (some_is_there made is)
both-second (Some a) None made is = absurd (some_is_there made is)
both-second (Some a) (Some b) made is = ap (λ o. option_map (λ p. p.1) o) is

pub map-source : {A B : Type 0} (f : A → B) (x : Option A) (made : B) → option_map f x ≡ Some made → (a : A) × (x ≡ Some a) × (f a ≡ made)
map-source f None made is = absurd (some_is_there made is)
map-source f (Some a) made is = (a, refl, cc)

pub then-source : {A B : Type 0} (f : A → Option B) (x : Option A) (made : B) → option_and_then f x ≡ Some made → (a : A) × (x ≡ Some a) × (f a ≡ Some made)
then-source f None made is = absurd (some_is_there made is)
then-source f (Some a) made is = (a, refl, is)
