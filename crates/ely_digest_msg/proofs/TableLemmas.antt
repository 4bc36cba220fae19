-- The values by offset.
use Rattle.std.proofs.Common.{◌≡◌, ℕ, List, Option, Some, Bor, ap, ap₂, ◌∙◌}
use Rattle.std.proofs.lemmas.List.{map-set}
use Rattle.std.specs.Prelude.{slice_set}
use Rattle.std.specs.Option.{option_map}
use Rattle.ely_digest_msg.specs.Parts.{unescaped}
use Rattle.ely_digest_msg.specs.Fields.{Values, index_of, with_value, values_of}
use Rattle.ely_digest_msg.specs.declared.fault.DigestField.{DigestField}

pub with_is : (raws : List (Option (Bor (List ℕ)))) (raw : Bor (List ℕ)) (i : ℕ) (field : DigestField) (value : List ℕ) (values : Values) → i ≡ index_of field → unescaped raw.now ≡ value → values_of raws ≡ values → values_of (slice_set raws i (Some raw)) ≡ with_value field value values
with_is raws raw i field value values e h k =
    map-set (option_map (λ (r : Bor (List ℕ)). unescaped r.now)) raws i (Some raw)
    ∙ ap (λ (j : ℕ). slice_set (values_of raws) j (Some (unescaped raw.now))) e
    ∙ ap₂ (λ (v : List ℕ) (vs : Values). slice_set vs (index_of field) (Some v)) h k
