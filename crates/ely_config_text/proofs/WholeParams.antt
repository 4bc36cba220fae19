-- What derives keys is within its bounds where it has no fault.
use Rattle.std.proofs.Common.{◌≡◌, ◌∙◌, true, List, [], ℕ, Option, Some, None, Result, Ok, Err, refl, sym, ap, is_some, option_map, codes, nat_le, length, arith}
use Rattle.std.specs.Option.{option_and_then}
use Rattle.std.specs.Result.{result_ok}
use Rattle.serde_json.specs.Data.{Data, Members as Object}
use Rattle.ely_base.specs.Texts.{base64_of}
use Rattle.ely_base.specs.declared.texts.TextFault.{TextFault}
use Rattle.ely_row.specs.Salts.{is_salt_or_none, is_turns}
use Rattle.ely_config_tree.specs.declared.shape.Shape.TheVariants.{Root, Scram, Salt, Number, Text}
use Rattle.ely_config_tree.specs.Leaves as leaves
use Rattle.ely_config_tree.specs.Tree.{fault, members_fault}
use Rattle.ely_config_tree.proofs.Faultless.{fault_by_form, object_faultless, object_faultless_of}
use Rattle.ely_config_json.specs.Names.{number_of, text_of}
use Rattle.ely_config_json.specs.Params.{base64_in, params_in, scram_of}
use Rattle.ely_config_json.specs.Parts.{both, given, optional}
use Rattle.ely_config_text.proofs.WholeParts.{and_both, false_true, member_holds}
use Rattle.ely_config_text.proofs.WholeNames.{here_none, number_read, text_bounds, text_read}

salt_bytes : (read : Result (List ℕ) TextFault) → leaves.is_salt read ≡ true
    → (salt : Option (List ℕ)) × (option_map Some (result_ok read) ≡ Some salt) × (is_salt_or_none salt ≡ true)
salt_bytes (Ok bytes) e = (Some bytes, refl, e)
salt_bytes (Err f) e = absurd (false_true e)

salt_read : (d : Data) → fault Salt d ≡ None → (salt : Option (List ℕ)) × (option_map Some (base64_in d) ≡ Some salt) × (is_salt_or_none salt ≡ true)
salt_read d e =
    let read = text_read Salt d (here_none (leaves.text_fault Salt d) (sym (fault_by_form Salt d) ∙ e)) in
    let made = salt_bytes (base64_of read.0) read.2 in
    (made.0, ap (λ o. option_map Some (option_and_then (λ text. result_ok (base64_of text)) o)) read.1 ∙ made.1, made.2)

both_some : {A B : Type 0} (o : Option A) (p : Option B) (a : A) (b : B) → o ≡ Some a → p ≡ Some b → both o p ≡ Some (a, b)
both_some o p a b e h = rw (e, h) refl

-- the turns and the salt
scram_read : (d : Data) → fault Scram d ≡ None → (made : ℕ × Option (List ℕ)) × (scram_of d ≡ Some made) × (is_turns made.0 ≡ true) × (is_salt_or_none made.1 ≡ true)
scram_read d e =
    let object = object_faultless_of Scram d refl e in
    let ms : Object = object.0 in
    let faultless : members_fault Scram [] ms ≡ None = (object_faultless Scram ms object.2).1 in
    let turns = member_holds Scram [] ms faultless (λ o. (n : ℕ) × (o ≡ Some n) × (is_turns n ≡ true)) number_of (Some 4096) (codes "turns") (Number 1 1000000) refl
    (number_read 1 1000000 (omega arith)) (4096, refl, refl) in
    let salt = member_holds Scram [] ms faultless (λ o. (s : Option (List ℕ)) × (o ≡ Some s) × (is_salt_or_none s ≡ true)) (λ value. option_map Some (base64_in value)) (Some None)
    (codes "salt") Salt refl salt_read (None, refl, refl) in
    ((turns.0, salt.0), ap scram_of object.1 ∙ both_some (given number_of 4096 (codes "turns") ms) (optional base64_in (codes "salt") ms) turns.0 salt.0 turns.1 salt.1, turns.2, salt.2)

seed_read : (d : Data) → fault (Text 0 255) d ≡ None → (seed : List ℕ) × (text_of d ≡ Some seed) × (nat_le (length seed) 255 ≡ true)
seed_read d e =
    let read = text_bounds 0 255 d e in
    (read.0, read.1, (and_both (nat_le 0 (length read.0)) (nat_le (length read.0) 255) read.2).1)

-- what derives keys is read of members without a fault
pub params_has : (ms : Object) → members_fault Root [] ms ≡ None → is_some (params_in ms) ≡ true
params_has ms faultless =
    let scram = member_holds Root [] ms faultless (λ o. (made : ℕ × Option (List ℕ)) × (o ≡ Some made) × (is_turns made.0 ≡ true) × (is_salt_or_none made.1 ≡ true))
    scram_of (Some (4096, None)) (codes "scram") Scram refl scram_read ((4096, None), refl, refl, refl) in
    let seed = member_holds Root [] ms faultless (λ o. (s : List ℕ) × (o ≡ Some s) × (nat_le (length s) 255 ≡ true)) text_of (Some []) (codes "seed") (Text 0 255) refl
    seed_read ([], refl, refl) in
    rw (both_some (given scram_of (4096, None) (codes "scram") ms) (given text_of [] (codes "seed") ms) scram.0 seed.0 scram.1 seed.1, scram.2, scram.3, seed.2) refl
