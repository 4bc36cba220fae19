-- Names, texts, numbers and flags without a fault are read.
use Rattle.std.proofs.Common.{◌≡◌, ◌∙◌, ◌^◌, ℕ, Bool, true, false, List, Option, Some, None, refl, sym, ap, is_some, not, option_map, nat_lt, length, if◌then◌else◌, ◌<◌, arith, lt-ltb}
use Rattle.std.specs.Option.{option_and_then, option_map_or}
use Rattle.std.specs.Result.{result_ok}
use Rattle.serde_json.specs.Data.{Data, Num, unsigned, negative, float}
use Rattle.serde_json.specs.Find.{as_bool, as_number, as_str, as_u64}
use Rattle.ely_base.specs.Names as names
use Rattle.ely_base.specs.declared.name.NameFault.{NameFault}
use Rattle.ely_config_tree.specs.declared.shape.Shape.{Shape}
use Rattle.ely_config_tree.specs.declared.shape.Shape.TheVariants.{Pair, Pairs, RolePair, RolePairs, Names, Grants, Name, AnyText, Text, DigestRealm, Number, Flag}
use Rattle.ely_config_tree.specs.declared.step.FaultKind.{FaultKind}
use Rattle.ely_config_tree.specs.declared.step.FaultKind.TheVariants.{Kind, Range}
use Rattle.ely_config_tree.specs.Faults.{here}
use Rattle.ely_config_tree.specs.Leaves.{flag_fault, is_between, is_name, meets, number_fault, range_fault, text_fault, whole_fault}
use Rattle.ely_config_tree.specs.Tree.{fault}
use Rattle.ely_config_tree.proofs.Faultless.{fault_by_form}
use Rattle.ely_config_json.specs.Names.{flag_of, name_of, names_of, number_of, pairs_of, text_of}
use Rattle.ely_config_json.specs.Parts.{list_of}
use Rattle.ely_config_json.specs.RoleMappers.{role_pairs_of}
use Rattle.ely_config_text.proofs.WholeParts.{Reads, bounds, false_true, list_has, none_some, pair_has}

pub here_none : (o : Option FaultKind) → option_map here o ≡ None → o ≡ None
here_none None e = refl
here_none (Some kind) e = absurd (none_some (here kind) e)

pub in_range : (met : Bool) → range_fault met ≡ None → met ≡ true
in_range true e = refl
in_range false e = absurd (none_some Range e)

-- ---- texts

-- a text that the shape asks for
pub text_read : (s : Shape) (d : Data) → text_fault s d ≡ None → (text : List ℕ) × (as_str d ≡ Some text) × (meets s text ≡ true)
text_read s d e = go (as_str d) refl e
  where
    go : (o : Option (List ℕ)) → as_str d ≡ o → option_map_or (λ text. range_fault (meets s text)) o (Some Kind) ≡ None → (text : List ℕ) × (as_str d ≡ Some text) × (meets s text ≡ true)
    go None q h = absurd (none_some Kind h)
    go (Some text) q h = (text, q, in_range (meets s text) h)

-- the value itself has no fault where it is a leaf
pub name_leaf : (d : Data) → fault Name d ≡ None → text_fault Name d ≡ None
name_leaf d e = here_none (text_fault Name d) (sym (fault_by_form Name d) ∙ e)

name_is : (text : List ℕ) → is_name text ≡ true → is_some (result_ok (names.name_of text)) ≡ true
name_is text e = go (names.name_fault text) e
  where
    go : (o : Option NameFault) → not (is_some o) ≡ true → is_some (result_ok (names.name_or o text)) ≡ true
    go None h = refl
    go (Some f) h = absurd (false_true h)

pub name_has : Reads Name name_of
name_has d e =
    let read = text_read Name d (name_leaf d e) in
    rw read.1 (name_is read.0 read.2)

pub any_text_has : Reads AnyText text_of
any_text_has d e =
    let read = text_read AnyText d (here_none (text_fault AnyText d) (sym (fault_by_form AnyText d) ∙ e)) in
    rw read.1 refl

pub digest_realm_has : Reads DigestRealm text_of
digest_realm_has d e =
    let read = text_read DigestRealm d (here_none (text_fault DigestRealm d) (sym (fault_by_form DigestRealm d) ∙ e)) in
    rw read.1 refl

-- a text whose length is between bounds
pub text_bounds : (least most : ℕ) (d : Data) → fault (Text least most) d ≡ None → (text : List ℕ) × (as_str d ≡ Some text) × (is_between least most (length text) ≡ true)
text_bounds least most d e = text_read (Text least most) d (here_none (text_fault (Text least most) d) (sym (fault_by_form (Text least most) d) ∙ e))

pub text_has : (least most : ℕ) → Reads (Text least most) text_of
text_has least most d e =
    let read = text_bounds least most d e in
    rw read.1 refl

-- ---- flags

pub flag_has : Reads Flag flag_of
flag_has d e = go (as_bool d) (here_none (flag_fault d) (sym (fault_by_form Flag d) ∙ e))
  where
    go : (o : Option Bool) → option_map_or (λ b. None) o (Some Kind) ≡ None → is_some o ≡ true
    go None h = absurd (none_some Kind h)
    go (Some b) h = refl

-- ---- numbers

-- a whole number between bounds
pub whole_bounds : (least most : ℕ) (d : Data) → fault (Number least most) d ≡ None → (n : ℕ) × (option_and_then as_u64 (as_number d) ≡ Some n) × (is_between least most n ≡ true)
whole_bounds least most d e = go (as_number d) refl (here_none (number_fault least most d) (sym (fault_by_form (Number least most) d) ∙ e))
  where
    go : (o : Option Num) → as_number d ≡ o → option_map_or (whole_fault least most) o (Some Kind) ≡ None
        → (n : ℕ) × (option_and_then as_u64 (as_number d) ≡ Some n) × (is_between least most n ≡ true)
    go None q h = absurd (none_some Kind h)
    go (Some (unsigned n)) q h = (n, rw q refl, in_range (is_between least most n) h)
    go (Some (negative z)) q h = absurd (none_some Range h)
    go (Some (float x)) q h = absurd (none_some Kind h)

-- the number that is read has the same bounds
pub number_read : (least most : ℕ) → most < 2 ^ 32 → (d : Data) → fault (Number least most) d ≡ None → (n : ℕ) × (number_of d ≡ Some n) × (is_between least most n ≡ true)
number_read least most small d e =
    let read = whole_bounds least most d e in
    let below : read.0 < 2 ^ 32 = omega (arith, small, (bounds least most read.0 read.2).1) in
    (read.0, ap (λ o. option_and_then (λ n. if nat_lt n (2 ^ 32) then Some n else None) o) read.1 ∙ ap (λ b. if b then Some read.0 else None) (lt-ltb read.0 (2 ^ 32) below), read.2)

pub number_has : (least most : ℕ) → most < 2 ^ 32 → Reads (Number least most) number_of
number_has least most small d e =
    let read = number_read least most small d e in
    ap (λ (o : Option ℕ). is_some o) read.1

-- ---- names and pairs

pub names_has : (least most : ℕ) → Reads (Names least most) names_of
names_has least most = list_has (Names least most) Name least most name_of refl name_has

pub pairs_has : Reads Pairs pairs_of
pairs_has = list_has Pairs Pair 1 64 _ refl (pair_has Name Name name_of name_of name_has name_has Pair refl)

pub role_pairs_has : Reads RolePairs role_pairs_of
role_pairs_has = list_has RolePairs RolePair 0 64 _ refl (pair_has Name (Names 0 64) name_of names_of name_has (names_has 0 64) RolePair refl)

pub grants_has : Reads Grants (list_of text_of)
grants_has = list_has Grants (Text 1 255) 0 64 text_of refl (text_has 1 255)
