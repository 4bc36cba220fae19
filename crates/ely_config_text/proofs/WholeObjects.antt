-- The word of an object without a fault, and its members.
use Rattle.std.proofs.Common.{◌≡◌, ◌∙◌, true, List, [], ℕ, Option, Some, None, refl, sym, ap, is_some}
use Rattle.std.specs.Option.{option_and_then, option_map_or, unwrap_or}
use Rattle.std.specs.List.{AllByRecursion}
use Rattle.serde_json.specs.Data.{Data, Members as Object}
use Rattle.serde_json.specs.Find.{as_object, as_str, get_member}
use Rattle.ely_config_tree.specs.declared.shape.Form.TheVariants as form
use Rattle.ely_config_tree.specs.declared.shape.Shape.{Shape}
use Rattle.ely_config_tree.specs.declared.step.FaultKind.{FaultKind}
use Rattle.ely_config_tree.specs.declared.step.FaultKind.TheVariants.{Missing}
use Rattle.ely_config_tree.specs.declared.step.Step.TheVariants.{Member}
use Rattle.ely_config_tree.specs.Faults.{here, under}
use Rattle.ely_config_tree.specs.Leaves.{leaf_fault, meets, text_fault}
use Rattle.ely_config_tree.specs.Shapes.{form_of}
use Rattle.ely_config_tree.specs.Table as table
use Rattle.ely_config_tree.specs.Tree.{at_member, discriminator_fault, members_fault, missing_fault, object_fault, word_of}
use Rattle.ely_config_tree.proofs.Faultless.{object_faultless, object_faultless_of, present}
use Rattle.ely_config_json.specs.Parts.{by_word, needed}
use Rattle.ely_config_text.proofs.WholeParts.{Reads, none_some}
use Rattle.ely_config_text.proofs.WholeNames.{text_read}

at_none : (name : List ℕ) (o : Option FaultKind) → at_member name o ≡ None → o ≡ None
at_none name None e = refl
at_none name (Some kind) e = absurd (none_some (under (Member name) (here kind)) e)

-- the members are there that must be
abbrev pub Present : List (List ℕ) → Object → Type 0
Present names ms = AllByRecursion (λ name. is_some (get_member name ms) ≡ true) names

-- an object is read where it is read whenever its members have no fault and none is missing
pub object_has : {T : Type 0} (s : Shape) (read : Object → Option T) → form_of s ≡ form.Object
    → ((ms : Object) → object_fault s ms ≡ None → is_some (read ms) ≡ true) → Reads s (λ d. option_and_then read (as_object d))
object_has s read form each d e =
    let made = object_faultless_of s d form e in
    rw made.1 (each made.0 made.2)

-- the same where no word says which members it has
pub plain_object_has : {T : Type 0} (s : Shape) (read : Object → Option T) → form_of s ≡ form.Object → table.discriminator_of s ≡ None
    → ((ms : Object) → members_fault s (word_of None ms) ms ≡ None → Present (table.required_in (table.members_of s (word_of None ms))) ms → is_some (read ms) ≡ true)
    → Reads s (λ d. option_and_then read (as_object d))
plain_object_has s read form none each = object_has s read form (λ ms e.
    let parts = object_faultless s ms e in
    let faultless : members_fault s (word_of None ms) ms ≡ None = ap (λ o. members_fault s (word_of o ms) ms) (sym none) ∙ parts.1 in
    let missing : missing_fault (table.required_in (table.members_of s (word_of None ms))) ms ≡ None =
    ap (λ o. missing_fault (table.required_in (table.members_of s (word_of o ms))) ms) (sym none) ∙ parts.2 in
    each ms faultless (present _ ms missing))

-- the word of an object
word_read : (name : List ℕ) (word : Shape) (ms : Object) → ((d : Data) → leaf_fault word d ≡ text_fault word d) → discriminator_fault (Some (name, word)) ms ≡ None
    → (text : List ℕ) × (needed as_str name ms ≡ Some text) × (word_of (Some (name, word)) ms ≡ text) × (meets word text ≡ true)
word_read name word ms leaf e = go (get_member name ms) refl (at_none name _ e)
  where
    go : (o : Option Data) → get_member name ms ≡ o → option_map_or (leaf_fault word) o (Some Missing) ≡ None
        → (text : List ℕ) × (needed as_str name ms ≡ Some text) × (word_of (Some (name, word)) ms ≡ text) × (meets word text ≡ true)
    go None q h = absurd (none_some Missing h)
    go (Some d) q h =
        let read = text_read word d (sym (leaf d) ∙ h) in
        (read.0, ap (λ o. option_and_then as_str o) q ∙ read.1, ap (λ o. unwrap_or (option_and_then as_str o) []) q ∙ ap (λ o. unwrap_or o []) read.1, read.2)

-- an object whose word says which members it has: its word, and its members under that word
pub worded_object : (s word : Shape) (name : List ℕ) → table.discriminator_of s ≡ Some (name, word) → ((d : Data) → leaf_fault word d ≡ text_fault word d)
    → (ms : Object) → object_fault s ms ≡ None
    → (text : List ℕ) × (needed as_str name ms ≡ Some text) × (meets word text ≡ true) × (members_fault s text ms ≡ None) × Present (table.required_in (table.members_of s text)) ms
worded_object s word name named leaf ms e =
    let parts = object_faultless s ms e in
    let first : discriminator_fault (Some (name, word)) ms ≡ None = ap (λ o. discriminator_fault o ms) (sym named) ∙ parts.0 in
    let read = word_read name word ms leaf first in
    let same : word_of (table.discriminator_of s) ms ≡ read.0 = ap (λ o. word_of o ms) named ∙ read.2 in
    let faultless : members_fault s read.0 ms ≡ None = ap (λ w. members_fault s w ms) (sym same) ∙ parts.1 in
    let missing : missing_fault (table.required_in (table.members_of s read.0)) ms ≡ None =
    ap (λ w. missing_fault (table.required_in (table.members_of s w)) ms) (sym same) ∙ parts.2 in
    (read.0, read.1, read.3, faultless, present _ ms missing)

-- an object is read by its word where it is read under each word
pub worded_has : {T : Type 0} (s word : Shape) (name : List ℕ) (read : Object → List ℕ → Option T) → form_of s ≡ form.Object
    → table.discriminator_of s ≡ Some (name, word) → ((d : Data) → leaf_fault word d ≡ text_fault word d)
    → ((ms : Object) (text : List ℕ) → meets word text ≡ true → members_fault s text ms ≡ None → Present (table.required_in (table.members_of s text)) ms → is_some (read ms text) ≡ true)
    → Reads s (λ d. option_and_then (by_word read name) (as_object d))
worded_has s word name read form named leaf each = object_has s (by_word read name) form (λ ms e.
    let said = worded_object s word name named leaf ms e in
    rw said.1 (each ms said.0 said.2 said.3 said.4))
