-- What is known of a value without a fault, for those that read it.
use Rattle.std.proofs.Common.{◌≡◌, ◌∙◌, ℕ, ◌+◌, Bool, true, false, List, [], ◌∷◌, Option, Some, None, refl, sym, if◌then◌else◌, option_map, option_and_then, is_some, not}
use Rattle.std.specs.Option.{option_map_or}
use Rattle.std.specs.List.{AllByRecursion, find}
use Rattle.std.specs.declared.cmp.Ordering.{Ordering}
use Rattle.std.specs.declared.cmp.Ordering.TheVariants.{Less, Equal, Greater}
use Rattle.std.specs.Ordering.{match_ordering, nat_cmp}
use Rattle.std.specs.Cmp.Lexicographic.{slice_cmp}
use Rattle.std.proofs.lemmas.Map.Lookups.{exact_bytes}
use Rattle.serde_json.specs.Data.{Data, null, boolean, number, string, array, object, Items, item, Members, no_members, member}
use Rattle.serde_json.specs.Events.{items_len}
use Rattle.serde_json.specs.Find.{as_array, as_object, get_member}
use Rattle.ely_config_tree.specs.declared.shape.Form.{Form}
use Rattle.ely_config_tree.specs.declared.shape.Form.TheVariants.{List as list, Object}
use Rattle.ely_config_tree.specs.declared.shape.ListForm.{ListForm}
use Rattle.ely_config_tree.specs.declared.shape.Shape.{Shape}
use Rattle.ely_config_tree.specs.declared.step.Step.TheVariants.{Member, Index}
use Rattle.ely_config_tree.specs.declared.step.FaultKind.TheVariants.{Kind, Missing, Range, Unknown}
use Rattle.ely_config_tree.specs.Faults.{Fault, here, or_else, under}
use Rattle.ely_config_tree.specs.Leaves.{is_between}
use Rattle.ely_config_tree.specs.Shapes.{form_of}
use Rattle.ely_config_tree.specs.Table.{members_of, required_in, discriminator_of}
use Rattle.ely_config_tree.specs.Tree.{at_member, by_form, fault, items_fault, leaf_here, list_fault, member_fault, member_shape, members_fault, missing_fault, object_fault, other_type, discriminator_fault, word_of}

-- the definition, read by the form: a value without parts, an array or an object, and else another JSON type
pub fault_by_form : (s : Shape) (d : Data) → fault s d ≡ by_form (form_of s) (leaf_here s d)
    (λ l. option_map_or (list_fault l) (as_array d) other_type) (option_map_or (object_fault s) (as_object d) other_type)
fault_by_form s null = refl
fault_by_form s (boolean b) = refl
fault_by_form s (number n) = refl
fault_by_form s (string t) = refl
fault_by_form s (array ds) = refl
fault_by_form s (object ms) = refl

-- the same at a form that is known
fault_at : (s : Shape) (d : Data) (form : Form) → form_of s ≡ form → fault s d ≡ by_form form (leaf_here s d)
    (λ l. option_map_or (list_fault l) (as_array d) other_type) (option_map_or (object_fault s) (as_object d) other_type)
fault_at s d form f = rw (← f) (fault_by_form s d)

none_some : {X : Type 0} (x : X) → Some x ≡ None → ⊥
none_some x e = cc

-- neither of two is a fault
pub neither : (a b : Option Fault) → or_else a b ≡ None → (a ≡ None) × (b ≡ None)
neither None b e = (refl, e)
neither (Some f) b e = absurd (none_some f e)

mapped_none : {X Y : Type 0} (g : X → Y) (o : Option X) → option_map g o ≡ None → o ≡ None
mapped_none g None e = refl
mapped_none g (Some x) e = absurd (none_some (g x) e)

-- a member of members without a fault has none
pub member_faultless : (s : Shape) (word name : List ℕ) (d : Data) (ms : Members) → members_fault s word ms ≡ None → get_member name ms ≡ Some d → member_fault s word name d ≡ None
member_faultless s word name d no_members e g = absurd (none_some d (sym g))
member_faultless s word name d (member k x ms) e g = go (λ h. member_faultless s word name d ms both.1 h) (slice_cmp nat_cmp name k) refl g
  where
    both : (option_map (under (Member k)) (member_fault s word k x) ≡ None) × (members_fault s word ms ≡ None)
    both = neither _ _ e

    go : (get_member name ms ≡ Some d → member_fault s word name d ≡ None) → (o : Ordering) → slice_cmp nat_cmp name k ≡ o
        → match_ordering o (get_member name ms) (Some x) (get_member name ms) ≡ Some d → member_fault s word name d ≡ None
    go later Less q h = later h
    go later Greater q h = later h
    go later Equal q h =
        let same : name ≡ k = exact_bytes name k q in
        let value : x ≡ d = cc in
        rw (same, ← value) (mapped_none (under (Member k)) (member_fault s word k x) both.0)

-- where none is missing, each is there
pub present : (names : List (List ℕ)) (ms : Members) → missing_fault names ms ≡ None → AllByRecursion (λ name. is_some (get_member name ms) ≡ true) names
present [] ms e = tt
present (name ∷ names) ms e = go (λ h. present names ms h) (is_some (get_member name ms)) refl e
  where
    go : (missing_fault names ms ≡ None → AllByRecursion (λ n. is_some (get_member n ms) ≡ true) names) → (b : Bool) → is_some (get_member name ms) ≡ b
        → option_and_then (λ n. at_member n (Some Missing)) (if not b then Some name else find (λ n. not (is_some (get_member n ms))) names) ≡ None
        → AllByRecursion (λ n. is_some (get_member n ms) ≡ true) (name ∷ names)
    go later true q h = (q, later h)
    go later false q h = absurd (none_some (under (Member name) (here Missing)) h)

-- an object without a fault: neither its discriminator nor its members have one, and none is missing
pub object_faultless : (s : Shape) (ms : Members) → object_fault s ms ≡ None
    → (discriminator_fault (discriminator_of s) ms ≡ None) × (members_fault s (word_of (discriminator_of s) ms) ms ≡ None) × (missing_fault (required_in (members_of s (word_of (discriminator_of s) ms))) ms ≡ None)
object_faultless s ms e =
    let first = neither _ _ e in
    let next = neither _ _ first.1 in
    (first.0, next.0, next.1)

-- an array without a fault: its length is allowed, and its items have none
pub list_faultless : (l : ListForm) (ds : Items) → list_fault l ds ≡ None → (is_between l.least l.most (items_len ds) ≡ true) × (items_fault l.first l.later 0 ds ≡ None)
list_faultless l ds e = go (is_between l.least l.most (items_len ds)) refl e
  where
    go : (b : Bool) → is_between l.least l.most (items_len ds) ≡ b → (if b then items_fault l.first l.later 0 ds else Some (here Range)) ≡ None
        → (is_between l.least l.most (items_len ds) ≡ true) × (items_fault l.first l.later 0 ds ≡ None)
    go true q h = (q, h)
    go false q h = absurd (none_some (here Range) h)

-- the first item and the later ones of items without a fault
pub items_faultless : (first later : Shape) (i : ℕ) (d : Data) (ds : Items) → items_fault first later i (item d ds) ≡ None → (fault first d ≡ None) × (items_fault later later (i + 1) ds ≡ None)
items_faultless first later i d ds e =
    let both = neither _ _ e in
    (mapped_none (under (Index i)) (fault first d) both.0, both.1)

-- an array without a fault where an array is asked
pub array_faultless : (s : Shape) (l : ListForm) (d : Data) → form_of s ≡ list l → fault s d ≡ None → (ds : Items) × (d ≡ array ds) × (list_fault l ds ≡ None)
array_faultless s l d f e = go d (sym (fault_at s d (list l) f) ∙ e)
  where
    go : (d : Data) → option_map_or (list_fault l) (as_array d) other_type ≡ None → (ds : Items) × (d ≡ array ds) × (list_fault l ds ≡ None)
    go null h = absurd (none_some (here Kind) h)
    go (boolean b) h = absurd (none_some (here Kind) h)
    go (number n) h = absurd (none_some (here Kind) h)
    go (string t) h = absurd (none_some (here Kind) h)
    go (array ds) h = (ds, refl, h)
    go (object ms) h = absurd (none_some (here Kind) h)

-- an object without a fault where an object is asked
pub object_faultless_of : (s : Shape) (d : Data) → form_of s ≡ Object → fault s d ≡ None → (ms : Members) × (d ≡ object ms) × (object_fault s ms ≡ None)
object_faultless_of s d f e = go d (sym (fault_at s d Object f) ∙ e)
  where
    go : (d : Data) → option_map_or (object_fault s) (as_object d) other_type ≡ None → (ms : Members) × (d ≡ object ms) × (object_fault s ms ≡ None)
    go null h = absurd (none_some (here Kind) h)
    go (boolean b) h = absurd (none_some (here Kind) h)
    go (number n) h = absurd (none_some (here Kind) h)
    go (string t) h = absurd (none_some (here Kind) h)
    go (array ds) h = absurd (none_some (here Kind) h)
    go (object ms) h = (ms, refl, h)

known_of : (o : Option Shape) (d : Data) → option_map_or (λ t. fault t d) o (Some (here Unknown)) ≡ None → (t : Shape) × (o ≡ Some t) × (fault t d ≡ None)
known_of None d e = absurd (none_some (here Unknown) e)
known_of (Some t) d e = (t, refl, e)

-- each member of an object without a fault is known and has none
pub known : (s : Shape) (ms : Members) (name : List ℕ) (d : Data) → object_fault s ms ≡ None → get_member name ms ≡ Some d
    → (t : Shape) × (member_shape s (word_of (discriminator_of s) ms) name ≡ Some t) × (fault t d ≡ None)
known s ms name d e g =
    let parts = object_faultless s ms e in
    known_of (member_shape s (word_of (discriminator_of s) ms) name) d (member_faultless s (word_of (discriminator_of s) ms) name d ms parts.1 g)
