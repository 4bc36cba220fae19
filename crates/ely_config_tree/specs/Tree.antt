-- The first fault of a JSON value that should have a shape. In an object the discriminator is tested first, then the members in
-- the order of their names' bytes, each with all below it, and then what is missing; in an array its length, and then each item.
use Rattle.std.specs.Prelude.{ℕ, ◌+◌, not, if◌then◌else◌, is_some, List, [], Option, Some, None, option_and_then, option_map}
use Rattle.std.specs.Option.{option_map_or, unwrap_or}
use Rattle.std.specs.List.{find}
use Rattle.std.specs.Str.{bytes_eq}
use Rattle.serde_json.specs.Data.{Data, null, boolean, number, string, array, object, Items, no_items, item, Members, no_members, member}
use Rattle.serde_json.specs.Find.{as_str, get_member}
use Rattle.serde_json.specs.Events.{items_len}
use Rattle.ely_config_tree.specs.declared.step.Step.TheVariants.{Member, Index}
use Rattle.ely_config_tree.specs.declared.step.FaultKind.{FaultKind}
use Rattle.ely_config_tree.specs.declared.step.FaultKind.TheVariants.{Missing, Kind, Range, Unknown}
use Rattle.ely_config_tree.specs.declared.shape.Shape.{Shape}
use Rattle.ely_config_tree.specs.declared.shape.Shape.TheVariants.{Root}
use Rattle.ely_config_tree.specs.declared.shape.ListForm.{ListForm}
use Rattle.ely_config_tree.specs.declared.shape.Form.{Form}
use Rattle.ely_config_tree.specs.declared.shape.Form.TheVariants.{Leaf, List as list, Object}
use Rattle.ely_config_tree.specs.Faults.{Fault, here, or_else, under}
use Rattle.ely_config_tree.specs.Leaves.{is_between, leaf_fault}
use Rattle.ely_config_tree.specs.Shapes.{form_of}
use Rattle.ely_config_tree.specs.Table.{members_of, required_in, shape_in, discriminator_of}

-- a fault of the value of a member, seen from its object, where there is a kind
abbrev pub at_member : List ℕ → Option FaultKind → Option Fault
at_member name kind = option_map (under (Member name)) (option_map here kind)

-- the fault of the discriminator, which must be there where the shape has one
abbrev pub discriminator_fault : Option (List ℕ × Shape) → Members → Option Fault
discriminator_fault None ms = None
discriminator_fault (Some named) ms = at_member named.0 (option_map_or (leaf_fault named.1) (get_member named.0 ms) (Some Missing))

-- the word of the discriminator
abbrev pub word_of : Option (List ℕ × Shape) → Members → List ℕ
word_of None ms = []
word_of (Some named) ms = unwrap_or (option_and_then as_str (get_member named.0 ms)) []

-- the shape of the discriminator under its name, and else the other
abbrev pub shape_or : Option (List ℕ × Shape) → List ℕ → Option Shape → Option Shape
shape_or None name other = other
shape_or (Some named) name other = if bytes_eq name named.0 then Some named.1 else other

-- the shape of the value of a member, the discriminator among them
abbrev pub member_shape : Shape → List ℕ → List ℕ → Option Shape
member_shape s word name = shape_or (discriminator_of s) name (shape_in (members_of s word) name)

-- the first name of which there is no member
abbrev pub missing_fault : List (List ℕ) → Members → Option Fault
missing_fault names ms = option_and_then (λ name. at_member name (Some Missing)) (find (λ name. not (is_some (get_member name ms))) names)

-- what a form asks for: a value without parts, an array or an object
abbrev pub by_form : Form → Option Fault → (ListForm → Option Fault) → Option Fault → Option Fault
by_form Leaf leaf items members = leaf
by_form (list l) leaf items members = items l
by_form Object leaf items members = members

-- the fault of a value whose parts aren't looked at, as a fault of the value itself
abbrev pub leaf_here : Shape → Data → Option Fault
leaf_here s d = option_map here (leaf_fault s d)

-- the fault of a value of another JSON type
abbrev pub other_type : Option Fault
other_type = Some (here Kind)

-- the fault of a value that is neither an array nor an object
abbrev pub plain_fault : Shape → Data → Option Fault
plain_fault s d = by_form (form_of s) (leaf_here s d) (λ l. other_type) other_type

-- an array of a length that is allowed, and the fault of its items
abbrev pub sized : ListForm → Items → Option Fault → Option Fault
sized l ds inner = if is_between l.least l.most (items_len ds) then inner else Some (here Range)

-- the discriminator first, then the fault of the members, then what is missing
abbrev pub in_order : Shape → List ℕ → Members → Option Fault → Option Fault
in_order s word ms inner = or_else (discriminator_fault (discriminator_of s) ms) (or_else inner (missing_fault (required_in (members_of s word)) ms))

-- the walk: a value, the items of an array, the members of an object
abbrev mutual
  -- the first fault of a value that should have the shape
  pub fault : Shape → Data → Option Fault
  fault s null = plain_fault s null
  fault s (boolean b) = plain_fault s (boolean b)
  fault s (number n) = plain_fault s (number n)
  fault s (string t) = plain_fault s (string t)
  fault s (array ds) = by_form (form_of s) (leaf_here s (array ds)) (λ l. sized l ds (items_fault l.first l.later 0 ds)) other_type
  fault s (object ms) = by_form (form_of s) (leaf_here s (object ms)) (λ l. other_type)
      (in_order s (word_of (discriminator_of s) ms) ms (members_fault s (word_of (discriminator_of s) ms) ms))

  -- the first fault of the items from an index on
  pub items_fault : Shape → Shape → ℕ → Items → Option Fault
  items_fault first later i no_items = None
  items_fault first later i (item d ds) = or_else (option_map (under (Index i)) (fault first d)) (items_fault later later (i + 1) ds)

  -- the first fault of the members, each with all below it
  pub members_fault : Shape → List ℕ → Members → Option Fault
  members_fault s word no_members = None
  members_fault s word (member k d ms) =
      or_else (option_map (under (Member k)) (option_map_or (λ t. fault t d) (member_shape s word k) (Some (here Unknown)))) (members_fault s word ms)

-- the first fault of an array
abbrev pub list_fault : ListForm → Items → Option Fault
list_fault l ds = sized l ds (items_fault l.first l.later 0 ds)

-- the first fault of an object
abbrev pub object_fault : Shape → Members → Option Fault
object_fault s ms = in_order s (word_of (discriminator_of s) ms) ms (members_fault s (word_of (discriminator_of s) ms) ms)

-- the first fault of a member's value
abbrev pub member_fault : Shape → List ℕ → List ℕ → Data → Option Fault
member_fault s word name d = option_map_or (λ t. fault t d) (member_shape s word name) (Some (here Unknown))

-- the first fault of a value that should be a configuration
abbrev pub tree_fault : Data → Option Fault
tree_fault d = fault Root d
