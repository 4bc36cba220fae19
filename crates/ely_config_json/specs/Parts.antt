-- Members of JSON objects by their names, and items of JSON arrays.
use Rattle.std.specs.Prelude.{List, [], ◌∷◌, ℕ, Option, Some, None, option_map, option_and_then, String}
use Rattle.std.specs.Option.{option_map_or}
use Rattle.std.specs.BTreeMap.{BTreeMap}
use Rattle.std.specs.declared.alloc.Global.{Global}
use Rattle.serde_json.specs.Data.{Data, Items as Values, no_items, item, Members as Object}
use Rattle.serde_json.specs.View.{members_view}
use Rattle.serde_json.specs.declared.value.Value.{Value}
use Rattle.serde_json.specs.Find.{as_array, as_str, get_member}

-- the members that a map of values stands for
abbrev pub object_of : BTreeMap (String Global) Value → Object
object_of map = members_view map.entries

-- what the member of this name is read as; nothing where it isn't there
abbrev pub needed : {T : Type 0} → (Data → Option T) → List ℕ → Object → Option T
needed read name object = option_and_then read (get_member name object)

-- what the member of this name is read as; the default where it isn't there
abbrev pub given : {T : Type 0} → (Data → Option T) → T → List ℕ → Object → Option T
given read default name object = option_map_or read (get_member name object) (Some default)

-- what the member of this name is read as, where it is there
abbrev pub optional : {T : Type 0} → (Data → Option T) → List ℕ → Object → Option (Option T)
optional read name object = option_map_or (λ value. option_map Some (read value)) (get_member name object) (Some None)

-- what an object is read as by the word that its member of this name has
abbrev pub by_word : {T : Type 0} → (Object → List ℕ → Option T) → List ℕ → Object → Option T
by_word read name object = option_and_then (read object) (needed as_str name object)

-- both, where neither is missing
abbrev pub both : {A B : Type 0} → Option A → Option B → Option (A × B)
both None second = None
both (Some a) None = None
both (Some a) (Some b) = Some (a, b)

-- what each of the values is read as; nothing where one of them can't be read
abbrev pub each_of : {T : Type 0} → (Data → Option T) → Values → Option (List T)
each_of read no_items = Some []
each_of read (item value values) = option_and_then (λ part. option_map (λ parts. part ∷ parts) (each_of read values)) (read value)

-- what each item of an array is read as
abbrev pub list_of : {T : Type 0} → (Data → Option T) → Data → Option (List T)
list_of read value = option_and_then (each_of read) (as_array value)

-- the items of an array of two
abbrev pub two_of : Values → Option (Data × Data)
two_of no_items = None
two_of (item first no_items) = None
two_of (item first (item second no_items)) = Some (first, second)
two_of (item first (item second (item third values))) = None

-- what the two items of an array are read as, each in its way
abbrev pub pair_of : {A B : Type 0} → (Data → Option A) → (Data → Option B) → Data → Option (A × B)
pair_of first second value = option_and_then (λ two. both (first two.0) (second two.1)) (option_and_then two_of (as_array value))
