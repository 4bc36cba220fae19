-- Where an identity comes from: the places that it is made from, and what the rows there make of it.
use Rattle.std.specs.Prelude.{◌≡◌, ℕ, List, [], ◌∷◌, map, take, fold, Option, Some, None}
use Rattle.std.specs.List.{AllByRecursion}
use Rattle.std.specs.Option.{option_map, option_or, IfSome}
use Rattle.std.specs.BTreeMap.{insert_entry}
use Rattle.ely_row.specs.Rows.{Row, IsRow, attr_at, name_cmp}
use Rattle.ely_aggregate.specs.declared.plan.RealmPlan.{RealmPlan}
use Rattle.ely_aggregate.specs.declared.plan.RealmPlan.TheVariants.{Basic, Aggregate}

-- the realms of a plan, in order
abbrev pub realms_of : RealmPlan → List (List ℕ)
realms_of (Basic realm) = realm ∷ []
realms_of (Aggregate authentication authorization) = authentication ∷ authorization

-- the places that the identity of a name is made from: the name in each realm of the plan
abbrev pub deps_of : RealmPlan → List ℕ → List (List ℕ × List ℕ)
deps_of plan name = map (λ realm. (realm, name)) (realms_of plan)

-- the row of a name in a realm, where there is one
abbrev pub Rows : Type 0
Rows = List ℕ → List ℕ → Option Row

-- attributes, each with its values
abbrev pub Attrs : Type 0
Attrs = List (List ℕ × List (List ℕ))

-- the first attributes over the others: where both have one, the first ones' values stand
abbrev pub over : Attrs → Attrs → Attrs
over first others = fold (λ attrs a. insert_entry name_cmp attrs a.0 a.1) others first

-- the attributes of some rows, each with its values in the first row that has it, in the order of their names
abbrev pub merged : List (Option Row) → Attrs
merged [] = []
merged (None ∷ rows) = merged rows
merged (Some row ∷ rows) = over row.attrs (merged rows)

-- the values of the attribute in the first row that has it
abbrev pub first_values : List ℕ → List (Option Row) → Option (List (List ℕ))
first_values attr [] = None
first_values attr (None ∷ rows) = first_values attr rows
first_values attr (Some row ∷ rows) = option_or (attr_at attr row) (first_values attr rows)

-- the rows that are there are such as rows can be
abbrev pub AreRows : List (Option Row) → Type 0
AreRows rows = AllByRecursion (λ row. IfSome row IsRow) rows

-- an identity with the credentials of the row and, in the order of their names, the first 32 of these attributes
abbrev pub joined : Attrs → Row → Row
joined attrs row = record { creds = row.creds; attrs = take 32 attrs }

-- the identity of a name by a plan: the row of the basic realm; or the credentials of the row of the authentication realm,
-- with each attribute as the first authorization realm whose row has it
abbrev pub identity_of : Rows → RealmPlan → List ℕ → Option Row
identity_of rows (Basic realm) name = rows realm name
identity_of rows (Aggregate authentication authorization) name =
    option_map (joined (merged (map (λ realm. rows realm name) authorization))) (rows authentication name)

-- both have the same rows at the places
abbrev pub AgreeOn : Rows → Rows → List (List ℕ × List ℕ) → Type 0
AgreeOn rows others places = AllByRecursion (λ place. rows place.0 place.1 ≡ others place.0 place.1) places
