-- Identities that two row functions make, and rows that two journals make.
use Rattle.std.proofs.Common.{◌≡◌, ℕ, false, ◌||◌, List, [], ◌∷◌, ◌++◌, map, take, drop, Option, refl, sym, ap, ap₂, subst, ◌∙◌, append_assoc}
use Rattle.std.specs.List.{list_any}
use Rattle.std.specs.Option.{option_map}
use Rattle.std.proofs.lemmas.Bool.{or_parts}
use Rattle.std.proofs.lemmas.List.{append-nil, take-append-drop}
use Rattle.ely_row.specs.declared.edit.Edit.{Edit}
use Rattle.ely_row.specs.Rows.{Row}
use Rattle.ely_row.specs.Edits.{Texts, is_of, row}
use Rattle.ely_row.specs.Dependence.{touches}
use Rattle.ely_row.proofs.AfterEdits.{untouched_row}
use Rattle.ely_aggregate.specs.declared.plan.RealmPlan.{RealmPlan}
use Rattle.ely_aggregate.specs.declared.plan.RealmPlan.TheVariants.{Basic, Aggregate}
use Rattle.ely_aggregate.specs.Plans.{AgreeOn, Rows, deps_of, identity_of, joined, merged}

rows_agree : (f g : Rows) (name : List ℕ) (realms : List (List ℕ)) → AgreeOn f g (map (λ (realm : List ℕ). (realm, name)) realms) → map (λ (realm : List ℕ). f realm name) realms ≡ map (λ (realm : List ℕ). g realm name) realms
rows_agree f g name [] same = refl
rows_agree f g name (realm ∷ realms) same = ap₂ (λ (row : Option Row) (rows : List (Option Row)). row ∷ rows) same.0 (rows_agree f g name realms same.1)

-- where the rows agree on the places of a name, its identity is the same
pub identity_of-agree : (f g : Rows) (plan : RealmPlan) (name : List ℕ) → AgreeOn f g (deps_of plan name) → identity_of f plan name ≡ identity_of g plan name
identity_of-agree f g (Basic realm) name same = same.0
identity_of-agree f g (Aggregate authentication authorization) name same =
    ap₂ (λ (rows : List (Option Row)) (row : Option Row). option_map (joined (merged rows)) row) (rows_agree f g name authorization same.1) same.0

pub agree-trans : (f g h : Rows) (places : List (List ℕ × List ℕ)) → AgreeOn f g places → AgreeOn g h places → AgreeOn f h places
agree-trans f g h [] first second = tt
agree-trans f g h (place ∷ places) first second = (first.0 ∙ second.0, agree-trans f g h places first.1 second.1)

-- an edit that touches none of the places leaves the rows there
pub agree-untouched : (texts : Texts) (edits : List Edit) (edit : Edit) (places : List (List ℕ × List ℕ)) → touches edit places ≡ false → AgreeOn (row texts (edits ++ edit ∷ [])) (row texts edits) places
agree-untouched texts edits edit [] none = tt
agree-untouched texts edits edit (place ∷ places) none =
    let apart = or_parts (is_of place.0 place.1 edit) (touches edit places) none in
    (untouched_row texts edits edit place.0 place.1 (ap (λ b. b || false) apart.0), agree-untouched texts edits edit places apart.1)

agree-same : (f : Rows) (places : List (List ℕ × List ℕ)) → AgreeOn f f places
agree-same f [] = tt
agree-same f (place ∷ places) = (refl, agree-same f places)

-- edits that touch none of the places leave the rows there
pub agree-since : (texts : Texts) (edits more : List Edit) (places : List (List ℕ × List ℕ)) → list_any (λ edit. touches edit places) more ≡ false → AgreeOn (row texts (edits ++ more)) (row texts edits) places
agree-since texts edits [] places none = subst (λ es. AgreeOn (row texts es) (row texts edits) places) (sym (append-nil edits)) (agree-same (row texts edits) places)
agree-since texts edits (edit ∷ more) places none =
    let apart = or_parts (touches edit places) (list_any (λ e. touches e places) more) none in
    let at_once : (edits ++ edit ∷ []) ++ more ≡ edits ++ edit ∷ more = append_assoc edits (edit ∷ []) more in
    let later = agree-since texts (edits ++ edit ∷ []) more places apart.1 in
    let first = agree-untouched texts edits edit places apart.0 in
    subst (λ es. AgreeOn (row texts es) (row texts edits) places) at_once (agree-trans _ _ _ places later first)

-- an edit that touches no place of a name leaves its identity
pub identity_of-untouched : (texts : Texts) (edits : List Edit) (edit : Edit) (plan : RealmPlan) (name : List ℕ) → touches edit (deps_of plan name) ≡ false
    → identity_of (row texts (edits ++ edit ∷ [])) plan name ≡ identity_of (row texts edits) plan name
identity_of-untouched texts edits edit plan name none =
    identity_of-agree (row texts (edits ++ edit ∷ [])) (row texts edits) plan name (agree-untouched texts edits edit (deps_of plan name) none)

-- where no edit after the first so many touches a place of a name, its identity is the one that those made
pub identity_of-since : (texts : Texts) (edits : List Edit) (seen : ℕ) (plan : RealmPlan) (name : List ℕ) → list_any (λ edit. touches edit (deps_of plan name)) (drop seen edits) ≡ false
    → identity_of (row texts edits) plan name ≡ identity_of (row texts (take seen edits)) plan name
identity_of-since texts edits seen plan name none =
    ap (λ es. identity_of (row texts es) plan name) (sym (take-append-drop seen edits))
    ∙ identity_of-agree (row texts (take seen edits ++ drop seen edits)) (row texts (take seen edits)) plan name (agree-since texts (take seen edits) (drop seen edits) (deps_of plan name) none)
