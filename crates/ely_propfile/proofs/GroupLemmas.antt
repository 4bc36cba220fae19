-- Groups that are read one after another.
use Rattle.std.proofs.Common.{ℕ, ◌≡◌, ◌≤◌, ◌<◌, eqb, leb, Bool, true, false, cond, not, ◌&&◌, ◌||◌, List, [], ◌∷◌, ◌++◌, Option, Some, None, Ok, length, take, map, refl, ap, ◌∙◌, sym, ⊎_elim, arith}
use Rattle.std.specs.Option.{is_some}
use Rattle.std.specs.List.{filter, list_all}
use Rattle.std.specs.Str.{bytes_eq}
use Rattle.std.proofs.lemmas.Bool.{cases_lt}
use Rattle.std.proofs.lemmas.List.{append_assoc, append-nil, length-append, length-take-le, take_all, take-append-le}
use Rattle.std.proofs.lemmas.List.Elements.{filter-append}
use Rattle.std.proofs.lemmas.List.Folds.{list_all-append}
use Rattle.std.proofs.lemmas.Slice.Eq.{bytes_eq-Decides}
use Rattle.ely_base.specs.Refused.{refused_as}
use Rattle.ely_base.specs.Names.{name_fault, name_or}
use Rattle.ely_base.specs.declared.name.NameFault.{NameFault}
use Rattle.ely_row.specs.declared.edit.PropFault.TheVariants.{BadLine}
use Rattle.ely_propfile.specs.Lines.{trimmed}
use Rattle.ely_propfile.specs.Entries.{name_part}
use Rattle.ely_propfile.specs.Faults.{is_among}
use Rattle.ely_propfile.specs.Groups.{is_name, is_filled, distinct, group_parts}
use Rattle.ely_propfile.specs.Kept.{with_group}
use Rattle.ely_propfile.proofs.NameLemmas.{bytes_eq-swap}

-- what is not x is among those that are not x where it is among all
among_others : (x g : List ℕ) (ds : List (List ℕ)) → bytes_eq x g ≡ false → is_among g (filter (λ y. not (bytes_eq x y)) ds) ≡ is_among g ds
among_others x g [] ne = refl
among_others x g (y ∷ ds) ne = by (bytes_eq x y) refl (among_others x g ds ne)
  where
    by : (t : Bool) → bytes_eq x y ≡ t → is_among g (filter (λ z. not (bytes_eq x z)) ds) ≡ is_among g ds → is_among g (cond (not t) (y ∷ filter (λ z. not (bytes_eq x z)) ds) (filter (λ z. not (bytes_eq x z)) ds)) ≡ (bytes_eq g y || is_among g ds)
    by true e rest =
        let same : x ≡ y = (bytes_eq-Decides x y).0 e in
        let other : bytes_eq g y ≡ false = ap (bytes_eq g) (sym same) ∙ bytes_eq-swap g x ∙ ne in
        rest ∙ ap (λ b. b || is_among g ds) (sym other)
    by false e rest = ap (λ b. bytes_eq g y || b) rest

-- the list with one more item, unless it is there
abbrev pub joined : List (List ℕ) → List ℕ → List (List ℕ)
joined ds g = cond (is_among g ds) ds (ds ++ g ∷ [])

distinct_step : (x g : List ℕ) (ds : List (List ℕ)) → x ∷ filter (λ y. not (bytes_eq x y)) (joined ds g) ≡ joined (x ∷ filter (λ y. not (bytes_eq x y)) ds) g
distinct_step x g ds = by (bytes_eq x g) (is_among g ds) refl refl
  where
    p : List ℕ → Bool
    p = λ y. not (bytes_eq x y)

    by : (t a : Bool) → bytes_eq x g ≡ t → is_among g ds ≡ a → x ∷ filter p (cond a ds (ds ++ g ∷ [])) ≡ joined (x ∷ filter p ds) g
    by true true e h = ap (λ b. cond (b || is_among g (filter p ds)) (x ∷ filter p ds) ((x ∷ filter p ds) ++ g ∷ [])) (sym (bytes_eq-swap g x ∙ e))
    by true false e h =
        let dropped : filter p (ds ++ g ∷ []) ≡ filter p ds = filter-append p ds (g ∷ []) ∙ ap (λ b. filter p ds ++ cond (not b) (g ∷ []) []) e ∙ append-nil (filter p ds) in
        ap (λ xs. x ∷ xs) dropped ∙ ap (λ b. cond (b || is_among g (filter p ds)) (x ∷ filter p ds) ((x ∷ filter p ds) ++ g ∷ [])) (sym (bytes_eq-swap g x ∙ e))
    by false a e h =
        let here : (bytes_eq g x || is_among g (filter p ds)) ≡ a = ap (λ b. b || is_among g (filter p ds)) (bytes_eq-swap g x ∙ e) ∙ among_others x g ds e ∙ h in
        let kept : filter p (cond a ds (ds ++ g ∷ [])) ≡ cond a (filter p ds) (filter p ds ++ g ∷ []) = kept_by a e in
        ap (λ xs. x ∷ xs) kept ∙ out a ∙ ap (λ b. cond b (x ∷ filter p ds) ((x ∷ filter p ds) ++ g ∷ [])) (sym here)
      where
        kept_by : (b : Bool) → bytes_eq x g ≡ false → filter p (cond b ds (ds ++ g ∷ [])) ≡ cond b (filter p ds) (filter p ds ++ g ∷ [])
        kept_by true e = refl
        kept_by false e = filter-append p ds (g ∷ []) ∙ ap (λ b. filter p ds ++ cond (not b) (g ∷ []) []) e

        out : (b : Bool) → x ∷ cond b (filter p ds) (filter p ds ++ g ∷ []) ≡ cond b (x ∷ filter p ds) ((x ∷ filter p ds) ++ g ∷ [])
        out true = refl
        out false = refl

-- one more item at the end
pub distinct_push : (xs : List (List ℕ)) (g : List ℕ) → distinct (xs ++ g ∷ []) ≡ joined (distinct xs) g
distinct_push [] g = refl
distinct_push (x ∷ xs) g = ap (λ ds. x ∷ filter (λ y. not (bytes_eq x y)) ds) (distinct_push xs g) ∙ distinct_step x g (distinct xs)

-- the prefix of 65 is kept
kept_prefix : (ds : List (List ℕ)) (g : List ℕ) → with_group (take 65 ds) g ≡ take 65 (joined ds g)
kept_prefix ds g = ⊎_elim many few (cases_lt 64 (length ds))
  where
    many : 64 < length ds → with_group (take 65 ds) g ≡ take 65 (joined ds g)
    many h =
        let full : length (take 65 ds) ≡ 65 = length-take-le 65 ds (omega arith) in
        ap (λ n. cond (leb n 64 && not (is_among g (take 65 ds))) (take 65 ds ++ g ∷ []) (take 65 ds)) full ∙ sym (by (is_among g ds))
      where
        by : (a : Bool) → take 65 (cond a ds (ds ++ g ∷ [])) ≡ take 65 ds
        by true = refl
        by false = take-append-le 65 ds (g ∷ []) (omega arith)

    few : length ds ≤ 64 → with_group (take 65 ds) g ≡ take 65 (joined ds g)
    few h =
        let short : leb (length ds) 64 ≡ true = grind arith in
        ap (λ xs. with_group xs g) (take_all 65 ds (omega arith)) ∙ ap (λ b. cond (b && not (is_among g ds)) (ds ++ g ∷ []) ds) short ∙ by (is_among g ds)
      where
        by : (a : Bool) → cond (not a) (ds ++ g ∷ []) ds ≡ take 65 (cond a ds (ds ++ g ∷ []))
        by true = sym (take_all 65 ds (omega arith))
        by false = sym (take_all 65 (ds ++ g ∷ []) (let len = length-append ds (g ∷ []) in omega arith))

-- the parts so far are names, and of their groups the first 65 are kept
pub record IsListed (text : List ℕ) (parts groups : List (List ℕ)) : Type 0 where
  pub so_far : List (List ℕ)
  pub whole : group_parts text ≡ so_far ++ filter is_filled (map trimmed parts)
  pub named : list_all is_name so_far ≡ true
  pub kept : groups ≡ take 65 (distinct so_far)

module _ (text : List ℕ) (parts more groups : List (List ℕ)) (part group : List ℕ) (listed : IsListed text parts groups) (first : parts ≡ part ∷ more) (is : group ≡ trimmed part) where
  rest : List (List ℕ)
  rest = filter is_filled (map trimmed more)

  whole_is : group_parts text ≡ listed.so_far ++ cond (is_filled group) (group ∷ rest) rest
  unfolding rest
  whole_is = listed.whole ∙ ap (λ ps. listed.so_far ++ filter is_filled (map trimmed ps)) first ∙ ap (λ g. listed.so_far ++ cond (is_filled g) (g ∷ rest) rest) (sym is)

  filled_is : is_filled group ≡ true → group_parts text ≡ listed.so_far ++ group ∷ rest
  filled_is filled = whole_is ∙ ap (λ b. listed.so_far ++ cond b (group ∷ rest) rest) filled

  pub listed_more : (new : List (List ℕ)) → is_filled group ≡ true → is_name group ≡ true → new ≡ with_group groups group → IsListed text more new
  unfolding rest
  listed_more new filled name put = record {
    so_far = listed.so_far ++ group ∷ [];
    whole = filled_is filled ∙ sym (append_assoc listed.so_far (group ∷ []) rest);
    named = list_all-append is_name listed.so_far (group ∷ []) ∙ ap (λ b. b && (is_name group && true)) listed.named ∙ ap (λ b. b && true) name;
    kept = put ∙ ap (λ gs. with_group gs group) listed.kept ∙ kept_prefix (distinct listed.so_far) group ∙ ap (take 65) (sym (distinct_push listed.so_far group));
  }

-- what a part that is a name, or none, says of it
named_by : (number : ℕ) (group : List ℕ) (fault : Option NameFault) (name : List ℕ) → refused_as (λ f. BadLine number) (name_or fault group) ≡ Ok name → not (is_some fault) ≡ true
named_by number group None name h = refl
named_by number group (Some f) name h = absurd cc

pub part_named : (number : ℕ) (group name : List ℕ) → name_part number group ≡ Ok name → is_name group ≡ true
part_named number group name h = named_by number group (name_fault group) name h

pub filled : (group : List ℕ) → false ≡ eqb (length group) 0 → is_filled group ≡ true
filled group some = grind arith
