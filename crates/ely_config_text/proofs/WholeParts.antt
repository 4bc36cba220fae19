-- What is read of the members of an object without a fault, and of the items of an array without one.
use Rattle.std.proofs.Common.{◌≡◌, ◌∙◌, ℕ, ◌+◌, ◌&&◌, ◌||◌, ◌≤◌, suc, Bool, true, false, List, [], ◌∷◌, Option, Some, None, refl, sym, ap, is_some, option_map, nat_le, bytes_eq, arith, leb-true}
use Rattle.std.specs.Option.{option_and_then, option_map_or}
use Rattle.std.specs.List.{AllByRecursion}
use Rattle.std.proofs.lemmas.Slice.Eq.{bytes_eq-Decides}
use Rattle.serde_json.specs.Data.{Data, Items, no_items, item, Members as Object}
use Rattle.serde_json.specs.Events.{items_len}
use Rattle.serde_json.specs.Find.{get_member}
use Rattle.ely_config_tree.specs.declared.shape.Shape.{Shape}
use Rattle.ely_config_tree.specs.declared.step.FaultKind.TheVariants.{Unknown}
use Rattle.ely_config_tree.specs.Faults.{here}
use Rattle.ely_config_tree.specs.Leaves.{is_among, is_between}
use Rattle.ely_config_tree.specs.Shapes as shapes
use Rattle.ely_config_tree.specs.Tree.{fault, items_fault, member_shape, members_fault}
use Rattle.ely_config_tree.proofs.Faultless.{array_faultless, items_faultless, list_faultless, member_faultless}
use Rattle.ely_config_json.specs.Parts.{both, each_of, given, list_of, needed, optional, pair_of, two_of}

-- each value without a fault of the shape is read
abbrev pub Reads : {T : Type 0} → Shape → (Data → Option T) → Type 0
Reads t read = (d : Data) → fault t d ≡ None → is_some (read d) ≡ true

pub none_some : {X : Type 0} (x : X) → Some x ≡ None → ⊥
none_some x e = cc

pub false_true : false ≡ true → ⊥
false_true e = cc

-- both tests are met
pub and_both : (a b : Bool) → (a && b) ≡ true → (a ≡ true) × (b ≡ true)
and_both true b e = (refl, e)
and_both false b e = absurd (false_true e)

-- the bounds that a number is between
pub bounds : (least most n : ℕ) → is_between least most n ≡ true → (least ≤ n) × (n ≤ most)
bounds least most n e =
    let tests = and_both (nat_le least n) (nat_le n most) e in
    (leb-true least n tests.0, leb-true n most tests.1)

-- ---- what is made of what is read

pub map_has : {A B : Type 0} (f : A → B) (o : Option A) → is_some o ≡ true → is_some (option_map f o) ≡ true
map_has f None e = absurd (false_true e)
map_has f (Some a) e = refl

pub both_has : {A B : Type 0} (a : Option A) (b : Option B) → is_some a ≡ true → is_some b ≡ true → is_some (both a b) ≡ true
both_has None b e h = absurd (false_true e)
both_has (Some a) None e h = absurd (false_true h)
both_has (Some a) (Some b) e h = refl

-- ---- members

module _ (s : Shape) (word : List ℕ) (ms : Object) (faultless : members_fault s word ms ≡ None) where
  -- a member has no fault of its shape
  pub of_shape : (name : List ℕ) (t : Shape) (d : Data) → member_shape s word name ≡ Some t → get_member name ms ≡ Some d → fault t d ≡ None
  of_shape name t d is g = ap (λ o. option_map_or (λ u. fault u d) o (Some (here Unknown))) (sym is) ∙ member_faultless s word name d ms faultless g

  -- what holds of what each value without a fault is read as, and where the member isn't there
  pub member_holds : {T : Type 0} (P : Option T → Type 0) (read : Data → Option T) (otherwise : Option T) (name : List ℕ) (t : Shape) → member_shape s word name ≡ Some t
      → ((d : Data) → fault t d ≡ None → P (read d)) → P otherwise → P (option_map_or read (get_member name ms) otherwise)
  member_holds P read otherwise name t is each other = go (get_member name ms) refl
    where
      go : (o : Option Data) → get_member name ms ≡ o → P (option_map_or read o otherwise)
      go None g = other
      go (Some d) g = each d (of_shape name t d is g)

  pub given_has : {T : Type 0} (read : Data → Option T) (default : T) (name : List ℕ) (t : Shape) → member_shape s word name ≡ Some t → Reads t read → is_some (given read default name ms) ≡ true
  given_has read default name t is each = member_holds (λ o. is_some o ≡ true) read (Some default) name t is each refl

  pub optional_has : {T : Type 0} (read : Data → Option T) (name : List ℕ) (t : Shape) → member_shape s word name ≡ Some t → Reads t read → is_some (optional read name ms) ≡ true
  optional_has read name t is each =
      member_holds (λ o. is_some o ≡ true) (λ value. option_map Some (read value)) (Some None) name t is (λ d e. map_has Some (read d) (each d e)) refl

  pub needed_has : {T : Type 0} (read : Data → Option T) (name : List ℕ) (t : Shape) → member_shape s word name ≡ Some t → Reads t read → is_some (get_member name ms) ≡ true → is_some (needed read name ms) ≡ true
  needed_has read name t is each there = go (get_member name ms) refl there
    where
      go : (o : Option Data) → get_member name ms ≡ o → is_some o ≡ true → is_some (option_and_then read o) ≡ true
      go None g h = absurd (false_true h)
      go (Some d) g h = each d (of_shape name t d is g)

-- ---- items

pub each_has : {T : Type 0} (s : Shape) (read : Data → Option T) → Reads s read → (i : ℕ) (ds : Items) → items_fault s s i ds ≡ None → is_some (each_of read ds) ≡ true
each_has s read each i no_items e = refl
each_has s read each i (item d ds) e =
    let parts = items_faultless s s i d ds e in
    go (read d) (each_of read ds) (each d parts.0) (each_has s read each (i + 1) ds parts.1)
  where
    go : {T : Type 0} (o : Option T) (p : Option (List T)) → is_some o ≡ true → is_some p ≡ true → is_some (option_and_then (λ part. option_map (λ parts. part ∷ parts) p) o) ≡ true
    go None p a b = absurd (false_true a)
    go (Some x) p a b = map_has (λ parts. x ∷ parts) p b

pub list_has : {T : Type 0} (s of : Shape) (least most : ℕ) (read : Data → Option T) → shapes.form_of s ≡ shapes.list_of least most of → Reads of read → Reads s (list_of read)
list_has s of least most read form each d e =
    let made = array_faultless s (record { least = least; most = most; first = of; later = of }) d form e in
    let parts = list_faultless (record { least = least; most = most; first = of; later = of }) made.0 made.2 in
    rw made.1 (each_has of read each 0 made.0 parts.1)

-- an array of at least one item is read as at least one
pub some_list : {T : Type 0} (s of : Shape) (most : ℕ) (read : Data → Option T) → shapes.form_of s ≡ shapes.list_of 1 most of → Reads of read → (d : Data) → fault s d ≡ None
    → (x : T) × (xs : List T) × (list_of read d ≡ Some (x ∷ xs))
some_list s of most read form each d e =
    let made = array_faultless s (record { least = 1; most = most; first = of; later = of }) d form e in
    let parts = list_faultless (record { least = 1; most = most; first = of; later = of }) made.0 made.2 in
    let found = some_items of most read each made.0 parts.0 parts.1 in
    (found.0, found.1, ap (list_of read) made.1 ∙ found.2)
  where
    both_some : {T : Type 0} (o : Option T) (p : Option (List T)) → is_some o ≡ true → is_some p ≡ true
        → (x : T) × (xs : List T) × (option_and_then (λ part. option_map (λ parts. part ∷ parts) p) o ≡ Some (x ∷ xs))
    both_some None p a b = absurd (false_true a)
    both_some (Some x) None a b = absurd (false_true b)
    both_some (Some x) (Some xs) a b = (x, xs, refl)

    some_items : {T : Type 0} (of : Shape) (most : ℕ) (read : Data → Option T) → Reads of read → (ds : Items) → is_between 1 most (items_len ds) ≡ true
        → items_fault of of 0 ds ≡ None → (x : T) × (xs : List T) × (each_of read ds ≡ Some (x ∷ xs))
    some_items of most read each no_items n h = absurd (false_true n)
    some_items of most read each (item d ds) n h =
        let parts = items_faultless of of 0 d ds h in
        both_some (read d) (each_of read ds) (each d parts.0) (each_has of read each 1 ds parts.1)

module _ {A B : Type 0} (first later : Shape) (read : Data → Option A) (read_later : Data → Option B) (each : Reads first read) (each_later : Reads later read_later) where
  two_has : (ds : Items) → is_between 2 2 (items_len ds) ≡ true → items_fault first later 0 ds ≡ None → is_some (option_and_then (λ two. both (read two.0) (read_later two.1)) (two_of ds)) ≡ true
  two_has no_items n e = absurd (false_true n)
  two_has (item a no_items) n e = absurd (false_true n)
  two_has (item a (item b no_items)) n e =
      let parts = items_faultless first later 0 a (item b no_items) e in
      let next = items_faultless later later 1 b no_items parts.1 in
      both_has (read a) (read_later b) (each a parts.0) (each_later b next.0)
  two_has (item a (item b (item c ds))) n e =
      let short : suc (suc (suc (items_len ds))) ≤ 2 = (bounds 2 2 _ n).1 in
      absurd (omega (arith, short))

  pub pair_has : (s : Shape) → shapes.form_of s ≡ shapes.pair_of first later → Reads s (pair_of read read_later)
  pair_has s form d e =
      let made = array_faultless s (record { least = 2; most = 2; first = first; later = later }) d form e in
      let parts = list_faultless (record { least = 2; most = 2; first = first; later = later }) made.0 made.2 in
      rw made.1 (two_has made.0 parts.0 parts.1)

-- ---- words

-- what holds of each word holds of a text among them
pub among : (P : List ℕ → Type 0) (words : List (List ℕ)) (text : List ℕ) → is_among words text ≡ true → AllByRecursion P words → P text
among P [] text e all = absurd (false_true e)
among P (word ∷ words) text e all = go (λ h. among P words text h all.1) (bytes_eq text word) refl e
  where
    go : (is_among words text ≡ true → P text) → (b : Bool) → bytes_eq text word ≡ b → (b || is_among words text) ≡ true → P text
    go later true q h = rw ((bytes_eq-Decides text word).0 q) all.0
    go later false q h = later h

-- what is read of a member in two steps is read in one
pub then_has : {A B : Type 0} (read : Data → Option A) (next : A → Option B) (name : List ℕ) (ms : Object) → is_some (needed (λ d. option_and_then next (read d)) name ms) ≡ true
    → is_some (option_and_then next (needed read name ms)) ≡ true
then_has read next name ms e = go (get_member name ms) e
  where
    go : (o : Option Data) → is_some (option_and_then (λ d. option_and_then next (read d)) o) ≡ true → is_some (option_and_then next (option_and_then read o)) ≡ true
    go None h = absurd (false_true h)
    go (Some d) h = h
