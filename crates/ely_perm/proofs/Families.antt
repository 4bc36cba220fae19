-- What a granted text implies: one that ends with `:*` the texts that begin with all before the `*`, and another itself.
use Rattle.std.proofs.Common.{◌≡◌, ◌≢◌, ℕ, ◌-◌, Bool, true, false, ◌||◌, ◌&&◌, List, ◌++◌, length, take, drop, refl, sym, ap, ◌∙◌, append_assoc, arith, length-append}
use Rattle.std.proofs.Math.Seq.{take-append_seam, drop-append_seam}
use Rattle.std.proofs.lemmas.List.{take-append-drop}
use Rattle.std.proofs.lemmas.Slice.Eq.{bytes_eq-Decides}
use Rattle.std.specs.Prelude.{nat_eq, codes}
use Rattle.std.specs.List.{starts_with, ends_with}
use Rattle.std.specs.Str.{bytes_eq}
use Rattle.ely_perm.specs.Grants.{is_family_of, implies}

stem_is : (front : List ℕ) → take (length (front ++ codes ":*") - 1) (front ++ codes ":*") ≡ front ++ codes ":"
stem_is front =
    let whole : front ++ codes ":*" ≡ (front ++ codes ":") ++ codes "*" = sym (append_assoc front (codes ":") (codes "*")) in
    let len : length (front ++ codes ":*") - 1 ≡ length (front ++ codes ":") = omega (arith, length-append front (codes ":*"), length-append front (codes ":")) in
    ap (λ n. take n (front ++ codes ":*")) len ∙ ap (λ text. take (length (front ++ codes ":")) text) whole ∙ take-append_seam (front ++ codes ":") (codes "*")

ends_so : (front : List ℕ) → ends_with nat_eq (front ++ codes ":*") (codes ":*") ≡ true
ends_so front =
    let len : length (front ++ codes ":*") - 2 ≡ length front = omega (arith, length-append front (codes ":*")) in
    ap (λ text. bytes_eq (codes ":*") text) (ap (λ n. drop n (front ++ codes ":*")) len ∙ drop-append_seam front (codes ":*"))

family_is : (front wanted : List ℕ) → is_family_of (front ++ codes ":*") wanted ≡ starts_with nat_eq wanted (front ++ codes ":")
family_is front wanted = (λ i. ends_so front i && starts_with nat_eq wanted (stem_is front i))

begins : (start rest : List ℕ) → starts_with nat_eq (start ++ rest) start ≡ true
begins start rest = (bytes_eq-Decides start (take (length start) (start ++ rest))).1 (sym (take-append_seam start rest))

rest_of : (start wanted : List ℕ) → starts_with nat_eq wanted start ≡ true → (rest : List ℕ) × (wanted ≡ start ++ rest)
rest_of start wanted so =
    let same = (bytes_eq-Decides start (take (length start) wanted)).0 so in
    (drop (length start) wanted, sym (take-append-drop (length start) wanted) ∙ ap (λ text. text ++ drop (length start) wanted) (sym same))

last_true : (a b c : Bool) → c ≡ true → (a || (b || c)) ≡ true
last_true true b c h = refl
last_true false true c h = refl
last_true false false c h = h

not_star : (front : List ℕ) → bytes_eq (front ++ codes ":*") (codes "*") ≡ true → ⊥
not_star front so = let len = ap length ((bytes_eq-Decides (front ++ codes ":*") (codes "*")).0 so) in omega (arith, length-append front (codes ":*"), len)

one_of : {P : Type 0} (a b c : Bool) → (a || (b || c)) ≡ true → (a ≡ true → P) → (b ≡ true → P) → (c ≡ true → P) → P
one_of true b c h f g k = f refl
one_of false true c h f g k = g refl
one_of false false c h f g k = k h

pub implied : (front wanted : List ℕ) → implies (front ++ codes ":*") wanted ≡ true → (rest : List ℕ) × (wanted ≡ (front ++ codes ":") ++ rest)
implied front wanted h =
    one_of (bytes_eq (front ++ codes ":*") (codes "*")) (bytes_eq (front ++ codes ":*") wanted) (is_family_of (front ++ codes ":*") wanted) h
    (λ star. absurd (not_star front star))
    (λ same. (codes "*", sym ((bytes_eq-Decides (front ++ codes ":*") wanted).0 same) ∙ sym (append_assoc front (codes ":") (codes "*"))))
    (λ so. rest_of (front ++ codes ":") wanted (sym (family_is front wanted) ∙ so))

pub implies_all : (front wanted rest : List ℕ) → wanted ≡ (front ++ codes ":") ++ rest → implies (front ++ codes ":*") wanted ≡ true
implies_all front wanted rest e =
    last_true (bytes_eq (front ++ codes ":*") (codes "*")) (bytes_eq (front ++ codes ":*") wanted) (is_family_of (front ++ codes ":*") wanted)
    (family_is front wanted ∙ ap (λ text. starts_with nat_eq text (front ++ codes ":")) e ∙ begins (front ++ codes ":") rest)

middle_of : (a b c d : Bool) → (a ≡ true → ⊥) → (c ≡ true → ⊥) → (a || (b || (c && d))) ≡ b
middle_of true b c d f g = absurd (f refl)
middle_of false b true d f g = absurd (g refl)
middle_of false true false d f g = refl
middle_of false false false d f g = refl

front_of : (grant : List ℕ) → ends_with nat_eq grant (codes ":*") ≡ true → grant ≡ take (length grant - 2) grant ++ codes ":*"
front_of grant so =
    sym (take-append-drop (length grant - 2) grant)
    ∙ ap (λ text. take (length grant - 2) grant ++ text) (sym ((bytes_eq-Decides (codes ":*") (drop (length grant - 2) grant)).0 so))

pub implies_itself : (grant wanted : List ℕ) → grant ≢ codes "*" → ((front : List ℕ) → grant ≢ front ++ codes ":*")
    → implies grant wanted ≡ bytes_eq grant wanted
implies_itself grant wanted no_star no_family =
    middle_of (bytes_eq grant (codes "*")) (bytes_eq grant wanted) (ends_with nat_eq grant (codes ":*")) (starts_with nat_eq wanted (take (length grant - 1) grant))
    (λ star. no_star ((bytes_eq-Decides grant (codes "*")).0 star))
    (λ so. no_family (take (length grant - 2) grant) (front_of grant so))
