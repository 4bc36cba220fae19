-- One write after another: bytes and then a prefix of more.
use Rattle.std.proofs.Common.{ℕ, ◌+◌, List, ◌++◌, length, take, Option, Result, Ok, Err, sym, subst, arith, length-append, take_all, MatchResult}
use Rattle.std.proofs.Math.Seq.{take-append-add, take-append-le}
use Rattle.std.proofs.KnownBytes.{Appends-trans}
use Rattle.std.specs.Io.KnownBytes.{Appends}
use Rattle.ely_io.specs.Causes.{AppendsPrefix}

-- bytes, and then a prefix of more
pub prefix_after : (a b c : Option (List ℕ)) (xs ys : List ℕ) → Appends a b xs → AppendsPrefix b c ys → AppendsPrefix a c (xs ++ ys)
prefix_after a b c xs ys h f = (
  length xs + f.0,
  omega (arith, f.1, length-append xs ys),
  subst (Appends a c) (sym (take-append-add xs ys f.0)) (Appends-trans a b c xs (take f.0 ys) h f.2),
)

-- a prefix of bytes is a prefix of more
pub prefix_of_more : (a b : Option (List ℕ)) (xs ys : List ℕ) → AppendsPrefix a b xs → AppendsPrefix a b (xs ++ ys)
prefix_of_more a b xs ys f = (f.0, omega (arith, f.1, length-append xs ys), subst (Appends a b) (sym (take-append-le f.0 xs ys f.1)) f.2)

-- all of it is a prefix of it
pub prefix_whole : (a b : Option (List ℕ)) (xs : List ℕ) → Appends a b xs → AppendsPrefix a b xs
prefix_whole a b xs h = (length xs, omega arith, subst (Appends a b) (sym (take_all (length xs) xs (omega arith))) h)

pub wrote_then : {T E : Type 0} (a b c : Option (List ℕ)) (xs ys : List ℕ) (r : Result T E) → Appends a b xs → MatchResult r (λ _. Appends b c ys) (λ _. AppendsPrefix b c ys) → MatchResult r (λ _. Appends a c (xs ++ ys)) (λ _. AppendsPrefix a c (xs ++ ys))
wrote_then a b c xs ys (Ok x) h k = Appends-trans a b c xs ys h k
wrote_then a b c xs ys (Err e) h k = prefix_after a b c xs ys h k
