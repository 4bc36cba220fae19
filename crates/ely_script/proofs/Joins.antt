-- Texts written piece by piece, one after another.
use Rattle.std.proofs.Common.{◌≡◌, ℕ, List, ◌++◌, append_assoc}

pub line_joined : (out n a l s o c sp nl : List ℕ) → ((((((out ++ n) ++ (sp ++ a)) ++ (sp ++ l)) ++ (sp ++ s)) ++ sp) ++ o) ++ (c ++ nl) ≡ out ++ (n ++ sp ++ a ++ sp ++ l ++ sp ++ s ++ sp ++ o ++ c ++ nl)
line_joined out n a l s o c sp nl = simp append_assoc

pub established_joined : (out word version realm name mark roles sp : List ℕ) → ((((out ++ (word ++ version)) ++ (sp ++ realm)) ++ (sp ++ name)) ++ mark) ++ roles ≡ out ++ (word ++ version ++ sp ++ realm ++ sp ++ name ++ mark ++ roles)
established_joined out word version realm name mark roles sp = simp append_assoc
