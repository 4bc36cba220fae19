-- What a reader answers: a value, or the first fault; and what a call answers that takes memory.
use Rattle.std.specs.Prelude.{◌≡◌, Result, Ok, Err}
use Rattle.ely_base.specs.declared.refused.NoMemory.{NoMemory as no_memory}
use Rattle.ely_base.specs.declared.refused.Refused.{Refused}
use Rattle.ely_base.specs.declared.refused.Refused.TheVariants.{Fault, NoMemory}

infixl 10 ◌>>=◌
-- what is read next, unless a fault was found
abbrev pub ◌>>=◌ : {A B F : Type 0} → Result A F → (A → Result B F) → Result B F
(Ok x) >>= f = f x
(Err e) >>= f = Err e

-- the same value, or the fault as one of another kind
abbrev pub refused_as : {T F G : Type 0} → (F → G) → Result T F → Result T G
refused_as g (Ok x) = Ok x
refused_as g (Err f) = Err (g f)

-- the answer of a call that takes no memory, seen by that view, is the expected one
abbrev pub Reads : {X Y F : Type 0} → (X → Y) → Result X F → Result Y F → Type 0
Reads view (Ok x) expected = expected ≡ Ok (view x)
Reads view (Err f) expected = expected ≡ Err f

-- the refusal is that one, unless memory ran out
abbrev pub Fails : {T F : Type 0} → Refused F → Result T F → Type 0
Fails (Fault f) expected = expected ≡ Err f
Fails NoMemory expected = Unit {0}

-- the answer is the expected one, unless memory ran out
abbrev pub Gives : {T F : Type 0} → Result T (Refused F) → Result T F → Type 0
Gives (Ok x) expected = expected ≡ Ok x
Gives (Err e) expected = Fails e expected

-- the same answer, with a fault as one of another kind
abbrev pub answer_as : {T F G : Type 0} → (F → G) → Result T (Refused F) → Result T (Refused G)
answer_as g (Ok x) = Ok x
answer_as g (Err (Fault f)) = Err (Fault (g f))
answer_as g (Err NoMemory) = Err NoMemory

-- the second answer is the first, with a fault as one that is made of it
abbrev pub IsAnswerAs : {T F G : Type 0} → (F → G → Type 0) → Result T (Refused F) → Result T (Refused G) → Type 0
IsAnswerAs Makes (Ok x) other = other ≡ Ok x
IsAnswerAs Makes (Err (Fault f)) other = (g : _) × (other ≡ Err (Fault g)) × Makes f g
IsAnswerAs Makes (Err NoMemory) other = other ≡ Err NoMemory

-- the answer is no fault
abbrev pub IsWithoutFault : {T F : Type 0} → Result T (Refused F) → Type 0
IsWithoutFault (Ok x) = Unit {0}
IsWithoutFault (Err (Fault f)) = ⊥
IsWithoutFault (Err NoMemory) = Unit {0}

-- the same answer of a call that finds no fault
abbrev pub without_fault : {T F : Type 0} → Result T (Refused F) → Result T no_memory
without_fault (Ok x) = Ok x
without_fault (Err e) = Err (record {})
