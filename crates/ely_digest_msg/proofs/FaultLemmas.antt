-- The fault that is told of a list is the first.
use Rattle.std.proofs.Common.{◌≡◌, ◌≢◌, ◌⊎◌, ℕ, zero, suc, ◌+◌, ◌<◌, true, false, List, [], ◌∷◌, length, Result, Ok, Err, refl, sym, ap, subst, ◌∙◌, arith, ⊎_elim, inl, inr, eqb}
use Rattle.std.proofs.lemmas.Bool.{cases_Bool}
use Rattle.std.proofs.lemmas.Bool.Decides.{nat_tests}
use Rattle.ely_base.specs.Refused.{◌>>=◌}
use Rattle.ely_digest_msg.specs.Parts.{is_gap, after}
use Rattle.ely_digest_msg.specs.Fields.{Values, known, nothing}
use Rattle.ely_digest_msg.specs.Members.{kept, member_of, members_of, list_of}
use Rattle.ely_digest_msg.specs.Grammar.{Member, BeginsWith, IsNew, AreNew, values_with, IsPrefix, IsFirstFault}
use Rattle.ely_digest_msg.specs.declared.fault.DigestFault.{DigestFault}
use Rattle.ely_digest_msg.proofs.MemberLemmas.{members_end, members_fault, goes_on}
use Rattle.ely_digest_msg.proofs.GrammarLemmas.{IsTail, at_end, members_comma, one_more, shorter_tail, one_member}
use Rattle.ely_digest_msg.proofs.SoundLemmas.{IsSameAnswer, no_answer, member_sound, begins_with}

-- the first fault of a list is told
tells : (ms : List Member) (n size : ℕ) (values : Values) (text rest : List ℕ) (fault : DigestFault) → length text < n → IsPrefix ms text rest → AreNew values ms → 0 < length (after is_gap rest) → member_of size (values_with values ms) (after is_gap rest) ≡ Err fault → members_of n size values text ≡ Err fault
tells [] n size values text rest fault h prefix fresh due here =
    let k = one_more (length text) n h in
    let some : length (after is_gap text) ≢ 0 = omega (arith, due, ap (λ (xs : List ℕ). length (after is_gap xs)) prefix) in
    let fails : Err fault ≡ member_of size values (after is_gap text) = sym (ap (λ (xs : List ℕ). member_of size values (after is_gap xs)) prefix ∙ here) in
    ap (λ (i : ℕ). members_of i size values text) k.1 ∙ members_fault k.0 size values text (after is_gap text) refl fault some fails
tells (m ∷ ms) n size values text rest fault h prefix fresh due here =
    let k = one_more (length text) n h in
    let more = prefix.0 in
    let next = kept (known m.0) m.1 values in
    let less : suc (length more) < length text = shorter_tail m text (44 ∷ more) prefix.1 in
    let j = one_more (length more) k.0 (omega (arith, k.1, h, less)) in
    ap (λ (i : ℕ). members_of i size values text) k.1
    ∙ one_member k.0 size values m text (44 ∷ more) prefix.1 refl fresh.0
    ∙ ap (λ (i : ℕ). members_of i size next (44 ∷ more)) j.1
    ∙ members_comma j.0 size next more
    ∙ ap (λ (i : ℕ). members_of i size next more) (sym j.1)
    ∙ tells ms k.0 size next more rest fault (omega (arith, k.1, h, less)) prefix.2 fresh.1 due here

pub tells_faults : (size : ℕ) (text : List ℕ) (fault : DigestFault) → IsFirstFault size text fault → list_of size text ≡ Err fault
tells_faults size text fault f = tells f.members (length text + 1) size nothing text f.rest fault (omega arith) f.prefix f.distinct f.due f.here

-- what a fault has to be
fault_or : {A : Type 0} → DigestFault → Result A DigestFault → DigestFault
fault_or d (Ok x) = d
fault_or d (Err e) = e

same_fault : {A B : Type 0} (d e : DigestFault) → IsSameAnswer {A = B} (Err d) (Err e) → IsSameAnswer {A = A} (Err d) (Err e)
unfolding fault_or
same_fault d e h = ap Err (ap (fault_or d) h)

bind_err : {A B : Type 0} (r : Result A DigestFault) (f : A → Result B DigestFault) (e : DigestFault) → (r >>= f) ≡ Err e → (r ≡ Err e) ⊎ ((x : A) × (r ≡ Ok x) × (f x ≡ Err e))
bind_err (Ok x) f e h = inr (x, refl, h)
bind_err (Err d) f e h = inl (same_fault d e h)

-- the fault behind some members
record Faulting (size : ℕ) (values : Values) (text : List ℕ) (fault : DigestFault) : Type 0 where
  members : List Member
  rest : List ℕ
  prefix : IsPrefix members text rest
  distinct : AreNew values members
  due : 0 < length (after is_gap rest)
  here : member_of size (values_with values members) (after is_gap rest) ≡ Err fault

after_member : (n size : ℕ) (values next : Values) (m : Member) (text tail : List ℕ) (fault : DigestFault) → ((rest : List ℕ) → length rest < n → members_of n size next rest ≡ Err fault → Faulting size next rest fault) → length tail < n → BeginsWith m text tail → IsTail tail → IsNew values (known m.0) → kept (known m.0) m.1 values ≡ next → members_of n size next tail ≡ Err fault → Faulting size values text fault
after_member n size values next m text [] fault ih short b t fresh k h = absurd (no_answer fault next (sym h ∙ at_end n size next [] short refl))
after_member n size values next m text (c ∷ rest) fault ih short b t fresh k h =
    let less : suc (length rest) < n = short in
    let j = one_more (length rest) n (omega arith) in
    let begins : BeginsWith m text (44 ∷ rest) = subst (λ (d : ℕ). BeginsWith m text (d ∷ rest)) t b in
    let on : members_of n size next (c ∷ rest) ≡ members_of n size next rest =
    ap (λ (d : ℕ). members_of n size next (d ∷ rest)) t ∙ ap (λ (i : ℕ). members_of i size next (44 ∷ rest)) j.1
    ∙ members_comma j.0 size next rest ∙ ap (λ (i : ℕ). members_of i size next rest) (sym j.1) in
    let l = ih rest (omega arith) (sym on ∙ h) in
    record {
      members = m ∷ l.members;
      rest = l.rest;
      prefix = (rest, begins, l.prefix);
      distinct = (fresh, subst (λ (v : Values). AreNew v l.members) (sym k) l.distinct);
      due = l.due;
      here = subst (λ (v : Values). member_of size (values_with v l.members) (after is_gap l.rest) ≡ Err fault) (sym k) l.here;
    }

faulting : (n size : ℕ) (values : Values) (text : List ℕ) (fault : DigestFault) → length text < n → members_of n size values text ≡ Err fault → Faulting size values text fault
faulting zero size values text fault short h = absurd (omega arith)
faulting (suc n) size values text fault short h =
    let list = after is_gap text in
    ⊎_elim
    (λ (gone : eqb (length list) 0 ≡ true).
    let none : length list ≡ 0 = grind (arith, nat_tests) in
    absurd (no_answer fault values (sym h ∙ members_end n size values text list refl none)))
    (λ (there : eqb (length list) 0 ≡ false).
    let some : length list ≢ 0 = grind (arith, nat_tests) in
    ⊎_elim
    (λ (here : member_of size values list ≡ Err fault).
    record { members = []; rest = text; prefix = refl; distinct = tt; due = omega (arith, some); here = here })
    (λ (next : (r : Values × List ℕ) × (member_of size values list ≡ Ok r) × (members_of n size r.0 r.1 ≡ Err fault)).
    let r = next.0 in
    let m = member_sound size values list r next.1 in
    let begins = begins_with values text r.0 r.1 m in
    after_member n size values r.0 m.m text r.1 fault (λ rest less k. faulting n size r.0 rest fault less k) (omega (arith, shorter_tail m.m text r.1 begins)) begins m.is_tail m.fresh m.kept_value next.2)
    (bind_err (member_of size values list) (λ m. members_of n size m.0 m.1) fault (sym (goes_on n size values text list refl (member_of size values list) some refl) ∙ h)))
    (cases_Bool (eqb (length list) 0))

pub tells_nothing_else : (size : ℕ) (text : List ℕ) (fault : DigestFault) → list_of size text ≡ Err fault → IsFirstFault size text fault
tells_nothing_else size text fault h =
    let f = faulting (length text + 1) size nothing text fault (omega arith) h in
    record { members = f.members; rest = f.rest; prefix = f.prefix; distinct = f.distinct; due = f.due; here = f.here }
