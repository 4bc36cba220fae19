-- How a list is read, member by member.
use Rattle.std.proofs.Common.{◌≡◌, ◌≢◌, ℕ, zero, suc, ◌+◌, ◌<◌, ◌≤◌, true, false, List, length, Result, Ok, Err, refl, sym, ap, ◌∙◌, arith, eqb}
use Rattle.std.proofs.lemmas.Bool.{cond-true, cond-false}
use Rattle.std.proofs.lemmas.Bool.Decides.{nat_tests}
use Rattle.std.specs.Result.{IsErrAnd}
use Rattle.ely_base.specs.Refused.{◌>>=◌}
use Rattle.ely_digest_msg.specs.Parts.{is_gap, after}
use Rattle.ely_digest_msg.specs.Fields.{Values, nothing}
use Rattle.ely_digest_msg.specs.Members.{member_of, members_of, list_of}
use Rattle.ely_digest_msg.specs.declared.fault.DigestFault.{DigestFault}

module _ (n size : ℕ) (values : Values) (text list : List ℕ) (is : list ≡ after is_gap text) where
  pub members_end : length list ≡ 0 → members_of (suc n) size values text ≡ Ok values
  unfolding members_of
  members_end h =
      let gone : eqb (length (after is_gap text)) 0 ≡ true = rw (sym is) (grind (arith, nat_tests)) in
      cond-true _ _ _ gone

  pub goes_on : (r : Result (Values × List ℕ) DigestFault) → length list ≢ 0 → r ≡ member_of size values list → members_of (suc n) size values text ≡ (r >>= (λ m. members_of n size m.0 m.1))
  unfolding members_of
  goes_on r some h =
      let there : eqb (length (after is_gap text)) 0 ≡ false = rw (sym is) (grind (arith, nat_tests)) in
      cond-false _ _ _ there ∙ ap (λ (xs : List ℕ). member_of size values xs >>= (λ m. members_of n size m.0 m.1)) (sym is) ∙ ap (λ (q : Result (Values × List ℕ) DigestFault). q >>= (λ m. members_of n size m.0 m.1)) (sym h)

  pub members_fault : (e : DigestFault) → length list ≢ 0 → Err e ≡ member_of size values list → members_of (suc n) size values text ≡ Err e
  members_fault e some h = goes_on (Err e) some h

  pub members_next : (next : Values) (rest : List ℕ) → length list ≢ 0 → Ok (next, rest) ≡ member_of size values list → members_of (suc n) size values text ≡ members_of n size next rest
  members_next next rest some h = goes_on (Ok (next, rest)) some h

-- the list is read as far as the rest, and enough members may still come
pub record Reading (size : ℕ) (start : List ℕ) (values : Values) (rest : List ℕ) : Type 0 where
  pub more : ℕ
  pub enough : length rest < more
  pub fits : length rest ≤ size
  pub same : members_of more size values rest ≡ list_of size start

pub begins : (size : ℕ) (text : List ℕ) → length text ≤ size → Reading size text nothing text
begins size text h = record { more = length text + 1; enough = omega arith; fits = h; same = refl }

module _ (size : ℕ) (start : List ℕ) (values : Values) (rest list : List ℕ) (is : list ≡ after is_gap rest) where
  one_more : (n : ℕ) → length rest < n → (k : ℕ) × (n ≡ suc k)
  one_more zero h = absurd (omega arith)
  one_more (suc k) h = (k, refl)

  pub ended : Reading size start values rest → length list ≡ 0 → Ok values ≡ list_of size start
  ended r h =
      let m = one_more r.more r.enough in
      sym (members_end m.0 size values rest list is h) ∙ ap (λ (k : ℕ). members_of k size values rest) (sym m.1) ∙ r.same

  pub refused : (e : DigestFault) → Reading size start values rest → length list ≢ 0 → Err e ≡ member_of size values list → Err e ≡ list_of size start
  refused e r some h =
      let m = one_more r.more r.enough in
      sym (members_fault m.0 size values rest list is e some h) ∙ ap (λ (k : ℕ). members_of k size values rest) (sym m.1) ∙ r.same

  pub read_one : (next : Values) (left : List ℕ) → Reading size start values rest → length list ≢ 0 → Ok (next, left) ≡ member_of size values list → length left < length rest → Reading size start next left
  read_one next left r some h shorter =
      let m = one_more r.more r.enough in
      record {
        more = m.0;
        enough = omega (arith, m.1, r.enough);
        fits = omega (arith, r.fits);
        same = sym (members_next m.0 size values rest list is next left some h) ∙ ap (λ (k : ℕ). members_of k size values rest) (sym m.1) ∙ r.same;
      }

-- what `?` returns
pub handed_on : {T F : Type 0} (r : Result T F) (e : F) → IsErrAnd r (λ f. f ≡ e) → r ≡ Err e
handed_on (Ok x) e h = absurd h
handed_on (Err f) e h = ap Err h
