-- What a comment names is a realm.
use Rattle.std.proofs.Common.{ℕ, suc, ◌≡◌, ◌+◌, ◌≤◌, Bool, true, false, cond, not, eqb, ◌&&◌, List, [], ◌∷◌, take, refl, ap, ◌∙◌, sym, arith}
use Rattle.std.specs.List.{list_all, prefix_len}
use Rattle.std.proofs.lemmas.List.{length-take-le}
use Rattle.std.proofs.lemmas.List.Sums.{prefix_len-le-length}
use Rattle.ely_row.specs.Salts.{is_realm_byte, is_realm_len, is_realm}
use Rattle.ely_propfile.specs.Realms.{is_named_byte}

-- the prefix that passes a test passes a weaker one
prefix_step : (p q : ℕ → Bool) (x : ℕ) (xs : List ℕ) (t : Bool) → (t ≡ true → q x ≡ true) → list_all q (take (prefix_len p xs) xs) ≡ true → list_all q (take (cond t (1 + prefix_len p xs) 0) (x ∷ xs)) ≡ true
prefix_step p q x xs true weaker rest =
    let more : 1 + prefix_len p xs ≡ suc (prefix_len p xs) = omega arith in
    ap (λ n. list_all q (take n (x ∷ xs))) more ∙ ap (λ t. t && list_all q (take (prefix_len p xs) xs)) (weaker refl) ∙ rest
prefix_step p q x xs false weaker rest = refl

prefix_all : (p q : ℕ → Bool) → ((b : ℕ) → p b ≡ true → q b ≡ true) → (xs : List ℕ) → list_all q (take (prefix_len p xs) xs) ≡ true
prefix_all p q weaker [] = refl
prefix_all p q weaker (x ∷ xs) = prefix_step p q x xs (p x) (weaker x) (prefix_all p q weaker xs)

named_byte : (b : ℕ) → is_named_byte b ≡ true → is_realm_byte b ≡ true
named_byte b h = by (is_realm_byte b) refl
  where
    by : (t : Bool) → is_realm_byte b ≡ t → t ≡ true
    by true e = refl
    by false e = sym (ap (λ t. t && not (eqb b 36)) e) ∙ h

pub named_is_realm : (text : List ℕ) → is_realm_len (prefix_len is_named_byte text) ≡ true → is_realm (take (prefix_len is_named_byte text) text) ≡ true
named_is_realm text fits =
    ap (λ n. is_realm_len n && list_all is_realm_byte (take (prefix_len is_named_byte text) text)) (length-take-le (prefix_len is_named_byte text) text (prefix_len-le-length is_named_byte text))
    ∙ ap (λ t. t && list_all is_realm_byte (take (prefix_len is_named_byte text) text)) fits
    ∙ prefix_all is_named_byte is_realm_byte named_byte text

pub fits_len : (n : ℕ) → 1 ≤ n → n ≤ 255 → is_realm_len n ≡ true
fits_len n some most = grind arith
