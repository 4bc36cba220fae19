-- The pairs of a cache, and the nonces that they stand for.
use Rattle.std.proofs.Common.{◌≡◌, ℕ, zero, suc, ◌-◌, ◌≤◌, Bool, true, false, cond, List, [], ◌∷◌, ◌++◌, length, take}
use Rattle.std.proofs.Common.{drop, Option, Some, None, Vec, Global, refl, sym, ap, ◌∙◌, subst, ⊎_elim, arith}
use Rattle.std.proofs.Common.{length-append}
use Rattle.std.specs.Str.{bytes_eq}
use Rattle.std.specs.Map.{lookup, lookup_entry, remove_entry, set_value}
use Rattle.std.proofs.lemmas.Bool.{cases_Bool, cond-true, cond-false}
use Rattle.std.proofs.lemmas.List.{drop-append-le, drop_all, length-drop}
use Rattle.std.proofs.lemmas.Map.{length-set_value}
use Rattle.std.specs.Option.{option_map_or}
use Rattle.lru.specs.LruCache.{LruCache, lru_cache, put_entries}
use Rattle.ely_digest.specs.Nonces.{Issued, Nonces, count_in, AreDistinct, newest, recounted, last_count, with_nonce}
use Rattle.ely_digest.specs.Nonces.{with_count}
use Rattle.ely_digest.specs.Kept.{oldest_first, nonces_of, IsTable}
use Rattle.ely_digest.proofs.NonceLemmas.{same_bytes, bytes_same, found_last, found_before, distinct_prefix}
use Rattle.ely_digest.proofs.NonceLemmas.{distinct_push, distinct_drop, none_drop, distinct_recounted}
use Rattle.ely_digest.proofs.NonceLemmas.{unknown_recounted, recounted_push}

-- what a cache holds, and the test by which a look-up goes
abbrev pub Pairs : Type 0
Pairs = List (Vec ℕ Global × ℕ)

abbrev pub is_key : List ℕ → Vec ℕ Global → Bool
is_key q key = bytes_eq q key.items

abbrev entry_of : Vec ℕ Global × ℕ → List ℕ × ℕ
entry_of p = (p.0.items, p.1)

-- one nonce a pair
pub length-oldest_first : (ps : Pairs) → length (oldest_first ps) ≡ length ps
length-oldest_first [] = refl
length-oldest_first (p ∷ ps) = let r = length-oldest_first ps in
    let both = length-append (oldest_first ps) (entry_of p ∷ []) in omega (arith, r, both)

-- a look-up finds the nonce's last count
pub lookup-oldest_first : (ps : Pairs) (q : List ℕ) → AreDistinct (oldest_first ps)
    → lookup (is_key q) ps ≡ count_in (oldest_first ps) q
lookup-oldest_first [] q a = refl
lookup-oldest_first (p ∷ ps) q a =
    let prefix = distinct_prefix (oldest_first ps) (entry_of p) a in
    let same = lookup-oldest_first ps q prefix.0 in
    ⊎_elim
    (λ (t : bytes_eq q p.0.items ≡ true).
    let none : count_in (oldest_first ps) q ≡ None = subst (λ (n : List ℕ). count_in (oldest_first ps) n ≡ None) (sym
    (same_bytes q p.0.items t)) prefix.1 in
    let here : cond (bytes_eq q p.0.items) (Some p.1) None ≡ Some p.1 = cond-true (bytes_eq q p.0.items) (Some p.1) None t in
    cond-true (bytes_eq q p.0.items) (Some p.1) (lookup (is_key q) ps) t
    ∙ sym (found_last (oldest_first ps) (entry_of p) q none ∙ here))
    (λ (f : bytes_eq q p.0.items ≡ false).
    cond-false (bytes_eq q p.0.items) (Some p.1) (lookup (is_key q) ps) f ∙ (same
    ∙ sym (found_before (oldest_first ps) (entry_of p) q f)))
    (cases_Bool (bytes_eq q p.0.items))

-- a value that is written in place is the nonce's other count
pub set-oldest_first : (ps : Pairs) (q : List ℕ) (w : ℕ) → AreDistinct (oldest_first ps)
    → oldest_first (set_value (is_key q) ps w) ≡ recounted (oldest_first ps) q w
set-oldest_first [] q w a = refl
set-oldest_first (p ∷ ps) q w a =
    let prefix = distinct_prefix (oldest_first ps) (entry_of p) a in
    let same = set-oldest_first ps q w prefix.0 in
    let last = recounted_push (oldest_first ps) (entry_of p) q w in
    ⊎_elim
    (λ (t : bytes_eq q p.0.items ≡ true).
    let none : count_in (oldest_first ps) q ≡ None = subst (λ (n : List ℕ). count_in (oldest_first ps) n ≡ None) (sym
    (same_bytes q p.0.items t)) prefix.1 in
    ap oldest_first (cond-true (bytes_eq q p.0.items) ((p.0, w) ∷ ps) (p ∷ set_value (is_key q) ps w) t)
    ∙ (ap (λ (es : Issued). es ++ (p.0.items, w) ∷ []) (sym (unknown_recounted (oldest_first ps) q w none))
    ∙ (ap (λ (e : List ℕ × ℕ). recounted (oldest_first ps) q w ++ e ∷ []) (sym (cond-true (bytes_eq q p.0.items)
    (p.0.items, w) (entry_of p) t)) ∙ sym last)))
    (λ (f : bytes_eq q p.0.items ≡ false).
    ap oldest_first (cond-false (bytes_eq q p.0.items) ((p.0, w) ∷ ps) (p ∷ set_value (is_key q) ps w) f)
    ∙ (ap (λ (es : Issued). es ++ entry_of p ∷ []) same
    ∙ (ap (λ (e : List ℕ × ℕ). recounted (oldest_first ps) q w ++ e ∷ []) (sym (cond-false (bytes_eq q p.0.items)
    (p.0.items, w) (entry_of p) f)) ∙ sym last)))
    (cases_Bool (bytes_eq q p.0.items))

-- the newest pairs are the newest nonces
pub take-oldest_first : (n : ℕ) (ps : Pairs) → oldest_first (take n ps) ≡ drop (length ps - n) (oldest_first ps)
take-oldest_first zero ps = sym (drop_all (length ps - zero) (oldest_first ps) (omega (arith, length-oldest_first ps)))
take-oldest_first (suc n) [] = sym (drop_all (zero - suc n) [] (omega arith))
take-oldest_first (suc n) (p ∷ ps) =
    let all = length-oldest_first ps in
    let fewer : length ps - n ≡ suc (length ps) - suc n = omega arith in
    ap (λ (es : Issued). es ++ entry_of p ∷ []) (take-oldest_first n ps)
    ∙ (sym (drop-append-le (length ps - n) (oldest_first ps) (entry_of p ∷ []) (omega (arith, all)))
    ∙ ap (λ (k : ℕ). drop k (oldest_first ps ++ entry_of p ∷ [])) fewer)

-- a nonce that is issued stands behind the newest of the others
pushed_is : (limit : ℕ) (es : Issued) (n : List ℕ) → 1 ≤ limit
    → newest limit (es ++ (n, 0) ∷ []) ≡ drop (length es - (limit - 1)) es ++ (n, 0) ∷ []
pushed_is limit es n some =
    let all = length-append es ((n, 0) ∷ []) in
    let left : length (es ++ (n, 0) ∷ []) - limit ≡ length es - (limit - 1) = omega (arith, all) in
    ap (λ (k : ℕ). drop k (es ++ (n, 0) ∷ [])) left ∙ drop-append-le (length es - (limit - 1)) es ((n, 0) ∷ []) (omega arith)

-- a nonce that is issued begins at 0
pub begins : (t : Nonces) (n : List ℕ) → 1 ≤ t.limit → last_count t n ≡ None → last_count (with_nonce t n) n ≡ Some 0
begins t n some none =
    let k = length t.issued - (t.limit - 1) in
    ap (λ (es : Issued). count_in es n) (pushed_is t.limit t.issued n some)
    ∙ (found_last (drop k t.issued) (n, 0) n (none_drop k t.issued n none)
    ∙ cond-true (bytes_eq n n) (Some 0) None (bytes_same n))

-- no nonce comes twice then
distinct_nonce : (t : Nonces) (n : List ℕ) → 1 ≤ t.limit → AreDistinct t.issued → last_count t n ≡ None
    → AreDistinct (with_nonce t n).issued
distinct_nonce t n some distinct none =
    let k = length t.issued - (t.limit - 1) in
    subst AreDistinct (sym (pushed_is t.limit t.issued n some)) (distinct_push (drop k t.issued) (n, 0)
    (distinct_drop k t.issued distinct) (none_drop k t.issued n none))

-- where a look-up finds no value there is no entry
none_entry : {K X : Type 0} (test : K → Bool) (es : List (K × X)) → lookup test es ≡ None → lookup_entry test es ≡ None
none_entry test [] h = refl
none_entry test (e ∷ es) h = ⊎_elim
    (λ (t : test e.0 ≡ true). let found : Some e.1 ≡ None = sym (cond-true (test e.0) (Some e.1) (lookup test es) t) ∙ h in cc)
    (λ (f : test e.0 ≡ false).
    cond-false (test e.0) (Some e) (lookup_entry test es) f
    ∙ none_entry test es (sym (cond-false (test e.0) (Some e.1) (lookup test es) f) ∙ h))
    (cases_Bool (test e.0))

abbrev pub Cache : Type 0
Cache = LruCache (Vec ℕ Global) ℕ

abbrev pub same_key : Vec ℕ Global → Vec ℕ Global → Bool
same_key x y = bytes_eq x.items y.items

-- the cache after a key is put in, and after a value is written in place
abbrev pub put_in : Cache → Vec ℕ Global → Cache
put_in c key = lru_cache (put_entries same_key c key 0) c.cap

abbrev pub set_in : Cache → List ℕ → ℕ → Cache
set_in c q w = lru_cache (set_value (is_key q) c.entries w) c.cap

-- what is found in a cache is the last count
pub found_is : (c : Cache) (q : List ℕ) → IsTable c → lookup (is_key q) c.entries ≡ last_count (nonces_of c) q
found_is c q t = lookup-oldest_first c.entries q t.distinct

-- where a new key is put in, its nonce is issued
pub put_is : (c : Cache) (key : Vec ℕ Global) → IsTable c → lookup (is_key key.items) c.entries ≡ None
    → nonces_of (put_in c key) ≡ with_nonce (nonces_of c) key.items
put_is c key t none =
    let es = c.entries in
    let before : oldest_first (take (c.cap - 1) es) ≡ drop (length (oldest_first es) - (c.cap - 1)) (oldest_first es) =
    take-oldest_first (c.cap - 1) es ∙ ap (λ (k : ℕ). drop (k - (c.cap - 1)) (oldest_first es)) (sym
    (length-oldest_first es)) in
    let after : oldest_first (put_entries same_key c key 0) ≡ newest c.cap (oldest_first es ++ (key.items, 0) ∷ []) =
    ap (λ (o : Option (Vec ℕ Global × ℕ)). oldest_first (option_map_or (λ e. (e.0, 0) ∷ remove_entry (same_key key) es) o
    ((key, 0) ∷ take (c.cap - 1) es))) (none_entry (same_key key) es none)
    ∙ (ap (λ (fs : Issued). fs ++ (key.items, 0) ∷ []) before ∙ sym (pushed_is c.cap (oldest_first es) key.items t.some)) in
    ap (λ (issued : Issued). record (nonces_of c) { issued = issued }) after

-- and what is kept stays a table
pub IsTable-put : (c : Cache) (key : Vec ℕ Global) → IsTable c → lookup (is_key key.items) c.entries ≡ None
    → IsTable (put_in c key)
IsTable-put c key t none =
    let es = oldest_first c.entries in
    let after = put_entries same_key c key 0 in
    let is = ap (λ (table : Nonces). table.issued) (put_is c key t none) in
    let absent : last_count (nonces_of c) key.items ≡ None = sym (found_is c key.items t) ∙ none in
    let k = length es - (c.cap - 1) in
    let whole : length (oldest_first after) ≡ length (drop k es ++ (key.items, 0) ∷ []) = ap length (is
    ∙ pushed_is c.cap es key.items t.some) in
    record {
      some = t.some;
      within = omega (
        arith,
        t.some,
        t.within,
        whole,
        length-oldest_first after,
        length-oldest_first c.entries,
        length-append
            (drop k es) ((key.items, 0) ∷ []),
        length-drop k es,
      );
      distinct = subst AreDistinct (sym is) (distinct_nonce (nonces_of c) key.items t.some t.distinct absent);
    }

-- where a value is written in place, a count is spent
pub set_is : (c : Cache) (q : List ℕ) (w : ℕ) → IsTable c → nonces_of (set_in c q w) ≡ with_count (nonces_of c) q w
set_is c q w t = ap (λ (issued : Issued). record (nonces_of c) { issued = issued }) (set-oldest_first c.entries q w t.distinct)

-- and what is kept stays a table
pub IsTable-set : (c : Cache) (q : List ℕ) (w : ℕ) → IsTable c → IsTable (set_in c q w)
IsTable-set c q w t = record {
  some = t.some;
  within = omega (arith, t.within, length-set_value (is_key q) c.entries w);
  distinct = subst AreDistinct (sym (set-oldest_first c.entries q w t.distinct)) (distinct_recounted
      (oldest_first c.entries) q w t.distinct);
}
