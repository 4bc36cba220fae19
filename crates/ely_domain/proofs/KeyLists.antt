-- What a cache does to its entries is what is said of its keys.
use Rattle.std.proofs.Common.{◌≡◌, ℕ, zero, suc, ◌-◌, ◌||◌, Bool, true, false, cond, not, List, [], ◌∷◌, map, take, Option, Some, None, refl, sym, ap, ◌∙◌}
use Rattle.std.specs.Prelude.{is_some}
use Rattle.std.specs.Option.{option_map_or}
use Rattle.std.proofs.lemmas.Slice.Eq.{bytes_eq-Decides}
use Rattle.ely_cache.specs.declared.entry.Entry.{Entry}
use Rattle.ely_cache.specs.Codes.{key_of}
use Rattle.ely_cache.specs.Entries.{entry_key, has_key as has_code, entry_of, without, promoted, offered}
use Rattle.ely_cache.proofs.Places.{same_key_of}
use Rattle.ely_domain.specs.Caches.{key_in}
use Rattle.ely_domain.specs.KeptKeys.{Key, same_key, has_key, without_key, used, filled}

-- the code of a key
abbrev pub code_of : Key → List ℕ
code_of key = key_of key.name key.mech

-- keys with one code are one
pub same_code_is : (key other : Key) → code_of key ≡ code_of other → key ≡ other
same_code_is key other is =
    let parts = same_key_of key.name other.name key.mech other.mech is in
    ap (λ n. let k : Key = record { name = n; mech = key.mech } in k) parts.0
    ∙ ap (λ m. let k : Key = record { name = other.name; mech = m } in k) parts.1

-- an entry that is found has the key
found_code : (code : List ℕ) (es : List Entry) (e : Entry) → entry_of code es ≡ Some e → code ≡ entry_key e
found_code code [] e is = absurd cc
found_code code (x ∷ xs) e is = by_test (found_code code xs e) (has_code code x) refl is
  where
    same_Some : {x y : Entry} → Some x ≡ Some y → x ≡ y
    same_Some h = cc

    by_test : (entry_of code xs ≡ Some e → code ≡ entry_key e) → (b : Bool) → has_code code x ≡ b → cond b (Some x) (entry_of code xs) ≡ Some e → code ≡ entry_key e
    by_test later true here h = (bytes_eq-Decides code (entry_key x)).0 here ∙ ap entry_key (same_Some h)
    by_test later false other h = later h

-- so its key is the one that was sought
pub found_key : (key : Key) (es : List Entry) (e : Entry) → entry_of (code_of key) es ≡ Some e → key ≡ key_in e
found_key key es e is = same_code_is key (key_in e) (found_code (code_of key) es e is)

-- a key is kept where an entry is for it
pub has_entry : (key : Key) (es : List Entry) → has_key key (map key_in es) ≡ is_some (entry_of (code_of key) es)
has_entry key [] = refl
has_entry key (e ∷ es) = by_test (has_entry key es) (same_key key (key_in e))
  where
    by_test : has_key key (map key_in es) ≡ is_some (entry_of (code_of key) es) → (b : Bool)
        → (b || has_key key (map key_in es)) ≡ is_some (cond b (Some e) (entry_of (code_of key) es))
    by_test later true = refl
    by_test later false = later

keys_without : (key : Key) (es : List Entry) → map key_in (without (code_of key) es) ≡ without_key key (map key_in es)
keys_without key [] = refl
keys_without key (e ∷ es) = by_test (keys_without key es) (not (same_key key (key_in e)))
  where
    by_test : map key_in (without (code_of key) es) ≡ without_key key (map key_in es) → (b : Bool)
        → map key_in (cond b (e ∷ without (code_of key) es) (without (code_of key) es)) ≡ cond b (key_in e ∷ without_key key (map key_in es)) (without_key key (map key_in es))
    by_test later true = ap (λ (ks : List Key). key_in e ∷ ks) later
    by_test later false = later

-- an entry that is used comes to the front, and so does its key
pub keys_promoted : (key : Key) (es : List Entry) → map key_in (promoted (code_of key) es) ≡ used key (map key_in es)
keys_promoted key es = by_found (entry_of (code_of key) es) refl
  where
    by_found : (o : Option Entry) → entry_of (code_of key) es ≡ o
        → map key_in (option_map_or (λ (e : Entry). e ∷ without (code_of key) es) o es) ≡ used key (map key_in es)
    by_found None is =
        let none : has_key key (map key_in es) ≡ false = has_entry key es ∙ ap is_some is in
        rw none refl
    by_found (Some e) is =
        let there : has_key key (map key_in es) ≡ true = has_entry key es ∙ ap is_some is in
        rw there (
        ap (λ (k : Key). k ∷ map key_in (without (code_of key) es)) (sym (found_key key es e is))
        ∙ ap (λ (ks : List Key). key ∷ ks) (keys_without key es))

map_take : {X Y : Type 0} (f : X → Y) (n : ℕ) (xs : List X) → map f (take n xs) ≡ take n (map f xs)
map_take f zero xs = refl
map_take f (suc n) [] = refl
map_take {Y = Y} f (suc n) (x ∷ xs) = ap (λ (ys : List Y). f x ∷ ys) (map_take f n xs)

-- an entry that is offered comes to the front, and so does its key
pub keys_offered : (limit : ℕ) (e : Entry) (es : List Entry) → map key_in (offered limit e es) ≡ filled limit (key_in e) (map key_in es)
keys_offered limit e es =
    ap (λ (ks : List Key). key_in e ∷ ks)
    (map_take key_in (limit - 1) (without (entry_key e) es) ∙ ap (take (limit - 1)) (keys_without (key_in e) es))
