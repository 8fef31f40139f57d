-- A set of keys, and the first key that is there already.
use Rattle.std.proofs.Common.{◌≡◌, ℕ, List, [], ◌∷◌, Bool, true, false, ◌||◌, refl, ap, ap₂, ◌∙◌, is_eq, Ordering, Less, Equal, Greater, Bor}
use Rattle.std.specs.List.{list_any}
use Rattle.std.specs.Str.{bytes_eq}
use Rattle.std.specs.Ordering.{nat_cmp}
use Rattle.std.specs.Cmp.Lexicographic.{slice_cmp}
use Rattle.std.specs.BTreeSet.{insert_key}
use Rattle.std.proofs.lemmas.Map.Text.{is_eq-slice_cmp}

abbrev pub key_cmp : Bor (List ℕ) → Bor (List ℕ) → Ordering
key_cmp x y = slice_cmp nat_cmp x.now y.now

-- whether the set has a key
pub contains_is : (x : Bor (List ℕ)) (keys : List (Bor (List ℕ))) → list_any (λ y. is_eq (key_cmp x y)) keys ≡ list_any (λ y. bytes_eq x.now y.now) keys
contains_is x [] = refl
contains_is x (y ∷ keys) = ap₂ (λ p q. p || q) (is_eq-slice_cmp x.now y.now) (contains_is x keys)

or_swap : (a b c : Bool) → a || (b || c) ≡ b || (a || c)
or_swap true true c = refl
or_swap true false c = refl
or_swap false true c = refl
or_swap false false c = refl

-- a key that is not there yet
pub inserted : (x : Bor (List ℕ)) (keys : List (Bor (List ℕ))) (k : List ℕ) → list_any (λ y. is_eq (key_cmp x y)) keys ≡ false
    → list_any (λ y. bytes_eq k y.now) (insert_key key_cmp keys x) ≡ bytes_eq k x.now || list_any (λ y. bytes_eq k y.now) keys
inserted x [] k new = refl
inserted x (y ∷ keys) k new = go (key_cmp x y) refl (λ absent. inserted x keys k absent)
  where
    here : Bor (List ℕ) → Bool
    here p = bytes_eq k p.now

    go : (o : Ordering) → key_cmp x y ≡ o
        → (list_any (λ z. is_eq (key_cmp x z)) keys ≡ false → list_any here (insert_key key_cmp keys x) ≡ here x || list_any here keys)
        → list_any here (insert_key key_cmp (y ∷ keys) x) ≡ here x || list_any here (y ∷ keys)
    go Less e more = rw e refl
    go Equal e more = absurd (let t = rw e at new in cc)
    go Greater e more = rw e (ap (λ b. here y || b) (more (let t = rw e at new in t)) ∙ or_swap (here y) (here x) (list_any here keys))
