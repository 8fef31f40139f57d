-- A set of keys and names, and the rows that it represents.
use Rattle.std.proofs.Common.{◌≡◌, ◌++◌, ℕ, List, [], ◌∷◌, Bool, true, false, ◌&&◌, ◌||◌, bytes_eq, refl, sym, ap, ap₂, ◌∙◌, is_eq, Less, Equal, Greater, Ordering, IsTrue, IfOk, Result, Ok, Err}
use Rattle.std.specs.List.{list_any}
use Rattle.std.specs.Ordering.{nat_cmp, ordering_then}
use Rattle.std.specs.Cmp.Lexicographic.{slice_cmp}
use Rattle.std.specs.BTreeSet.{insert_key}
use Rattle.store_table.specs.Rows.{TableRow, is_row_named}
use Rattle.store_table.specs.Seen.{Pair, pair_cmp, has_pair, HasSeen}
use Rattle.std.proofs.lemmas.Cmp.{nat_list_eq_equiv}
use Rattle.std.proofs.lemmas.Map.Text.{is_eq-slice_cmp}

then_eq : (x y : Ordering) → is_eq (ordering_then x y) ≡ is_eq x && is_eq y
then_eq Less y = refl
then_eq Equal y = refl
then_eq Greater y = refl

pub pair_test : (x y : Pair) → is_eq (pair_cmp x y) ≡ bytes_eq x.0.items y.0.items && bytes_eq x.1.items y.1.items
pair_test x y =
    then_eq (slice_cmp nat_cmp x.0.items y.0.items) (slice_cmp nat_cmp x.1.items y.1.items) ∙ ap₂ (λ p q. p && q) (is_eq-slice_cmp x.0.items y.0.items) (is_eq-slice_cmp x.1.items y.1.items)

-- whether the set has a key
pub contains_is : (x : Pair) (keys : List Pair) → list_any (λ y. is_eq (pair_cmp x y)) keys ≡ has_pair keys x.1.items x.0.items
contains_is x [] = refl
contains_is x (y ∷ keys) = ap₂ (λ p q. p || q) (pair_test x y) (contains_is x keys)

pub and_swap : (a b : Bool) → a && b ≡ b && a
and_swap true true = refl
and_swap true false = refl
and_swap false true = refl
and_swap false false = refl

pub or_swap : (a b c : Bool) → a || (b || c) ≡ b || (a || c)
or_swap true true c = refl
or_swap true false c = refl
or_swap false true c = refl
or_swap false false c = refl

-- a key that is not there yet
pub inserted : (x : Pair) (keys : List Pair) (c k : List ℕ) → list_any (λ y. is_eq (pair_cmp x y)) keys ≡ false
    → has_pair (insert_key pair_cmp keys x) c k ≡ (bytes_eq k x.0.items && bytes_eq c x.1.items) || has_pair keys c k
inserted x [] c k new = refl
inserted x (y ∷ keys) c k new = go (pair_cmp x y) refl (λ absent. inserted x keys c k absent)
  where
    here : Pair → Bool
    here p = bytes_eq k p.0.items && bytes_eq c p.1.items

    go : (o : Ordering) → pair_cmp x y ≡ o → (list_any (λ z. is_eq (pair_cmp x z)) keys ≡ false → has_pair (insert_key pair_cmp keys x) c k ≡ here x || has_pair keys c k)
        → has_pair (insert_key pair_cmp (y ∷ keys) x) c k ≡ here x || has_pair (y ∷ keys) c k
    go Less e more = rw e refl
    go Equal e more = absurd (let t = rw e at new in cc)
    go Greater e more = rw e (ap (λ b. here y || b) (more (let t = rw e at new in t)) ∙ or_swap (here y) (here x) (has_pair keys c k))

any_last : (p : TableRow → Bool) (docs : List TableRow) (d : TableRow) → list_any p (docs ++ d ∷ []) ≡ p d || list_any p docs
any_last p [] d = refl
any_last p (e ∷ docs) d = ap (λ b. p e || b) (any_last p docs d) ∙ or_swap (p e) (p d) (list_any p docs)

-- one more row
pub seen_more : (old new : List Pair) (docs : List TableRow) (d : TableRow) → HasSeen old docs → ((c k : List ℕ) → has_pair new c k ≡ (bytes_eq c d.coll && bytes_eq k d.idkey) || has_pair old c k) → HasSeen new (docs ++ d ∷ [])
seen_more old new docs d h added c k =
    added c k ∙ ap₂ (λ p q. p || q) (ap₂ (λ p q. p && q) (nat_list_eq_equiv.symm c d.coll) (nat_list_eq_equiv.symm k d.idkey)) (h c k) ∙ sym (any_last (is_row_named c k) docs d)

pub ok_const : {E P : Type 0} (r : Result Bool E) → P → IfOk r (λ good. IsTrue good → P)
ok_const (Ok b) p = λ _. p
ok_const (Err e) p = tt
