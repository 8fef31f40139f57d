-- Pairs that were sorted by their keys are the members of the document in order.
use Rattle.std.proofs.Common.{◌≡◌, ℕ, zero, suc, ◌+◌, ◌≤◌, List, [], ◌∷◌, map, get_or, Bool, true, false, cond, Option, Some, None, bytes_eq, String, Global, string_bytes, refl, ap, ◌∙◌, sym, subst, arith}
use Rattle.std.specs.Cmp.Lexicographic.{slice_cmp}
use Rattle.std.specs.List.{All, IsDistinct, sum_by}
use Rattle.std.specs.List.Sorted.{IsPermutation, IsSortedByKey}
use Rattle.std.specs.Map.{keys_of}
use Rattle.std.specs.Option.{option_map}
use Rattle.std.specs.Ordering.{nat_cmp, is_lt}
use Rattle.std.specs.declared.cmp.Ordering.{Ordering}
use Rattle.std.specs.declared.cmp.Ordering.TheVariants.{Less, Equal, Greater}
use Rattle.std.proofs.lemmas.List.Sorted.{IsPermutation-map, IsPermutation-sym, All-permutation, sum_by-IsPermutation}
use Rattle.std.proofs.lemmas.List.Sums.{sum_by-cons}
use Rattle.bson_base.specs.Value.{Value}
use Rattle.bson_model.specs.Keyed.{Key, get}
use Rattle.bson_model.specs.Rest.{owned_member}
use Rattle.bson_model.specs.View.{members_of}
use Rattle.bson_model.specs.declared.bson.Bson.{Bson}
use Rattle.bson_model.proofs.EqualLemmas.{look_up-members_of}
use Rattle.bson_meaning.specs.Meaning.{asc, asc_members}
use Rattle.bson_meaning.specs.Pairs.{sorted_pair}
use Rattle.bson_meaning.proofs.OrderLemmas.{Order, tied, turned, IsAscending, above_more, none_above, ascending_asc, same_members, look_up-asc}
use Rattle.bson_meaning.proofs.PutLemmas.{KeysOnce, keys_once, once_changed, get_changed}
use Rattle.bson_base.proofs.MemberLemmas.{equal_keys, same_key}

abbrev Pairs : Type 0
Pairs = List (Key × Value)

-- no key is below the one before it
abbrev Rises : Pairs → Type 0
Rises [] = Unit {0}
Rises (p ∷ []) = Unit {0}
Rises (p ∷ q ∷ ps) = (is_lt (Order q.0 p.0) ≡ false) × Rises (q ∷ ps)

from_sort : (xs : List (String Global × Bson)) → IsSortedByKey (λ p. string_bytes p.0) (slice_cmp nat_cmp) xs → Rises (map owned_member xs)
from_sort [] h = tt
from_sort (x ∷ []) h = tt
from_sort (x ∷ y ∷ xs) h = (h 0 x (omega arith) (omega arith), from_sort (y ∷ xs) later)
  where
    later : IsSortedByKey (λ p. string_bytes p.0) (slice_cmp nat_cmp) (y ∷ xs)
    later k d p q =
        let e : suc k + 1 ≡ suc (k + 1) = omega arith in
        subst (λ n. is_lt (Order (string_bytes (get_or (x ∷ y ∷ xs) n d).0) (string_bytes (get_or (y ∷ xs) k d).0)) ≡ false) e (h (suc k) d (omega arith) (omega arith))

-- ---- how often a key occurs

abbrev one_at : Key → Key × Value → ℕ
one_at k p = cond (bytes_eq k p.0) 1 0

abbrev count : Key → Pairs → ℕ
count k ps = sum_by (one_at k) ps

no_count : (k : Key) (ps : Pairs) → get k ps ≡ None → count k ps ≡ 0
no_count k [] h = refl
no_count k (p ∷ ps) h = by (no_count k ps) (bytes_eq k p.0) refl h
  where
    by : (get k ps ≡ None → count k ps ≡ 0) → (b : Bool) → bytes_eq k p.0 ≡ b → cond b (Some p.1) (get k ps) ≡ None → count k (p ∷ ps) ≡ 0
    by more true e f = cc
    by more false e f = sum_by-cons (one_at k) p ps ∙ ap (λ b. cond b 1 0 + count k ps) e ∙ omega (arith, more f)

at_most_one : (k : Key) (ps : Pairs) → KeysOnce ps → count k ps ≤ 1
at_most_one k [] h = omega arith
at_most_one k (p ∷ ps) h = by (at_most_one k ps h.1) (bytes_eq k p.0) refl
  where
    by : count k ps ≤ 1 → (b : Bool) → bytes_eq k p.0 ≡ b → count k (p ∷ ps) ≤ 1
    by more true e =
        let same : k ≡ p.0 = equal_keys k p.0 e in
        let none : count k ps ≡ 0 = no_count k ps (ap (λ l. get l ps) same ∙ h.0) in
        let one : one_at k p ≡ 1 = ap (λ b. cond b 1 0) e in
        omega (arith, sum_by-cons (one_at k) p ps, one, none)
    by more false e =
        let zero' : one_at k p ≡ 0 = ap (λ b. cond b 1 0) e in
        omega (arith, sum_by-cons (one_at k) p ps, zero', more)

own_count : (p : Key × Value) → one_at p.0 p ≡ 1
own_count p = ap (λ b. cond b 1 0) (same_key p.0)

-- ---- strictly ascending

strictly : (p q : Key × Value) (ps : Pairs) → is_lt (Order q.0 p.0) ≡ false → ((k : Key) → count k (p ∷ q ∷ ps) ≤ 1) → Order p.0 q.0 ≡ Less
strictly p q ps h once = by (Order p.0 q.0) refl
  where
    by : (o : Ordering) → Order p.0 q.0 ≡ o → o ≡ Less
    by Less e = refl
    by Equal e =
        let same : p.0 ≡ q.0 = tied p.0 q.0 e in
        let second : one_at p.0 q ≡ 1 = ap (λ k. one_at k q) same ∙ own_count q in
        absurd (omega (arith, once p.0, sum_by-cons (one_at p.0) p (q ∷ ps), sum_by-cons (one_at p.0) q ps, own_count p, second))
    by Greater e = let t : true ≡ false = sym (ap is_lt (turned p.0 q.0 e)) ∙ h in cc

ascending_of : (ps : Pairs) → Rises ps → ((k : Key) → count k ps ≤ 1) → IsAscending (members_of ps)
ascending_of [] h once = tt
ascending_of (p ∷ []) h once = (tt, tt)
ascending_of (p ∷ q ∷ ps) h once =
    let less = strictly p q ps h.0 once in
    let rest = ascending_of (q ∷ ps) h.1 (λ k. omega (arith, once k, sum_by-cons (one_at k) p (q ∷ ps))) in
    ((less, above_more p.0 q.0 (members_of ps) less rest.0), rest)

once_of : (ps : Pairs) → IsAscending (members_of ps) → KeysOnce ps
once_of [] h = tt
once_of (p ∷ ps) h = (sym (look_up-members_of p.0 ps) ∙ none_above p.0 (members_of ps) h.0, once_of ps h.1)

-- ---- the same look-ups

-- each pair is found under its key
own : (ps : Pairs) → KeysOnce ps → All (λ p. get p.0 ps ≡ Some p.1) ps
own [] h i d below = absurd (omega arith)
own (p ∷ ps) h zero d below = ap (λ b. cond b (Some p.1) (get p.0 ps)) (same_key p.0)
own (p ∷ ps) h (suc i) d below = by (get_or ps i d) (own ps h.1 i d (omega arith))
  where
    by : (r : Key × Value) → get r.0 ps ≡ Some r.1 → get r.0 (p ∷ ps) ≡ Some r.1
    by r e = at (bytes_eq r.0 p.0) refl
      where
        at : (b : Bool) → bytes_eq r.0 p.0 ≡ b → cond b (Some p.1) (get r.0 ps) ≡ Some r.1
        at true f = let same : r.0 ≡ p.0 = equal_keys r.0 p.0 f in let none : None ≡ Some r.1 = sym h.0 ∙ ap (λ k. get k ps) (sym same) ∙ e in cc
        at false f = e

-- what holds of each pair holds of one that is found
of_found : (P : Key × Value → Type 0) (ps : Pairs) (k : Key) (v : Value) → All P ps → get k ps ≡ Some v → P (k, v)
of_found P [] k v h e = cc
of_found P (p ∷ ps) k v h e = by (of_found P ps k v (λ i d below. h (suc i) d (omega arith))) (bytes_eq k p.0) refl e
  where
    by : (get k ps ≡ Some v → P (k, v)) → (b : Bool) → bytes_eq k p.0 ≡ b → cond b (Some p.1) (get k ps) ≡ Some v → P (k, v)
    by more true f g =
        let key : p.0 ≡ k = sym (equal_keys k p.0 f) in
        let value : p.1 ≡ v = cc in
        subst (λ l. P (l, v)) key (subst (λ w. P (p.0, w)) value (h 0 p (omega arith)))
    by more false f g = more g

-- pairs in another order have the same under each key
pub found_alike : (ps qs : Pairs) → IsPermutation ps qs → KeysOnce ps → KeysOnce qs → (k : Key) → get k qs ≡ get k ps
found_alike ps qs moved once once' k = by (get k ps) (get k qs) refl refl
  where
    there : All (λ p. get p.0 qs ≡ Some p.1) ps
    there = All-permutation (λ p. get p.0 qs ≡ Some p.1) qs ps (IsPermutation-sym ps qs moved) (own qs once')

    back : All (λ p. get p.0 ps ≡ Some p.1) qs
    back = All-permutation (λ p. get p.0 ps ≡ Some p.1) ps qs moved (own ps once)

    by : (o r : Option Value) → get k ps ≡ o → get k qs ≡ r → get k qs ≡ get k ps
    by (Some v) r e f = of_found (λ p. get p.0 qs ≡ Some p.1) ps k v there e ∙ sym e
    by None (Some w) e f = f ∙ sym (of_found (λ p. get p.0 ps ≡ Some p.1) qs k w back f)
    by None None e f = f ∙ sym e

-- ---- together

-- what a sort by keys makes of pairs: their keys are distinct, and they are the members in order
pub sorted_once : (xs ys : List (String Global × Bson)) → IsPermutation xs ys → IsSortedByKey (λ p. string_bytes p.0) (slice_cmp nat_cmp) ys → KeysOnce (map owned_member xs)
    → IsAscending (members_of (map owned_member ys))
sorted_once xs ys moved sorted once =
    let moved' = IsPermutation-map owned_member xs ys moved in
    ascending_of (map owned_member ys) (from_sort ys sorted)
    (λ k. omega (arith, sum_by-IsPermutation (one_at k) (map owned_member xs) (map owned_member ys) moved', at_most_one k (map owned_member xs) once))

pub keys_stay : (ys : List (String Global × Bson)) → IsAscending (members_of (map owned_member ys)) → KeysOnce (map owned_member ys)
keys_stay ys h = once_of (map owned_member ys) h

pub sorted_members : (ps : Pairs) (xs ys : List (String Global × Bson)) → IsPermutation xs ys → map owned_member xs ≡ map sorted_pair ps → IsDistinct bytes_eq (keys_of ps)
    → IsAscending (members_of (map owned_member ys)) → members_of (map owned_member ys) ≡ asc_members (members_of ps)
sorted_members ps xs ys moved e distinct up =
    let once = subst KeysOnce (sym e) (once_changed asc ps (keys_once ps distinct)) in
    same_members _ _ up (ascending_asc (members_of ps))
    (λ q. look_up-members_of q (map owned_member ys)
    ∙ found_alike (map owned_member xs) (map owned_member ys) (IsPermutation-map owned_member xs ys moved) once (once_of (map owned_member ys) up) q
    ∙ ap (get q) e ∙ get_changed asc q ps ∙ ap (option_map asc) (sym (look_up-members_of q ps)) ∙ sym (look_up-asc q (members_of ps)))
