-- A search that halves what is left of the index.
use Rattle.std.proofs.Common.{◌≡◌, ℕ, zero, suc, ◌+◌, ◌-◌, ◌*◌, ◌/◌, ◌<◌, ◌≤◌, ◌^◌, List, [], ◌∷◌, length, take, drop, slice_get, Some, sym, subst, arith}
use Rattle.std.specs.List.{AllByRecursion}
use Rattle.std.specs.declared.cmp.Ordering.TheVariants.{Less, Equal, Greater}
use Rattle.std.proofs.Math.Nat.{pow-succ'}
use Rattle.std.proofs.lemmas.Option.{slice_get_within}
use Rattle.bson_pairs.proofs.IndexLemmas.{is_sorted-index, above_from, below_to, absent_between, goes_between, same_key}
use Rattle.bson_pairs.specs.Ascending.{key_cmp}
use Rattle.bson_pairs.specs.Index.{index_of, AtMostDigits, GoesAt, IsIndexedAt}
use Rattle.bson_pairs.specs.Keyed.{Key}

-- k is neither before `low` nor at `high` or after it, and `compared` comparisons were made
pub record Searching (ks : List Key) (k : Key) (low high compared : ℕ) : Type 0 where
  pub ordered : low ≤ high
  pub inside : high ≤ length (index_of ks)
  pub below : AllByRecursion (λ e. key_cmp k e.0 ≡ Greater) (take low (index_of ks))
  pub above : AllByRecursion (λ e. key_cmp k e.0 ≡ Less) (drop high (index_of ks))
  pub few : (d : ℕ) → length (index_of ks) < 2 ^ d → (e : ℕ) × (compared + e ≤ d) × (high - low < 2 ^ e)

drop_whole : {A : Type 0} (P : A → Type 0) (xs : List A) → AllByRecursion P (drop (length xs) xs)
drop_whole P [] = tt
drop_whole P (x ∷ xs) = drop_whole P xs

pub search_start : (ks : List Key) (k : Key) (n : ℕ) → n ≡ length (index_of ks) → Searching ks k 0 n 0
search_start ks k n is = record {
  ordered = omega arith;
  inside = omega (arith, is);
  below = tt;
  above = subst (λ n. AllByRecursion (λ e. key_cmp k e.0 ≡ Less) (drop n (index_of ks))) (sym is) (drop_whole _ (index_of ks));
  few = λ d h. (d, omega arith, let x = 2 ^ d in let short : n < x = subst (λ n. n < x) (sym is) h in omega (arith, short));
}

-- half of what is below 2 ^ e
half : (n e : ℕ) → 0 < n → n < 2 ^ e → (f : ℕ) × (e ≡ f + 1) × (n / 2 < 2 ^ f)
half n zero pos h = absurd (let none : n < 1 = h in omega (arith, none))
half n (suc f) pos h = let twice : n < 2 * 2 ^ f = subst (λ m. n < m) (pow-succ' 2 f) h in (f, omega arith, halved n (2 ^ f) twice)
  where
    halved : (n x : ℕ) → n < 2 * x → n / 2 < x
    halved n x h = omega arith

less_left : (n m e : ℕ) → m ≤ n / 2 → n / 2 < 2 ^ e → m < 2 ^ e
less_left n m e a b = let x = 2 ^ e in omega (arith, a, b)

step : (ks : List Key) (k : Key) (low high compared m : ℕ) → Searching ks k low high compared → low < high → m ≤ (high - low) / 2
    → (d : ℕ) → length (index_of ks) < 2 ^ d → (e : ℕ) × (compared + 1 + e ≤ d) × (m < 2 ^ e)
step ks k low high compared m s more left d h =
    let f = s.few d h in
    let g = half (high - low) f.0 (omega arith) f.2 in
    let sum = f.1 in
    let next = g.1 in
    (g.0, omega (arith, sum, next), less_left (high - low) m g.0 left g.2)

pub search_left : (ks : List Key) (k l : Key) (i low high compared m : ℕ) → Searching ks k low high compared → low < high → m ≡ low + (high - low) / 2
    → slice_get (index_of ks) m ≡ Some (l, i) → key_cmp k l ≡ Less → Searching ks k low m (compared + 1)
search_left ks k l i low high compared m s more is at less =
    let inside = slice_get_within (index_of ks) m (l, i) at in
    record {
      ordered = omega arith;
      inside = omega (arith, inside);
      below = s.below;
      above = above_from k (index_of ks) m (l, i) (is_sorted-index ks) at less;
      few = step ks k low high compared (m - low) s more (omega arith);
    }

pub search_right : (ks : List Key) (k l : Key) (i low high compared m : ℕ) → Searching ks k low high compared → low < high → m ≡ low + (high - low) / 2
    → slice_get (index_of ks) m ≡ Some (l, i) → key_cmp k l ≡ Greater → Searching ks k (m + 1) high (compared + 1)
search_right ks k l i low high compared m s more is at greater =
    record {
      ordered = omega arith;
      inside = s.inside;
      below = subst (λ n. AllByRecursion (λ e. key_cmp k e.0 ≡ Greater) (take n (index_of ks))) (let e : suc m ≡ m + 1 = omega arith in e) (below_to k (index_of ks) m (l, i) (is_sorted-index ks) at greater);
      above = s.above;
      few = step ks k low high compared (high - (m + 1)) s more (omega arith);
    }

pub search_found : (ks : List Key) (k l : Key) (i m : ℕ) → slice_get (index_of ks) m ≡ Some (l, i) → key_cmp k l ≡ Equal → IsIndexedAt k m ks
search_found ks k l i m at equal = (i, subst (λ l. slice_get (index_of ks) m ≡ Some (l, i)) (sym (same_key k l equal)) at)

pub search_end : (ks : List Key) (k : Key) (low high compared : ℕ) → Searching ks k low high compared → high ≤ low → GoesAt k low ks
search_end ks k low high compared s done =
    let ordered = s.ordered in
    let met : high ≡ low = omega (arith, ordered) in
    let above = subst (λ n. AllByRecursion (λ e. key_cmp k e.0 ≡ Less) (drop n (index_of ks))) met s.above in
    (subst (λ n. n ≤ length (index_of ks)) met s.inside, absent_between k (index_of ks) low s.below above, λ n. goes_between k n (index_of ks) low s.below above)

pub search_few : (ks : List Key) (k : Key) (low high compared n : ℕ) → Searching ks k low high compared → n ≡ length (index_of ks) → AtMostDigits compared n
search_few ks k low high compared n s is d h =
    let f = s.few d (subst (λ n. n < 2 ^ d) is h) in
    let sum = f.1 in
    omega (arith, sum)

pub search_one_more : (ks : List Key) (k : Key) (low high compared n : ℕ) → Searching ks k low high compared → low < high → n ≡ length (index_of ks) → AtMostDigits (compared + 1) n
search_one_more ks k low high compared n s more is d h =
    let f = step ks k low high compared 0 s more (omega arith) d (subst (λ n. n < 2 ^ d) is h) in
    let sum = f.1 in
    omega (arith, sum)

pub middle_within : (ks : List Key) (k : Key) (low high compared n : ℕ) → Searching ks k low high compared → low < high → n ≡ length (index_of ks) → low + (high - low) / 2 < n
middle_within ks k low high compared n s more is = let inside = s.inside in omega (arith, inside, is, more)
