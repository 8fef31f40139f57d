-- A list with each of its elements once: one more element, which is new or was met before.
use Rattle.std.proofs.Common.{◌≡◌, ◌∙◌, ℕ, zero, suc, ◌<◌, ◌≤◌, List, [], ◌∷◌, ◌++◌, length, get_or, Bool, true, false, cond, ◌||◌, IsTrue, Some, None, refl, sym, ap, arith}
use Rattle.std.proofs.lemmas.Bool.{or_parts, true≢false}
use Rattle.std.proofs.lemmas.Cmp.{tied_itself, tied_back}
use Rattle.std.specs.Cmp.{IsTotalOrder}
use Rattle.std.specs.List.{AllByRecursion, find, insert, list_any}
use Rattle.std.specs.List.Sorted.{IsPartitionPoint, IsStrictlySortedBy}
use Rattle.std.specs.Ordering.{eq_by_cmp, is_eq, ordering_reverse}
use Rattle.std.specs.declared.cmp.Ordering.{Ordering}
use Rattle.std.specs.declared.cmp.Ordering.TheVariants.{Less, Equal, Greater}
use Rattle.store_pipeline.specs.Once.{IsEachOnce}

or_true : (a b : Bool) → b ≡ true → (a || b) ≡ true
or_true true b e = refl
or_true false b e = e

or_left : (a b : Bool) → a ≡ true → (a || b) ≡ true
or_left true b e = refl
or_left false b e = absurd cc

module _ {X : Type 0} where
  module _ (P : X → Type 0) where
    pub all_within : (xs : List X) → ((k : ℕ) (d : X) → k < length xs → P (get_or xs k d)) → AllByRecursion P xs
    all_within [] h = tt
    all_within (x ∷ xs) h = (h 0 x (omega arith), all_within xs (λ k d a. h (suc k) d (omega (arith, a))))

    pub all_insert : (xs : List X) (i : ℕ) (y : X) → AllByRecursion P xs → P y → AllByRecursion P (insert xs i y)
    all_insert xs zero y h p = (p, h)
    all_insert [] (suc i) y h p = (p, h)
    all_insert (x ∷ xs) (suc i) y h p = (h.0, all_insert xs i y h.1 p)

    pub all_more : (xs : List X) (y : X) → AllByRecursion P xs → P y → AllByRecursion P (xs ++ y ∷ [])
    all_more [] y h p = (p, tt)
    all_more (x ∷ xs) y h p = (h.0, all_more xs y h.1 p)

  pub all_map : (P Q : X → Type 0) (xs : List X) → ((x : X) → P x → Q x) → AllByRecursion P xs → AllByRecursion Q xs
  all_map P Q [] f h = tt
  all_map P Q (x ∷ xs) f h = (f x h.0, all_map P Q xs f h.1)

  module _ (p : X → Bool) where
    pub any_insert : (xs : List X) (i : ℕ) (y : X) → list_any p xs ≡ true → list_any p (insert xs i y) ≡ true
    any_insert xs zero y e = or_true (p y) (list_any p xs) e
    any_insert [] (suc i) y e = absurd cc
    any_insert (x ∷ xs) (suc i) y e = by (p x) (any_insert xs i y) e
      where
        by : (b : Bool) → (list_any p xs ≡ true → list_any p (insert xs i y) ≡ true) → (b || list_any p xs) ≡ true → (b || list_any p (insert xs i y)) ≡ true
        by true more f = refl
        by false more f = more f

    pub any_inserted : (xs : List X) (i : ℕ) (y : X) → p y ≡ true → list_any p (insert xs i y) ≡ true
    any_inserted xs zero y e = or_left (p y) (list_any p xs) e
    any_inserted [] (suc i) y e = or_left (p y) false e
    any_inserted (x ∷ xs) (suc i) y e = or_true (p x) (list_any p (insert xs i y)) (any_inserted xs i y e)

    pub any_at : (xs : List X) (i : ℕ) (d : X) → i < length xs → p (get_or xs i d) ≡ true → list_any p xs ≡ true
    any_at [] i d h e = absurd (omega (arith, h))
    any_at (x ∷ xs) zero d h e = or_left (p x) (list_any p xs) e
    any_at (x ∷ xs) (suc i) d h e = or_true (p x) (list_any p xs) (any_at xs i d (omega (arith, h)) e)

    pub none_all : (xs : List X) → AllByRecursion (λ x. p x ≡ false) xs → list_any p xs ≡ false
    none_all [] h = refl
    none_all (x ∷ xs) h = ap (λ b. b || list_any p xs) h.0 ∙ none_all xs h.1

    pub find_more : (xs : List X) (x y : X) → find p xs ≡ Some y → find p (xs ++ x ∷ []) ≡ Some y
    find_more [] x y e = absurd cc
    find_more (z ∷ xs) x y e = by (p z) (find_more xs x y) e
      where
        by : (b : Bool) → (find p xs ≡ Some y → find p (xs ++ x ∷ []) ≡ Some y) → cond b (Some z) (find p xs) ≡ Some y → cond b (Some z) (find p (xs ++ x ∷ [])) ≡ Some y
        by true more f = f
        by false more f = more f

    pub find_last : (xs : List X) (x : X) → list_any p xs ≡ false → p x ≡ true → find p (xs ++ x ∷ []) ≡ Some x
    find_last [] x n e = ap (λ b. cond b (Some x) None) e
    find_last (z ∷ xs) x n e =
        let both = or_parts (p z) (list_any p xs) n in
        ap (λ b. cond b (Some z) (find p (xs ++ x ∷ []))) both.0 ∙ find_last xs x both.1 e

    pub any_more : (xs : List X) (x : X) → list_any p (xs ++ x ∷ []) ≡ (list_any p xs || p x)
    any_more [] x = by (p x)
      where
        by : (b : Bool) → (b || false) ≡ b
        by true = refl
        by false = refl
    any_more (y ∷ xs) x = by (p y) (any_more xs x)
      where
        by : (b : Bool) → list_any p (xs ++ x ∷ []) ≡ (list_any p xs || p x) → (b || list_any p (xs ++ x ∷ [])) ≡ ((b || list_any p xs) || p x)
        by true more = refl
        by false more = more

module _ {K : Type 0} (R : K → K → Ordering) (o : IsTotalOrder R) where
  abbrev same : K → K → Bool
  same = eq_by_cmp R

  -- what is less is before the place, and what is greater from there on
  abbrev pub IsGap : K → List K → ℕ → Type 0
  IsGap v ys i = IsPartitionPoint (λ y. R y v ≡ Less) (λ y. R y v ≡ Greater) ys i

  gap_below : (v y : K) (ys : List K) (i : ℕ) → IsGap v (y ∷ ys) (suc i) → IsGap v ys i
  gap_below v y ys i g = (λ k d a b. g.0 (suc k) d (omega arith) (omega (arith, b)), λ k d a b. g.1 (suc k) d (omega (arith, a)) (omega (arith, b)))

  turned : (v y : K) → R y v ≡ Greater → R v y ≡ Less
  turned v y e = o.antisymm v y ∙ ap ordering_reverse e

  gap_above : (v : K) (ys : List K) → IsGap v ys 0 → AllByRecursion (λ y. R v y ≡ Less) ys
  gap_above v ys g = all_within (λ y. R v y ≡ Less) ys (λ k d a. turned v (get_or ys k d) (g.1 k d (omega arith) a))

  pub rises_insert : (v : K) (ys : List K) (i : ℕ) → i ≤ length ys → IsStrictlySortedBy R ys → IsGap v ys i → IsStrictlySortedBy R (insert ys i v)
  unfolding IsStrictlySortedBy
  rises_insert v ys zero h s g = (gap_above v ys g, s)
  rises_insert v [] (suc i) h s g = absurd (omega (arith, h))
  rises_insert v (y ∷ ys) (suc i) h s g = (all_insert (λ z. R y z ≡ Less) ys i v s.0 (g.0 0 y (omega arith) (omega arith)), rises_insert v ys i (omega (arith, h)) s.1 (gap_below v y ys i g))

  unlike : (v y : K) (r : Ordering) → R y v ≡ r → is_eq r ≡ false → same v y ≡ false
  unlike v y r e n = ap is_eq (o.antisymm v y ∙ ap ordering_reverse e) ∙ by r n
    where
      by : (r : Ordering) → is_eq r ≡ false → is_eq (ordering_reverse r) ≡ false
      by Less n = refl
      by Equal n = n
      by Greater n = refl

  -- nothing in the list is equal to what has a gap
  pub gap_apart : (v : K) (ys : List K) (i : ℕ) → i ≤ length ys → IsGap v ys i → AllByRecursion (λ y. R y v ≡ Equal → ⊥) ys
  gap_apart v [] i h g = tt
  gap_apart v (y ∷ ys) zero h g = (λ e. let u = g.1 0 y (omega arith) (omega arith) in absurd (let bad : Greater ≡ Equal = sym u ∙ e in cc), gap_apart v ys zero (omega arith) (λ k d a b. absurd (omega (arith, b)), λ k d a b. g.1 (suc k) d (omega arith) (omega (arith, b))))
  gap_apart v (y ∷ ys) (suc i) h g = (λ e. let u = g.0 0 y (omega arith) (omega arith) in absurd (let bad : Less ≡ Equal = sym u ∙ e in cc), gap_apart v ys i (omega (arith, h)) (gap_below v y ys i g))

  apart_same : (v y : K) → (R y v ≡ Equal → ⊥) → same v y ≡ false
  apart_same v y n = by (R y v) refl
    where
      by : (r : Ordering) → R y v ≡ r → same v y ≡ false
      by Less e = unlike v y Less e refl
      by Equal e = absurd (n e)
      by Greater e = unlike v y Greater e refl

  pub gap_none : (v : K) (ys : List K) → AllByRecursion (λ y. R y v ≡ Equal → ⊥) ys → list_any (same v) ys ≡ false
  gap_none v ys a = none_all (same v) ys (all_map (λ y. R y v ≡ Equal → ⊥) (λ y. same v y ≡ false) ys (λ y n. apart_same v y n) a)

  pub equal : (x y : K) → same x y ≡ true → R x y ≡ Equal
  equal x y e = by (R x y) e
    where
      by : (r : Ordering) → is_eq r ≡ true → r ≡ Equal
      by Less f = absurd cc
      by Equal f = refl
      by Greater f = absurd cc

  -- equal elements are equal to the same ones
  pub alike : (x y : K) → R x y ≡ Equal → same x ≡ same y
  alike x y e = λ i z. is_eq (o.congr x y z e i)

  -- nothing that was met is equal to what no kept element is equal to
  pub none_met : (v : K) (xs ys : List K) → AllByRecursion (λ x. IsTrue (list_any (same x) ys)) xs → list_any (same v) ys ≡ false → list_any (same v) xs ≡ false
  none_met v [] ys h n = refl
  none_met v (x ∷ xs) ys h n = by (same v x) refl (none_met v xs ys h.1 n)
    where
      by : (b : Bool) → same v x ≡ b → list_any (same v) xs ≡ false → (same v x || list_any (same v) xs) ≡ false
      by true e more = absurd (true≢false (sym h.0 ∙ ap (λ f. list_any f ys) (sym (alike v x (equal v x e))) ∙ n))
      by false e more = ap (λ b. b || list_any (same v) xs) e ∙ more

  module _ (v : K) (xs ys : List K) (h : IsEachOnce R xs ys) where
    itself : same v v ≡ true
    itself = ap is_eq (tied_itself o v)

    -- one that is new
    pub once_new : (i : ℕ) → i ≤ length ys → IsGap v ys i → IsEachOnce R (xs ++ v ∷ []) (insert ys i v)
    once_new i a g =
        let none = none_met v xs ys h.every (gap_none v ys (gap_apart v ys i a g)) in
        record {
          rises = rises_insert v ys i a h.rises g;
          first = all_insert (λ y. find (same y) (xs ++ v ∷ []) ≡ Some y) ys i v (all_map (λ y. find (same y) xs ≡ Some y) (λ y. find (same y) (xs ++ v ∷ []) ≡ Some y) ys (λ y e. find_more (same y) xs v y e) h.first) (find_last (same v) xs v none itself);
          every = all_more (λ x. IsTrue (list_any (same x) (insert ys i v))) xs v (all_map (λ x. IsTrue (list_any (same x) ys)) (λ x. IsTrue (list_any (same x) (insert ys i v))) xs (λ x e. any_insert (same x) ys i v e) h.every) (any_inserted (same v) ys i v itself);
        }

    -- one that was met
    pub once_again : (i : ℕ) (d : K) → i < length ys → R (get_or ys i d) v ≡ Equal → IsEachOnce R (xs ++ v ∷ []) ys
    once_again i d a e = record {
      rises = h.rises;
      first = all_map (λ y. find (same y) xs ≡ Some y) (λ y. find (same y) (xs ++ v ∷ []) ≡ Some y) ys (λ y f. find_more (same y) xs v y f) h.first;
      every = all_more (λ x. IsTrue (list_any (same x) ys)) xs v h.every (any_at (same v) ys i d a (ap is_eq (tied_back o (get_or ys i d) v e)));
    }
