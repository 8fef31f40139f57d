-- Elements that are counted: by how many lists have them.
use Rattle.std.proofs.Common.{◌≡◌, ◌∙◌, ℕ, zero, suc, ◌+◌, ◌<◌, ◌≤◌, ◌==◌, List, [], ◌∷◌, ◌++◌, length, get_or, map, set, Bool, true, false, cond, ◌||◌, Err, eq-eqb, refl, sym, ap, subst, arith}
use Rattle.std.proofs.lemmas.Bool.{eqb-true, or_parts}
use Rattle.std.proofs.lemmas.Cmp.{alike_right}
use Rattle.std.proofs.lemmas.List.Folds.{list_any-append}
use Rattle.std.proofs.lemmas.List.Sums.{sum_by-cons, sum_by_push}
use Rattle.std.specs.Cmp.{IsTotalOrder}
use Rattle.std.specs.List.{AllByRecursion, count_by, flat_map, insert, list_any}
use Rattle.std.specs.List.Sorted.{IsBinarySearchResult, IsNonDecreasingBy, IsPartitionPoint, IsStrictlySortedBy}
use Rattle.std.specs.Ordering.{eq_by_cmp, is_eq, ordering_index, ordering_reverse}
use Rattle.std.specs.declared.cmp.Ordering.{Ordering}
use Rattle.std.specs.declared.cmp.Ordering.TheVariants.{Less, Equal, Greater}
use Rattle.store_pipeline.proofs.OnceLemmas.{all_insert, any_more, gap_apart}

not_level : (m n : ℕ) → m < n → (m == n) ≡ false
not_level m n h = by (m == n) refl
  where
    by : (b : Bool) → (m == n) ≡ b → (m == n) ≡ false
    by true e = let same : m ≡ n = eqb-true m n e in absurd (omega (arith, h, same))
    by false e = e

or_none : (a b : Bool) → b ≡ false → (a || b) ≡ a
or_none true b e = refl
or_none false b e = e

or_some : (a b : Bool) → b ≡ true → (a || b) ≡ true
or_some true b e = refl
or_some false b e = e

module _ {C K : Type 0} (value : C → K) where
  pub at_mapped : (P : K → Type 0) (cs : List C) (k : ℕ) (d : K) → k < length cs → ((e : C) → P (value (get_or cs k e))) → P (get_or (map value cs) k d)
  at_mapped P [] k d a h = absurd (omega (arith, a))
  at_mapped P (c ∷ cs) zero d a h = h c
  at_mapped P (c ∷ cs) (suc k) d a h = at_mapped P cs k d (omega (arith, a)) h

  all_at : (P : K → Type 0) (cs : List C) (k : ℕ) (d : C) → k < length cs → AllByRecursion P (map value cs) → P (value (get_or cs k d))
  all_at P [] k d a h = absurd (omega (arith, a))
  all_at P (c ∷ cs) zero d a h = h.0
  all_at P (c ∷ cs) (suc k) d a h = all_at P cs k d (omega (arith, a)) h.1

  pub map_insert : (cs : List C) (i : ℕ) (c : C) → map value (insert cs i c) ≡ insert (map value cs) i (value c)
  map_insert cs zero c = refl
  map_insert [] (suc i) c = refl
  map_insert (d ∷ cs) (suc i) c = ap (λ l. value d ∷ l) (map_insert cs i c)

  pub map_set : (cs : List C) (i : ℕ) (d c : C) → i < length cs → value c ≡ value (get_or cs i d) → map value (set cs i c) ≡ map value cs
  map_set [] i d c a e = absurd (omega (arith, a))
  map_set (x ∷ cs) zero d c a e = ap (λ k. k ∷ map value cs) e
  map_set (x ∷ cs) (suc i) d c a e = ap (λ l. value x ∷ l) (map_set cs i d c (omega (arith, a)) e)

  pub map_long : (cs : List C) → length (map value cs) ≡ length cs
  map_long [] = refl
  map_long (c ∷ cs) = ap suc (map_long cs)

  all_unmapped : (P : K → Type 0) (cs : List C) → AllByRecursion P (map value cs) → AllByRecursion (λ c. P (value c)) cs
  all_unmapped P [] h = tt
  all_unmapped P (c ∷ cs) h = (h.0, all_unmapped P cs h.1)

  module _ (R : K → K → Ordering) (o : IsTotalOrder R) (v : K) where
    lower : (x y : K) (r : Ordering) → R x y ≡ Less → R y v ≡ r → ordering_index (R x v) ≤ ordering_index r
    lower x y Less l e = let first : R x v ≡ Less = o.trans x y v l e in subst (λ s. ordering_index s ≤ 0) (sym first) (omega arith)
    lower x y Equal l e = let first : R x v ≡ Less = sym (alike_right o y v x e) ∙ l in subst (λ s. ordering_index s ≤ 1) (sym first) (omega arith)
    lower x y Greater l e = most (R x v)
      where
        most : (s : Ordering) → ordering_index s ≤ 2
        most Less = omega arith
        most Equal = omega arith
        most Greater = omega arith

    pub comparisons_rise : (cs : List C) → IsStrictlySortedBy R (map value cs) → IsNonDecreasingBy (λ c. ordering_index (R (value c) v)) cs
    unfolding IsStrictlySortedBy
    comparisons_rise [] s i j d a b = absurd (omega (arith, b))
    comparisons_rise (c ∷ cs) s zero zero d a b = omega arith
    comparisons_rise (c ∷ cs) s zero (suc j) d a b = lower (value c) (value (get_or cs j d)) (R (value (get_or cs j d)) v) (all_at (λ y. R (value c) y ≡ Less) cs j d (omega (arith, b)) s.0) refl
    comparisons_rise (c ∷ cs) s (suc i) zero d a b = absurd (omega (arith, a))
    comparisons_rise (c ∷ cs) s (suc i) (suc j) d a b = comparisons_rise cs s.1 i j d (omega (arith, a)) (omega (arith, b))

    -- where it isn't, it has a gap
    pub gap_found : (cs : List C) (i : ℕ) → IsStrictlySortedBy R (map value cs) → i ≤ length cs → IsBinarySearchResult (λ c. R (value c) v) cs (Err i) → IsPartitionPoint (λ y. R y v ≡ Less) (λ y. R y v ≡ Greater) (map value cs) i
    gap_found cs i s h found =
        let gap = found (comparisons_rise cs s) in
        let long = map_long cs in
        (λ k d a b. at_mapped (λ y. R y v ≡ Less) cs k d (omega (arith, b, h)) (λ e. gap.0 k e a b), λ k d a b. at_mapped (λ y. R y v ≡ Greater) cs k d (omega (arith, b, long)) (λ e. gap.1 k e a (omega (arith, b, long))))

    less_apart : (x y : K) → R x y ≡ Less → R x v ≡ Equal → R y v ≡ Equal → ⊥
    less_apart x y l e f = let bad : Less ≡ Equal = sym l ∙ o.congr x v y e ∙ o.antisymm v y ∙ ap ordering_reverse f in absurd cc

    -- one is changed that is equal to it, and no other one is equal
    pub all_set : (P Q : C → Type 0) (cs : List C) (i : ℕ) (d c : C) → i < length cs → IsStrictlySortedBy R (map value cs) → R (value (get_or cs i d)) v ≡ Equal
        → (P (get_or cs i d) → Q c) → ((x : C) → (R (value x) v ≡ Equal → ⊥) → P x → Q x) → AllByRecursion P cs → AllByRecursion Q (set cs i c)
    unfolding IsStrictlySortedBy
    all_set P Q [] i d c a s e f g h = absurd (omega (arith, a))
    all_set P Q (x ∷ cs) zero d c a s e f g h = (f h.0, others cs s.0 h.1)
      where
        others : (ys : List C) → AllByRecursion (λ y. R (value x) y ≡ Less) (map value ys) → AllByRecursion P ys → AllByRecursion Q ys
        others [] l p = tt
        others (y ∷ ys) l p = (g y (less_apart (value x) (value y) l.0 e) p.0, others ys l.1 p.1)
    all_set P Q (x ∷ cs) (suc i) d c a s e f g h =
        (g x (λ eq. less_apart (value x) (value (get_or cs i d)) (all_at (λ y. R (value x) y ≡ Less) cs i d (omega (arith, a)) s.0) eq e) h.0, all_set P Q cs i d c (omega (arith, a)) s.1 e f g h.1)

    -- one is new, and none is equal
    pub all_new : (P Q : C → Type 0) (cs : List C) (i : ℕ) (c : C) → i ≤ length cs → IsPartitionPoint (λ y. R y v ≡ Less) (λ y. R y v ≡ Greater) (map value cs) i
        → Q c → ((x : C) → (R (value x) v ≡ Equal → ⊥) → P x → Q x) → AllByRecursion P cs → AllByRecursion Q (insert cs i c)
    all_new P Q cs i c a gap q g h = all_insert Q cs i c (both cs (all_unmapped (λ y. R y v ≡ Equal → ⊥) cs (gap_apart R o v (map value cs) i (let long = map_long cs in omega (arith, a, long)) gap)) h) q
      where
        both : (ys : List C) → AllByRecursion (λ y. R (value y) v ≡ Equal → ⊥) ys → AllByRecursion P ys → AllByRecursion Q ys
        both [] n p = tt
        both (y ∷ ys) n p = (g y n.0 p.0, both ys n.1 p.1)

-- ---- counts

module _ {K D : Type 0} (R : K → K → Ordering) (o : IsTotalOrder R) (f : D → List K) where
  abbrev count_of : K → List D → ℕ
  count_of k ds = count_by (λ d. list_any (eq_by_cmp R k) (f d)) ds

  -- it was counted for these, and for one more that has these elements and this number
  abbrev pub IsCount : List D → List K → ℕ → K → ℕ → ℕ → Type 0
  IsCount ds vs number k n last = (n ≡ count_of k ds + cond (list_any (eq_by_cmp R k) vs) 1 0) × (last ≤ number) × ((last == number) ≡ list_any (eq_by_cmp R k) vs)

  pub count_begins : (ds : List D) (m number : ℕ) (k : K) (n last : ℕ) → number ≡ m + 1 → n ≡ count_of k ds → last ≤ m → IsCount ds [] number k n last
  count_begins ds m number k n last e is low = (omega (arith, is), omega (arith, e, low), not_level last number (omega (arith, e, low)))

  pub count_ends : (ds : List D) (d : D) (number : ℕ) (k : K) (n last : ℕ) → IsCount ds (f d) number k n last → n ≡ count_of k (ds ++ d ∷ [])
  count_ends ds d number k n last h = h.0 ∙ sym (sum_by_push (λ x. cond (list_any (eq_by_cmp R k) (f x)) 1 0) ds d)

  module _ (ds : List D) (vs : List K) (v : K) (number : ℕ) where
    pub count_stays : (k : K) (n last : ℕ) → (R k v ≡ Equal → ⊥) → IsCount ds vs number k n last → IsCount ds (vs ++ v ∷ []) number k n last
    count_stays k n last apart h =
        let same : list_any (eq_by_cmp R k) (vs ++ v ∷ []) ≡ list_any (eq_by_cmp R k) vs = any_more (eq_by_cmp R k) vs v ∙ or_none (list_any (eq_by_cmp R k) vs) (eq_by_cmp R k v) (unlike (R k v) refl) in
        (h.0 ∙ ap (λ b. count_of k ds + cond b 1 0) (sym same), h.1, h.2 ∙ sym same)
      where
        unlike : (r : Ordering) → R k v ≡ r → is_eq (R k v) ≡ false
        unlike Less e = ap is_eq e
        unlike Equal e = absurd (apart e)
        unlike Greater e = ap is_eq e

    now_there : (k : K) → R k v ≡ Equal → list_any (eq_by_cmp R k) (vs ++ v ∷ []) ≡ true
    now_there k e = any_more (eq_by_cmp R k) vs v ∙ or_some (list_any (eq_by_cmp R k) vs) (eq_by_cmp R k v) (ap is_eq e)

    pub count_grows : (k j : K) (n last m l : ℕ) → R k v ≡ Equal → j ≡ k → l ≡ number → m ≡ n + cond (last == number) 0 1 → IsCount ds vs number k n last → IsCount ds (vs ++ v ∷ []) number j m l
    count_grows k j n last m l e same at is h = subst (λ x. IsCount ds (vs ++ v ∷ []) number x m l) (sym same) (is ∙ by (list_any (eq_by_cmp R k) vs) h.0 h.2 ∙ ap (λ b. count_of k ds + cond b 1 0) (sym (now_there k e)), omega (arith, at), level ∙ sym (now_there k e))
      where
        by : (b : Bool) → n ≡ count_of k ds + cond b 1 0 → (last == number) ≡ b → n + cond (last == number) 0 1 ≡ count_of k ds + 1
        by true c t = ap (λ x. n + cond x 0 1) t ∙ omega (arith, c)
        by false c t = ap (λ x. n + cond x 0 1) t ∙ omega (arith, c)

        level : (l == number) ≡ true
        level = eq-eqb l number at

    pub count_new : (n last : ℕ) (k : K) → k ≡ v → R v v ≡ Equal → n ≡ 1 → last ≡ number → list_any (eq_by_cmp R v) (flat_map f ds) ≡ false → IsCount ds (vs ++ v ∷ []) number k n last
    count_new n last k same e one at none = subst (λ x. IsCount ds (vs ++ v ∷ []) number x n last) (sym same) (one ∙ ap (λ m. m + 1) (sym (uncounted ds none)) ∙ ap (λ b. count_of v ds + cond b 1 0) (sym (now_there v e)), omega (arith, at), eq-eqb last number at ∙ sym (now_there v e))
      where
        uncounted : (es : List D) → list_any (eq_by_cmp R v) (flat_map f es) ≡ false → count_of v es ≡ 0
        uncounted [] n = refl
        uncounted (d ∷ es) n =
            let both = or_parts (list_any (eq_by_cmp R v) (f d)) (list_any (eq_by_cmp R v) (flat_map f es)) (sym (list_any-append (eq_by_cmp R v) (f d) (flat_map f es)) ∙ n) in
            let rest = uncounted es both.1 in
            sum_by-cons (λ x. cond (list_any (eq_by_cmp R v) (f x)) 1 0) d es ∙ ap (λ b. cond b 1 0 + count_of v es) both.0 ∙ omega (arith, rest)
