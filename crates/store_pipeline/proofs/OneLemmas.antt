-- There is one list with each element of a list once, and one alone.
use Rattle.std.proofs.Common.{◌≡◌, ◌∙◌, ◌⊎◌, inl, inr, ℕ, zero, suc, ◌<◌, ◌≤◌, List, [], ◌∷◌, ◌++◌, length, get_or, Bool, true, false, cond, ◌||◌, IsTrue, Some, append-nil, append_assoc, refl, sym, ap, subst, arith}
use Rattle.std.proofs.lemmas.Cmp.{tied_itself}
use Rattle.std.specs.Cmp.{IsTotalOrder}
use Rattle.std.specs.List.{AllByRecursion, find, list_any}
use Rattle.std.specs.List.Sorted.{IsStrictlySortedBy}
use Rattle.std.specs.Ordering.{eq_by_cmp, ordering_reverse}
use Rattle.std.specs.declared.cmp.Ordering.{Ordering}
use Rattle.std.specs.declared.cmp.Ordering.TheVariants.{Less, Equal, Greater}
use Rattle.store_pipeline.proofs.OnceLemmas.{alike, all_map, equal, IsGap, once_again, once_new}
use Rattle.store_pipeline.specs.Once.{IsEachOnce}

found : {X : Type 0} (p : X → Bool) (P : X → Type 0) (xs : List X) (y : X) → find p xs ≡ Some y → AllByRecursion P xs → P y
found p P [] y e h = absurd cc
found p P (x ∷ xs) y e h = by (p x) e (λ f. found p P xs y f h.1)
  where
    by : (b : Bool) → cond b (Some x) (find p xs) ≡ Some y → (find p xs ≡ Some y → P y) → P y
    by true f more = let same : x ≡ y = cc in subst P same h.0
    by false f more = more f

module _ {K : Type 0} (R : K → K → Ordering) (o : IsTotalOrder R) where
  abbrev IsIn : K → List K → Type 0
  IsIn y [] = ⊥
  IsIn y (z ∷ zs) = (y ≡ z) ⊎ IsIn y zs

  one_way : (x y : K) → R x y ≡ Less → R y x ≡ Less → ⊥
  one_way x y e f = let bad : Less ≡ Greater = sym e ∙ o.antisymm x y ∙ ap ordering_reverse f in absurd cc

  in_list : (y : K) (xs zs : List K) → find (eq_by_cmp R y) xs ≡ Some y → AllByRecursion (λ z. find (eq_by_cmp R z) xs ≡ Some z) zs → list_any (eq_by_cmp R y) zs ≡ true → IsIn y zs
  in_list y xs [] f h e = absurd cc
  in_list y xs (z ∷ zs) f h e = by (eq_by_cmp R y z) refl e (λ g. in_list y xs zs f h.1 g)
    where
      by : (b : Bool) → eq_by_cmp R y z ≡ b → (b || list_any (eq_by_cmp R y) zs) ≡ true → (list_any (eq_by_cmp R y) zs ≡ true → IsIn y zs) → (y ≡ z) ⊎ IsIn y zs
      by true g k more = let both : Some y ≡ Some z = sym f ∙ ap (λ p. find p xs) (alike R o y z (equal R o y z g)) ∙ h.0 in inl cc
      by false g k more = inr (more k)

  all_in : (xs ys zs : List K) → AllByRecursion (λ y. find (eq_by_cmp R y) xs ≡ Some y) ys → AllByRecursion (λ z. find (eq_by_cmp R z) xs ≡ Some z) zs → AllByRecursion (λ x. IsTrue (list_any (eq_by_cmp R x) zs)) xs → AllByRecursion (λ y. IsIn y zs) ys
  all_in xs ys zs f g e = all_map (λ y. find (eq_by_cmp R y) xs ≡ Some y) (λ y. IsIn y zs) ys (λ y h. in_list y xs zs h g (found (eq_by_cmp R y) (λ x. IsTrue (list_any (eq_by_cmp R x) zs)) xs y h e)) f

  greater : (z y : K) (zs : List K) → AllByRecursion (λ w. R z w ≡ Less) zs → IsIn y zs → R z y ≡ Less
  greater z y [] h i = absurd i
  greater z y (w ∷ zs) h (inl e) = subst (λ x. R z x ≡ Less) (sym e) h.0
  greater z y (w ∷ zs) h (inr i) = greater z y zs h.1 i

  heads : (y z : K) (ys zs : List K) → AllByRecursion (λ w. R y w ≡ Less) ys → AllByRecursion (λ w. R z w ≡ Less) zs → IsIn y (z ∷ zs) → IsIn z (y ∷ ys) → y ≡ z
  heads y z ys zs h k (inl e) j = e
  heads y z ys zs h k (inr i) (inl e) = sym e
  heads y z ys zs h k (inr i) (inr j) = absurd (one_way y z (greater y z ys h j) (greater z y zs k i))

  tails : (y z : K) (ws zs : List K) → y ≡ z → AllByRecursion (λ w. R y w ≡ Less) ws → AllByRecursion (λ w. IsIn w (z ∷ zs)) ws → AllByRecursion (λ w. IsIn w zs) ws
  tails y z [] zs e h i = tt
  tails y z (w ∷ ws) zs e h i = (by i.0, tails y z ws zs e h.1 i.1)
    where
      by : IsIn w (z ∷ zs) → IsIn w zs
      by (inl f) = let bad : Less ≡ Equal = sym h.0 ∙ ap (R y) (f ∙ sym e) ∙ tied_itself o y in absurd cc
      by (inr j) = j

  one_rising : (ys zs : List K) → IsStrictlySortedBy R ys → IsStrictlySortedBy R zs → AllByRecursion (λ y. IsIn y zs) ys → AllByRecursion (λ z. IsIn z ys) zs → ys ≡ zs
  unfolding IsStrictlySortedBy
  one_rising [] [] s t h k = refl
  one_rising [] (z ∷ zs) s t h k = absurd k.0
  one_rising (y ∷ ys) [] s t h k = absurd h.0
  one_rising (y ∷ ys) (z ∷ zs) s t h k =
      let e = heads y z ys zs s.0 t.0 h.0 k.0 in
      let more = one_rising ys zs s.1 t.1 (tails y z ys zs e s.0 h.1) (tails z y zs ys (sym e) t.0 k.1) in
      ap (λ x. x ∷ ys) e ∙ ap (λ l. z ∷ l) more

  pub one_once : (xs ys zs : List K) → IsEachOnce R xs ys → IsEachOnce R xs zs → ys ≡ zs
  one_once xs ys zs h k = one_rising ys zs h.rises k.rises (all_in xs ys zs h.first k.first k.every) (all_in xs zs ys k.first h.first h.every)

  -- ---- there is one

  abbrev Placed : K → List K → Type 0
  Placed v ys = ((i : ℕ) × (i < length ys) × (R (get_or ys i v) v ≡ Equal)) ⊎ ((i : ℕ) × (i ≤ length ys) × IsGap R o v ys i)

  above : (v y : K) (zs : List K) → R y v ≡ Greater → AllByRecursion (λ z. R y z ≡ Less) zs → (k : ℕ) (d : K) → k < length zs → R (get_or zs k d) v ≡ Greater
  above v y [] e h k d a = absurd (omega (arith, a))
  above v y (z ∷ zs) e h zero d a =
      let below : R v y ≡ Less = o.antisymm v y ∙ ap ordering_reverse e in
      o.antisymm z v ∙ ap ordering_reverse (o.trans v y z below h.0)
  above v y (z ∷ zs) e h (suc k) d a = above v y zs e h.1 k d (omega (arith, a))

  placed : (v : K) (ys : List K) → IsStrictlySortedBy R ys → Placed v ys
  unfolding IsStrictlySortedBy
  placed v [] s = inr (0, omega arith, (λ k d a b. absurd (omega (arith, b)), λ k d a b. absurd (omega (arith, b))))
  placed v (y ∷ ys) s = by (R y v) refl (placed v ys s.1)
    where
      later : Placed v ys → R y v ≡ Less → Placed v (y ∷ ys)
      later (inl (i, a, e)) l = inl (suc i, omega (arith, a), e)
      later (inr (i, a, g)) l = inr (suc i, omega (arith, a), (before, behind))
        where
          before : (k : ℕ) (d : K) → 0 ≤ k → k < suc i → R (get_or (y ∷ ys) k d) v ≡ Less
          before zero d p q = l
          before (suc k) d p q = g.0 k d (omega arith) (omega (arith, q))

          behind : (k : ℕ) (d : K) → suc i ≤ k → k < length (y ∷ ys) → R (get_or (y ∷ ys) k d) v ≡ Greater
          behind zero d p q = absurd (omega (arith, p))
          behind (suc k) d p q = g.1 k d (omega (arith, p)) (omega (arith, q))

      by : (r : Ordering) → R y v ≡ r → Placed v ys → Placed v (y ∷ ys)
      by Less e more = later more e
      by Equal e more = inl (0, omega arith, e)
      by Greater e more = inr (0, omega arith, (λ k d a b. absurd (omega (arith, b)), from))
        where
          from : (k : ℕ) (d : K) → 0 ≤ k → k < length (y ∷ ys) → R (get_or (y ∷ ys) k d) v ≡ Greater
          from zero d p q = e
          from (suc k) d p q = above v y ys e s.0 k d (omega (arith, q))

  one_more : (v : K) (xs ys : List K) → IsEachOnce R xs ys → (zs : List K) × IsEachOnce R (xs ++ v ∷ []) zs
  one_more v xs ys h = by (placed v ys h.rises)
    where
      by : Placed v ys → (zs : List K) × IsEachOnce R (xs ++ v ∷ []) zs
      by (inl (i, a, e)) = (ys, once_again R o v xs ys h i v a e)
      by (inr (i, a, g)) = (_, once_new R o v xs ys h i a g)

  go_on : (done rest ys : List K) → IsEachOnce R done ys → (zs : List K) × IsEachOnce R (done ++ rest) zs
  go_on done [] ys h = (ys, subst (λ l. IsEachOnce R l ys) (sym (append-nil done)) h)
  go_on done (v ∷ rest) ys h =
      let next = one_more v done ys h in
      let more = go_on (done ++ v ∷ []) rest next.0 next.1 in
      (more.0, subst (λ l. IsEachOnce R l more.0) (append_assoc done (v ∷ []) rest) more.1)

  pub some_once : (xs : List K) → (ys : List K) × IsEachOnce R xs ys
  unfolding IsStrictlySortedBy
  some_once xs = go_on [] xs [] (record { rises = tt; first = tt; every = tt })
