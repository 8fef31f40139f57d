-- A list in order, and one more that takes its place in it, behind those that it doesn't go before.
use Rattle.std.proofs.Common.{◌≡◌, ◌∙◌, ◌⊎◌, inl, inr, ℕ, zero, suc, ◌<◌, ◌≤◌, List, [], ◌∷◌, ◌++◌, length, take, get_or, map, Bool, true, false, cond, not, ◌&&◌, refl, sym, ap, arith, append-nil, add-one}
use Rattle.std.proofs.lemmas.List.{take-take}
use Rattle.std.specs.Cmp.{IsStrictWeakOrder}
use Rattle.std.specs.List.{filter, insert, AllZip}
use Rattle.std.specs.List.Sorted.{IsPermutation, IsSortedBy, IsStableBy, IsPartitionPoint, ties}
use Rattle.std.proofs.lemmas.List.Sorted.{IsPermutation-refl, IsPermutation-trans, IsPermutation-cons, IsPermutation-middle}
use Rattle.std.proofs.lemmas.Bool.{true≢false}

module _ {X : Type 0} (lt : X → X → Bool) where
  -- the list with x behind those that it doesn't go before
  abbrev pub place : X → List X → List X
  place x [] = x ∷ []
  place x (y ∷ ys) = cond (lt x y) (x ∷ y ∷ ys) (y ∷ place x ys)

  -- no element is less than the one before it
  abbrev pub Rises : List X → Type 0
  Rises [] = Unit {0}
  Rises (x ∷ []) = Unit {0}
  Rises (x ∷ y ∷ ys) = (lt y x ≡ false) × Rises (y ∷ ys)

  pub rises_of : (xs : List X) → IsSortedBy lt xs → Rises xs
  rises_of [] h = tt
  rises_of (x ∷ []) h = tt
  rises_of (x ∷ y ∷ ys) h = (h 0 x (omega arith) (omega arith), rises_of (y ∷ ys) (λ k d a b. ap (λ n. lt (get_or (y ∷ ys) n d) (get_or (y ∷ ys) k d)) (add-one k) ∙ sym (ap (λ n. lt (get_or (x ∷ y ∷ ys) n d) (get_or (y ∷ ys) k d)) (add-one (suc k))) ∙ h (suc k) d (omega arith) (omega (arith, b))))

  pub sorted_of : (xs : List X) → Rises xs → IsSortedBy lt xs
  sorted_of [] h k d a b = absurd (omega (arith, b))
  sorted_of (x ∷ []) h k d a b = absurd (omega (arith, b))
  sorted_of (x ∷ y ∷ ys) h zero d a b = h.0
  sorted_of (x ∷ y ∷ ys) h (suc k) d a b = ap (λ n. lt (get_or (x ∷ y ∷ ys) n d) (get_or (y ∷ ys) k d)) (add-one (suc k)) ∙ sym (ap (λ n. lt (get_or (y ∷ ys) n d) (get_or (y ∷ ys) k d)) (add-one k)) ∙ sorted_of (y ∷ ys) h.1 k d (omega arith) (omega (arith, b))

  pub rises_tail : (x : X) (xs : List X) → Rises (x ∷ xs) → Rises xs
  rises_tail x [] h = tt
  rises_tail x (y ∷ ys) h = h.1

  rises_take : (n : ℕ) (xs : List X) → Rises xs → Rises (take n xs)
  rises_take zero xs h = tt
  rises_take (suc n) [] h = tt
  rises_take (suc zero) (x ∷ xs) h = tt
  rises_take (suc (suc n)) (x ∷ []) h = tt
  rises_take (suc (suc n)) (x ∷ y ∷ ys) h = (h.0, rises_take (suc n) (y ∷ ys) h.1)

  pub sorted_take : (n : ℕ) (xs : List X) → IsSortedBy lt xs → IsSortedBy lt (take n xs)
  sorted_take n xs h = sorted_of (take n xs) (rises_take n xs (rises_of xs h))

  -- ---- where the new one stands

  pub place_moves : (x : X) (ys : List X) → IsPermutation (x ∷ ys) (place x ys)
  place_moves x [] = IsPermutation-refl (x ∷ [])
  place_moves x (y ∷ ys) = by (lt x y) (place_moves x ys)
    where
      by : (b : Bool) → IsPermutation (x ∷ ys) (place x ys) → IsPermutation (x ∷ y ∷ ys) (cond b (x ∷ y ∷ ys) (y ∷ place x ys))
      by true more = IsPermutation-refl (x ∷ y ∷ ys)
      by false more = IsPermutation-trans _ _ _ (IsPermutation-middle (x ∷ []) y ys) (IsPermutation-cons y _ _ more)

  one_more : (n : ℕ) (y : X) (ys : List X) → take n (y ∷ ys) ≡ take n (y ∷ take n ys)
  one_more zero y ys = refl
  one_more (suc n) y ys = ap (λ l. y ∷ l) (sym (take-take n (suc n) ys (omega arith)))

  -- what stands behind the first n has no part in them
  pub take_place : (n : ℕ) (x : X) (ys : List X) → take n (place x ys) ≡ take n (place x (take n ys))
  take_place zero x ys = refl
  take_place (suc n) x [] = refl
  take_place (suc n) x (y ∷ ys) = by (lt x y) (take_place n x ys)
    where
      by : (b : Bool) → take n (place x ys) ≡ take n (place x (take n ys)) → take (suc n) (cond b (x ∷ y ∷ ys) (y ∷ place x ys)) ≡ take (suc n) (cond b (x ∷ y ∷ take n ys) (y ∷ place x (take n ys)))
      by true more = ap (λ l. x ∷ l) (one_more n y ys)
      by false more = ap (λ l. y ∷ l) more

  pub place_at : (x : X) (ys : List X) (i : ℕ) → i ≤ length ys → IsPartitionPoint (λ y. lt x y ≡ false) (λ y. lt x y ≡ true) ys i → insert ys i x ≡ place x ys
  place_at x [] zero h p = refl
  place_at x [] (suc i) h p = absurd (omega (arith, h))
  place_at x (y ∷ ys) zero h p = let e : lt x y ≡ true = p.1 0 y (omega arith) (omega arith) in sym (ap (λ b. cond b (x ∷ y ∷ ys) (y ∷ place x ys)) e)
  place_at x (y ∷ ys) (suc i) h p =
      let e : lt x y ≡ false = p.0 0 y (omega arith) (omega arith) in
      let more = place_at x ys i (omega (arith, h)) (λ k d a b. p.0 (suc k) d (omega arith) (omega (arith, b)), λ k d a b. p.1 (suc k) d (omega (arith, a)) (omega (arith, b))) in
      ap (λ l. y ∷ l) more ∙ sym (ap (λ b. cond b (x ∷ y ∷ ys) (y ∷ place x ys)) e)

  -- the first of a list with one more
  pub take_insert : (m : ℕ) (x : X) (ys : List X) (i : ℕ) → i ≤ m → i ≤ length ys → take (suc m) (insert ys i x) ≡ insert (take m ys) i x
  take_insert m x ys zero a b = refl
  take_insert zero x ys (suc i) a b = absurd (omega (arith, a))
  take_insert (suc m) x [] (suc i) a b = absurd (omega (arith, b))
  take_insert (suc m) x (y ∷ ys) (suc i) a b = ap (λ l. y ∷ l) (take_insert m x ys i (omega (arith, a)) (omega (arith, b)))

  -- ---- ties

  two_no : (a b : Bool) → not a && not b ≡ true → (a ≡ false) × (b ≡ false)
  two_no true b e = absurd cc
  two_no false true e = absurd cc
  two_no false false e = (refl, refl)

  no_both : (a b : Bool) → a ≡ false → b ≡ false → not a && not b ≡ true
  no_both a b p q = ap (λ c. not c && not b) p ∙ ap not q

  -- two that a list and another one tie alike
  abbrev pub SameTies : List X → List X → Type 0
  SameTies xs ys = (z : X) → filter (ties lt z) xs ≡ filter (ties lt z) ys

  module _ (o : IsStrictWeakOrder lt) where
    own : (x : X) → lt x x ≡ false
    own x = by (lt x x) refl
      where
        by : (b : Bool) → lt x x ≡ b → lt x x ≡ false
        by true e = o.one_way x x e
        by false e = e

    pub tied : (x : X) → ties lt x x ≡ true
    tied x = no_both (lt x x) (lt x x) (own x) (own x)

    behind : (x y : X) (ys : List X) → lt x y ≡ false → Rises (y ∷ ys) → Rises (y ∷ place x ys)
    behind x y [] e h = (e, tt)
    behind x y (z ∷ zs) e h = by (lt x z) refl (λ f. behind x z zs f h.1)
      where
        by : (b : Bool) → lt x z ≡ b → (lt x z ≡ false → Rises (z ∷ place x zs)) → Rises (y ∷ cond b (x ∷ z ∷ zs) (z ∷ place x zs))
        by true f more = (e, (o.one_way x z f, h.1))
        by false f more = (h.0, more f)

    pub place_rises : (x : X) (ys : List X) → Rises ys → Rises (place x ys)
    place_rises x [] h = tt
    place_rises x (y ∷ ys) h = by (lt x y) refl
      where
        by : (b : Bool) → lt x y ≡ b → Rises (cond b (x ∷ y ∷ ys) (y ∷ place x ys))
        by true e = (o.one_way x y e, h)
        by false e = behind x y ys e h

    -- what goes behind x ties with nothing that x ties with
    apart : (z x y : X) → ties lt z x ≡ true → lt x y ≡ true → ties lt z y ≡ false
    apart z x y t e = by (ties lt z y) refl
      where
        by : (b : Bool) → ties lt z y ≡ b → ties lt z y ≡ false
        by true u =
            let bad : lt x y ≡ false = o.chain x z y (two_no (lt z x) (lt x z) t).1 (two_no (lt z y) (lt y z) u).0 in
            absurd (true≢false (sym e ∙ bad))
        by false u = u

    pub above : (x y w : X) → lt x y ≡ true → lt w y ≡ false → lt x w ≡ true
    above x y w e h = by (lt x w) refl
      where
        by : (b : Bool) → lt x w ≡ b → lt x w ≡ true
        by true f = f
        by false f = absurd (true≢false (sym e ∙ o.chain x w y f h))

    none : (z x y : X) (ys : List X) → ties lt z x ≡ true → lt x y ≡ true → Rises (y ∷ ys) → filter (ties lt z) (y ∷ ys) ≡ []
    none z x y [] t e h = ap (λ b. cond b (y ∷ []) []) (apart z x y t e)
    none z x y (w ∷ ws) t e h = ap (λ b. cond b (y ∷ filter (ties lt z) (w ∷ ws)) (filter (ties lt z) (w ∷ ws))) (apart z x y t e) ∙ none z x w ws t (above x y w e h.0) h.1

    pub place_ties : (z x : X) (ys : List X) → Rises ys → filter (ties lt z) (place x ys) ≡ filter (ties lt z) ys ++ filter (ties lt z) (x ∷ [])
    place_ties z x [] h = refl
    place_ties z x (y ∷ ys) h = by (lt x y) refl (place_ties z x ys (rises_tail y ys h))
      where
        t : X → Bool
        t = ties lt z

        front : (b : Bool) → ties lt z x ≡ b → lt x y ≡ true → cond b (x ∷ filter t (y ∷ ys)) (filter t (y ∷ ys)) ≡ filter t (y ∷ ys) ++ cond b (x ∷ []) []
        front true u e = let n = none z x y ys u e h in ap (λ l. x ∷ l) n ∙ sym (ap (λ l. l ++ x ∷ []) n)
        front false u e = sym (append-nil (filter t (y ∷ ys)))

        on : (b : Bool) → filter t (place x ys) ≡ filter t ys ++ filter t (x ∷ []) → cond b (y ∷ filter t (place x ys)) (filter t (place x ys)) ≡ cond b (y ∷ filter t ys) (filter t ys) ++ filter t (x ∷ [])
        on true more = ap (λ l. y ∷ l) more
        on false more = more

        by : (b : Bool) → lt x y ≡ b → filter t (place x ys) ≡ filter t ys ++ filter t (x ∷ []) → filter t (cond b (x ∷ y ∷ ys) (y ∷ place x ys)) ≡ filter t (y ∷ ys) ++ filter t (x ∷ [])
        by true e more = front (t x) refl e
        by false e more = on (t y) more

    -- ---- one order

    same_first : (y z : X) (ys zs : List X) → Rises (y ∷ ys) → Rises (z ∷ zs) → SameTies (y ∷ ys) (z ∷ zs) → lt y z ≡ false
    same_first y z ys zs h k s = by (lt y z) refl
      where
        by : (b : Bool) → lt y z ≡ b → lt y z ≡ false
        by true e =
            let bad : y ∷ filter (ties lt y) ys ≡ [] = sym (ap (λ b. cond b (y ∷ filter (ties lt y) ys) (filter (ties lt y) ys)) (tied y)) ∙ s y ∙ none y y z zs (tied y) e k in
            absurd cc
        by false e = e

    heads : (y z : X) (ys zs : List X) → Rises (y ∷ ys) → Rises (z ∷ zs) → SameTies (y ∷ ys) (z ∷ zs) → y ≡ z
    heads y z ys zs h k s =
        let both : ties lt y z ≡ true = no_both (lt y z) (lt z y) (same_first y z ys zs h k s) (same_first z y zs ys k h (λ x. sym (s x))) in
        let t = ties lt y in
        let fronts : y ∷ filter t ys ≡ z ∷ filter t zs = sym (ap (λ b. cond b (y ∷ filter t ys) (filter t ys)) (tied y)) ∙ s y ∙ ap (λ b. cond b (z ∷ filter t zs) (filter t zs)) both in
        cc

    tails : (b : Bool) (y z : X) (xs ys : List X) → y ≡ z → cond b (y ∷ xs) xs ≡ cond b (z ∷ ys) ys → xs ≡ ys
    tails true y z xs ys e h = cc
    tails false y z xs ys e h = h

    -- lists in order with the same ties are one
    pub one_order : (ys zs : List X) → Rises ys → Rises zs → SameTies ys zs → ys ≡ zs
    one_order [] [] h k s = refl
    one_order [] (z ∷ zs) h k s = let bad : [] ≡ z ∷ filter (ties lt z) zs = s z ∙ ap (λ b. cond b (z ∷ filter (ties lt z) zs) (filter (ties lt z) zs)) (tied z) in absurd cc
    one_order (y ∷ ys) [] h k s = let bad : y ∷ filter (ties lt y) ys ≡ [] = sym (ap (λ b. cond b (y ∷ filter (ties lt y) ys) (filter (ties lt y) ys)) (tied y)) ∙ s y in absurd cc
    one_order (y ∷ ys) (z ∷ zs) h k s =
        let e = heads y z ys zs h k s in
        let more = one_order ys zs (rises_tail y ys h) (rises_tail z zs k) (λ x. tails (ties lt x y) y z (filter (ties lt x) ys) (filter (ties lt x) zs) e (s x ∙ ap (λ w. cond (ties lt x w) (z ∷ filter (ties lt x) zs) (filter (ties lt x) zs)) (sym e))) in
        ap (λ x. x ∷ ys) e ∙ ap (λ l. z ∷ l) more

    -- ---- through a function

    -- who ties with one of two that tie, ties with the other
    swapped : (x y w : X) → ties lt x y ≡ true → ties lt x w ≡ true → ties lt y w ≡ true
    swapped x y w t u =
        let p = two_no (lt x y) (lt y x) t in
        let q = two_no (lt x w) (lt w x) u in
        no_both (lt y w) (lt w y) (o.chain y x w p.1 q.0) (o.chain w x y q.1 p.0)

    turned_ties : (x y : X) → ties lt x y ≡ true → ties lt y x ≡ true
    turned_ties x y t = let p = two_no (lt x y) (lt y x) t in no_both (lt y x) (lt x y) p.1 p.0

    like : (x y w : X) → ties lt x y ≡ true → ties lt x w ≡ ties lt y w
    like x y w t = by (ties lt x w) (ties lt y w) refl refl
      where
        by : (b c : Bool) → ties lt x w ≡ b → ties lt y w ≡ c → b ≡ c
        by true true e f = refl
        by true false e f = sym (swapped x y w t e) ∙ f
        by false true e f = sym e ∙ swapped y x w (turned_ties x y t) f
        by false false e f = refl

    module _ {P : Type 0} (f : P → X) where
      abbrev through : P → P → Bool
      through p q = lt (f p) (f q)

      kept_mapped : (t : X → Bool) (ps : List P) → filter t (map f ps) ≡ map f (filter (λ p. t (f p)) ps)
      kept_mapped t [] = refl
      kept_mapped t (p ∷ ps) = by (t (f p)) (kept_mapped t ps)
        where
          by : (b : Bool) → filter t (map f ps) ≡ map f (filter (λ q. t (f q)) ps) → cond b (f p ∷ filter t (map f ps)) (filter t (map f ps)) ≡ map f (cond b (p ∷ filter (λ q. t (f q)) ps) (filter (λ q. t (f q)) ps))
          by true more = ap (λ l. f p ∷ l) more
          by false more = more

      some_tie : (z : X) (ps : List P) → ((q : P) × (ties lt z (f q) ≡ true)) ⊎ (filter (λ p. ties lt z (f p)) ps ≡ [])
      some_tie z [] = inr refl
      some_tie z (p ∷ ps) = by (ties lt z (f p)) refl (some_tie z ps)
        where
          rest : List P
          rest = filter (λ q. ties lt z (f q)) ps

          by : (b : Bool) → ties lt z (f p) ≡ b → ((q : P) × (ties lt z (f q) ≡ true)) ⊎ (rest ≡ []) → ((q : P) × (ties lt z (f q) ≡ true)) ⊎ (cond b (p ∷ rest) rest ≡ [])
          by true e more = inl (p, e)
          by false e more = more

      module _ (ps qs : List P) (s : IsStableBy through ps qs) where
        by_one : (z : X) (q : P) → ties lt z (f q) ≡ true → filter (λ p. ties lt z (f p)) qs ≡ filter (λ p. ties lt z (f p)) ps
        by_one z q t =
            let same : (rs : List P) → filter (λ p. ties lt z (f p)) rs ≡ filter (ties through q) rs = λ rs. ap (λ (u : P → Bool). filter u rs) (λ i p. like z (f q) (f p) t i) in
            same qs ∙ s q ∙ sym (same ps)

        kept_alike : (z : X) → filter (λ p. ties lt z (f p)) qs ≡ filter (λ p. ties lt z (f p)) ps
        kept_alike z = first (some_tie z qs) (some_tie z ps)
          where
            first : ((q : P) × (ties lt z (f q) ≡ true)) ⊎ (filter (λ p. ties lt z (f p)) qs ≡ []) → ((q : P) × (ties lt z (f q) ≡ true)) ⊎ (filter (λ p. ties lt z (f p)) ps ≡ []) → filter (λ p. ties lt z (f p)) qs ≡ filter (λ p. ties lt z (f p)) ps
            first (inl t) other = by_one z t.0 t.1
            first (inr n) (inl t) = by_one z t.0 t.1
            first (inr n) (inr m) = n ∙ sym m

        pub stable_through : IsStableBy lt (map f ps) (map f qs)
        stable_through z = kept_mapped (ties lt z) qs ∙ ap (map f) (kept_alike z) ∙ sym (kept_mapped (ties lt z) ps)

      rises_through : (ps : List P) → IsSortedBy through ps → Rises (map f ps)
      rises_through [] h = tt
      rises_through (p ∷ []) h = tt
      rises_through (p ∷ q ∷ ps) h = (h 0 p (omega arith) (omega arith), rises_through (q ∷ ps) (λ k d a b. ap (λ n. through (get_or (q ∷ ps) n d) (get_or (q ∷ ps) k d)) (add-one k) ∙ sym (ap (λ n. through (get_or (p ∷ q ∷ ps) n d) (get_or (q ∷ ps) k d)) (add-one (suc k))) ∙ h (suc k) d (omega arith) (omega (arith, b))))

      pub sorted_through : (ps : List P) → IsSortedBy through ps → IsSortedBy lt (map f ps)
      sorted_through ps h = sorted_of (map f ps) (rises_through ps h)

-- ---- two lists place by place

module _ {A B : Type 0} (R : A → B → Type 0) where
  pub zip_take : (n : ℕ) (xs : List A) (ys : List B) → AllZip R xs ys → AllZip R (take n xs) (take n ys)
  zip_take zero xs ys h = tt
  zip_take (suc n) [] [] h = tt
  zip_take (suc n) [] (y ∷ ys) h = absurd h
  zip_take (suc n) (x ∷ xs) [] h = absurd h
  zip_take (suc n) (x ∷ xs) (y ∷ ys) h = (h.0, zip_take n xs ys h.1)

  pub zip_insert : (i : ℕ) (x : A) (y : B) (xs : List A) (ys : List B) → R x y → AllZip R xs ys → AllZip R (insert xs i x) (insert ys i y)
  zip_insert zero x y xs ys r h = (r, h)
  zip_insert (suc i) x y [] [] r h = (r, h)
  zip_insert (suc i) x y [] (w ∷ ws) r h = absurd h
  zip_insert (suc i) x y (v ∷ vs) [] r h = absurd h
  zip_insert (suc i) x y (v ∷ vs) (w ∷ ws) r h = (h.0, zip_insert i x y vs ws r h.1)

  pub zip_at : (i : ℕ) (xs : List A) (ys : List B) (d : A) (e : B) → AllZip R xs ys → i < length xs → R (get_or xs i d) (get_or ys i e)
  zip_at i [] ys d e h a = absurd (omega (arith, a))
  zip_at i (x ∷ xs) [] d e h a = absurd h
  zip_at zero (x ∷ xs) (y ∷ ys) d e h a = h.0
  zip_at (suc i) (x ∷ xs) (y ∷ ys) d e h a = zip_at i xs ys d e h.1 (omega (arith, a))

  pub zip_long : (xs : List A) (ys : List B) → AllZip R xs ys → length xs ≡ length ys
  zip_long [] [] h = refl
  zip_long [] (y ∷ ys) h = absurd h
  zip_long (x ∷ xs) [] h = absurd h
  zip_long (x ∷ xs) (y ∷ ys) h = let more = zip_long xs ys h.1 in omega (arith, more)

  pub zip_more : (xs : List A) (ys : List B) (x : A) (y : B) → AllZip R xs ys → R x y → AllZip R (xs ++ x ∷ []) (ys ++ y ∷ [])
  zip_more [] [] x y h r = (r, tt)
  zip_more [] (w ∷ ws) x y h r = absurd h
  zip_more (v ∷ vs) [] x y h r = absurd h
  zip_more (v ∷ vs) (w ∷ ws) x y h r = (h.0, zip_more vs ws x y h.1 r)
