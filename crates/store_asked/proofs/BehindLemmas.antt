-- What goes strictly behind the first of a sorted list may be left out of the list, and these stay the first.
use Rattle.std.proofs.Common.{◌≡◌, ◌∙◌, inl, inr, ℕ, zero, suc, ◌≤◌, List, [], ◌∷◌, ◌++◌, length, take, Bool, true, false, cond, refl, sym, ap, subst, arith, append-nil, append_assoc}
use Rattle.std.specs.Cmp.{IsStrictWeakOrder}
use Rattle.std.specs.Prelude.{slice_index_or}
use Rattle.std.proofs.lemmas.Bool.{true≢false}
use Rattle.bson_base.specs.Value.{Members}
use Rattle.store_pipeline.specs.Order.{goes_before, Key, Sorts}
use Rattle.store_asked.specs.Near.{LeavesOut}
use Rattle.store_pipeline.proofs.KeyLemmas.{weak}
use Rattle.store_pipeline.proofs.PlaceLemmas.{Rises, above, place, rises_of, rises_tail}
use Rattle.store_pipeline.proofs.SortLemmas.{nothing_sorted, one_list, one_placed}

module _ {X : Type 0} (lt : X → X → Bool) (order : IsStrictWeakOrder lt) (Q : X → Type 0) where
  abbrev pub Thins : List X → List X → Type 0
  Thins = LeavesOut Q

  -- the first that stays isn't less than what stands before it
  head_later : (x y : X) (xs ys : List X) → Rises lt (x ∷ xs) → Thins xs (y ∷ ys) → lt y x ≡ false
  head_later x y [] ys r t = absurd (cc t)
  head_later x y (z ∷ zs) ys r (inl t) = let same : y ≡ z = cc t.1 in ap (λ w. lt w x) same ∙ r.0
  head_later x y (z ∷ zs) ys r (inr t) = order.chain y z x (head_later z y zs ys r.1 t.1) r.0

  -- one that is left out is left out at its place
  thin_out : (d : X) (xs ys : List X) → Q d → Thins xs ys → Thins (place lt d xs) ys
  thin_out d [] ys q t = inr (q, t)
  thin_out d (x ∷ xs) ys q (inl t) = by (lt d x) (thin_out d xs t.0 q t.2)
    where
      by : (b : Bool) → Thins (place lt d xs) t.0 → Thins (cond b (d ∷ x ∷ xs) (x ∷ place lt d xs)) ys
      by true more = inr (q, inl t)
      by false more = inl (t.0, t.1, more)
  thin_out d (x ∷ xs) ys q (inr t) = by (lt d x) (thin_out d xs ys q t.1)
    where
      by : (b : Bool) → Thins (place lt d xs) ys → Thins (cond b (d ∷ x ∷ xs) (x ∷ place lt d xs)) ys
      by true more = inr (q, inr t)
      by false more = inr (t.0, more)

  -- what goes before one that was left out goes before all that stay behind it
  in_front : (d x : X) (xs ys : List X) → lt d x ≡ true → Rises lt (x ∷ xs) → Thins xs ys → place lt d ys ≡ d ∷ ys
  in_front d x xs [] h r t = refl
  in_front d x xs (y ∷ ys) h r t = ap (λ b. cond b (d ∷ y ∷ ys) (y ∷ place lt d ys)) (above lt order d x y h (head_later x y xs ys r t))

  thin_kept : (d : X) (xs ys : List X) → Rises lt xs → Thins xs ys → Thins (place lt d xs) (place lt d ys)
  thin_kept d [] ys r t = inl ([], ap (place lt d) t, refl)
  thin_kept d (x ∷ xs) ys r (inl t) = subst (λ l. Thins (place lt d (x ∷ xs)) (place lt d l)) (sym t.1) (by (lt d x) (thin_kept d xs t.0 (rises_tail lt x xs r) t.2))
    where
      by : (b : Bool) → Thins (place lt d xs) (place lt d t.0) → Thins (cond b (d ∷ x ∷ xs) (x ∷ place lt d xs)) (cond b (d ∷ x ∷ t.0) (x ∷ place lt d t.0))
      by true more = inl (x ∷ t.0, refl, inl (t.0, refl, t.2))
      by false more = inl (place lt d t.0, refl, more)
  thin_kept d (x ∷ xs) ys r (inr t) = by (lt d x) refl (thin_kept d xs ys (rises_tail lt x xs r) t.1)
    where
      by : (b : Bool) → lt d x ≡ b → Thins (place lt d xs) (place lt d ys) → Thins (cond b (d ∷ x ∷ xs) (x ∷ place lt d xs)) (place lt d ys)
      by true h more = inl (ys, in_front d x xs ys h r t.1, inr (t.0, t.1))
      by false h more = inr (t.0, more)

  -- all go before d
  abbrev pub AllBefore : List X → X → Type 0
  AllBefore [] d = Unit {0}
  AllBefore (y ∷ ys) d = (lt y d ≡ true) × AllBefore ys d

  not_behind : (x y d : X) → lt y x ≡ false → lt y d ≡ true → lt x d ≡ true
  not_behind x y d h k = by (lt x d) refl
    where
      by : (b : Bool) → lt x d ≡ b → lt x d ≡ true
      by true e = e
      by false e = absurd (true≢false (sym k ∙ order.chain y x d h e))

  pub all_before : (m : ℕ) (es : List X) (x d : X) → length es ≡ suc m → Rises lt es → lt (slice_index_or es m x) d ≡ true → AllBefore es d
  all_before m [] x d long r h = absurd (omega (arith, long))
  all_before zero (y ∷ []) x d long r h = (h, tt)
  all_before zero (y ∷ z ∷ es) x d long r h = absurd (omega (arith, long))
  all_before (suc m) (y ∷ []) x d long r h = absurd (omega (arith, long))
  all_before (suc m) (y ∷ z ∷ es) x d long r h = let rest = all_before m (z ∷ es) x d (omega (arith, long)) r.1 h in (not_behind y z d r.0 rest.0, rest)

  pub same_first : (n : ℕ) (xs ys : List X) → Rises lt xs → Thins xs ys → n ≤ length ys → ((d : X) → Q d → AllBefore (take n ys) d) → take n xs ≡ take n ys
  same_first zero xs ys r t few behind = refl
  same_first (suc n) [] ys r t few behind = absurd (let none : length ys ≡ 0 = ap length t in omega (arith, few, none))
  same_first (suc n) (x ∷ xs) ys r (inl t) few behind =
      let long : length ys ≡ suc (length t.0) = ap length t.1 in
      ap (λ l. x ∷ l) (same_first n xs t.0 (rises_tail lt x xs r) t.2 (omega (arith, few, long)) (λ d q. (subst (λ l. AllBefore (take (suc n) l) d) t.1 (behind d q)).1)) ∙ ap (take (suc n)) (sym t.1)
  same_first (suc n) (x ∷ xs) [] r (inr t) few behind = absurd (omega (arith, few))
  same_first (suc n) (x ∷ xs) (y ∷ ys) r (inr t) few behind = absurd (true≢false (sym (behind x t.0).0 ∙ head_later x y xs ys r t.1))

module _ (ks : List Key) (Q : Members → Type 0) where
  abbrev pub Thinned : List Members → List Members → Type 0
  Thinned = Thins (goes_before ks) (weak ks) Q

  thinned_on : (more rest ds out xs ys : List Members) → Thinned more rest → Sorts ks ds xs → Sorts ks out ys → Thinned xs ys
      → (us vs : List Members) × Sorts ks (ds ++ more) us × Sorts ks (out ++ rest) vs × Thinned us vs
  thinned_on [] rest ds out xs ys e s u t = (xs, ys, subst (λ l. Sorts ks l xs) (sym (append-nil ds)) s, subst (λ l. Sorts ks l ys) (sym (ap (λ l. out ++ l) e ∙ append-nil out)) u, t)
  thinned_on (d ∷ more) rest ds out xs ys (inl k) s u t =
      let a = thinned_on more k.0 (ds ++ d ∷ []) (out ++ d ∷ []) (place (goes_before ks) d xs) (place (goes_before ks) d ys) k.2 (one_placed ks ds xs d s) (one_placed ks out ys d u)
      (thin_kept (goes_before ks) (weak ks) Q d xs ys (rises_of (goes_before ks) xs s.ordered) t) in
      (a.0, a.1, subst (λ l. Sorts ks l a.0) (append_assoc ds (d ∷ []) more) a.2, subst (λ l. Sorts ks l a.1) (append_assoc out (d ∷ []) k.0 ∙ ap (λ l. out ++ l) (sym k.1)) a.3, a.4)
  thinned_on (d ∷ more) rest ds out xs ys (inr k) s u t =
      let a = thinned_on more rest (ds ++ d ∷ []) out (place (goes_before ks) d xs) ys k.1 (one_placed ks ds xs d s) u (thin_out (goes_before ks) (weak ks) Q d xs ys k.0 t) in
      (a.0, a.1, subst (λ l. Sorts ks l a.0) (append_assoc ds (d ∷ []) more) a.2, a.3, a.4)

  -- what was left out goes behind the first n of what is there, in order: they are the first n of all
  pub first_of_all : (n : ℕ) (ds out xs ys : List Members) → Thinned ds out → Sorts ks ds xs → Sorts ks out ys → n ≤ length ys
      → ((d : Members) → Q d → AllBefore (goes_before ks) (weak ks) Q (take n ys) d) → take n xs ≡ take n ys
  first_of_all n ds out xs ys t s u few behind =
      let a = thinned_on ds out [] [] [] [] t (nothing_sorted ks) (nothing_sorted ks) refl in
      let first : xs ≡ a.0 = one_list ks ds xs a.0 s a.2 in
      let second : a.1 ≡ ys = one_list ks out a.1 ys a.3 u in
      same_first (goes_before ks) (weak ks) Q n xs ys (rises_of (goes_before ks) xs s.ordered) (subst (λ l. Thinned l ys) (sym first) (subst (λ l. Thinned a.0 l) second a.4)) few behind
