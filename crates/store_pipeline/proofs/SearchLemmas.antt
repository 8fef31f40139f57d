-- The place of a document in a sorted list, by halves.
use Rattle.std.proofs.Common.{◌≡◌, ◌∙◌, ℕ, zero, suc, ◌+◌, ◌-◌, ◌<◌, ◌≤◌, List, [], ◌∷◌, length, get_or, Vec, Bool, true, false, not, ◌==◌, refl, sym, ap, subst, arith}
use Rattle.std.proofs.lemmas.Bool.{true≢false}
use Rattle.std.proofs.lemmas.List.Sorted.{sorted_far}
use Rattle.std.specs.declared.alloc.Global.{Global}
use Rattle.std.specs.List.{AllWithin}
use Rattle.std.specs.List.Sorted.{IsSortedBy}
use Rattle.bson_base.specs.Value.{Members, no_members}
use Rattle.store_pipeline.proofs.KeyLemmas.{weak}
use Rattle.store_pipeline.proofs.PlaceLemmas.{above, zip_at, zip_long}
use Rattle.store_pipeline.specs.Bodies.{AreBodies, GoesFirst, GoesLast, IsBody, IsPlaceFor, OfBody}
use Rattle.store_pipeline.specs.Order.{goes_before, Key}

same_inside : (es : List Members) (i : ℕ) (x y : Members) → i < length es → get_or es i x ≡ get_or es i y
same_inside [] i x y h = absurd (omega (arith, h))
same_inside (e ∷ es) zero x y h = refl
same_inside (e ∷ es) (suc i) x y h = same_inside es i x y (omega (arith, h))

pub refused : (b : Bool) → not b ≡ true → b ≡ false
refused true e = absurd cc
refused false e = refl

pub last_inside : (b : Bool) (n : ℕ) → b ≡ (n == 0) → b ≡ false → n - 1 < n
last_inside b zero e f = absurd (true≢false (sym e ∙ f))
last_inside b (suc n) e f = omega arith

pub first_inside : (b : Bool) (n : ℕ) → b ≡ (n == 0) → b ≡ false → 0 < n
first_inside b zero e f = absurd (true≢false (sym e ∙ f))
first_inside b (suc n) e f = omega arith

module _ (ks : List Key) (d : Members) (es : List Members) (up : IsSortedBy (goes_before ks) es) (middle : ℕ) (inside : middle < length es) where
  upto : goes_before ks d (get_or es middle no_members) ≡ false → AllWithin (λ e. goes_before ks d e ≡ false) es 0 (middle + 1)
  upto h k e a b =
      let far = sorted_far (goes_before ks) (weak ks) es up k middle e (omega (arith, b)) inside in
      (weak ks).chain d (get_or es middle e) (get_or es k e) (subst (λ x. goes_before ks d x ≡ false) (same_inside es middle no_members e inside) h) far

  from_there : goes_before ks d (get_or es middle no_members) ≡ true → AllWithin (λ e. goes_before ks d e ≡ true) es middle (length es)
  from_there h k e a b =
      let far = sorted_far (goes_before ks) (weak ks) es up middle k e a b in
      above (goes_before ks) (weak ks) d (get_or es middle e) (get_or es k e) (subst (λ x. goes_before ks d x ≡ true) (same_inside es middle no_members e inside) h) far

module _ (ks : List Key) (bodies : List (Vec ℕ Global)) (body : List ℕ) where
  -- what is before low and from high on is known
  abbrev pub Searched : ℕ → ℕ → Type 0
  Searched low high = (es : List Members) → AreBodies bodies es → IsSortedBy (goes_before ks) es
      → OfBody body (λ d. AllWithin (λ e. goes_before ks d e ≡ false) es 0 low × AllWithin (λ e. goes_before ks d e ≡ true) es high (length es))

  long : (es : List Members) → AreBodies bodies es → length bodies ≡ length es
  long es are = zip_long (λ b e. IsBody b.items e) bodies es are

  pub search_start : (high : ℕ) → high ≡ length bodies → Searched 0 high
  search_start high h es are up d is = (λ k e a b. absurd (omega (arith, b)), λ k e a b. let l = long es are in absurd (omega (arith, h, l, a, b)))

  pub search_end : (low high : ℕ) → high ≤ low → Searched low high → (es : List Members) → AreBodies bodies es → IsSortedBy (goes_before ks) es → OfBody body (λ d. IsPlaceFor ks d es low)
  search_end low high h s es are up d is = let p = s es are up d is in (p.0, λ k e a b. p.1 k e (omega (arith, h, a)) b)

  module _ (middle : ℕ) (one : Vec ℕ Global) (bytes : List ℕ) (r : Bool) (inside : middle < length bodies) (read : one ≡ get_or bodies middle one) (shown : bytes ≡ one.items)
      (told : OfBody body (λ d. OfBody bytes (λ e. r ≡ goes_before ks d e))) where
    compared : (es : List Members) → AreBodies bodies es → (d : Members) → IsBody body d → r ≡ goes_before ks d (get_or es middle no_members)
    compared es are d is =
        let there : IsBody (get_or bodies middle one).items (get_or es middle no_members) = zip_at (λ b e. IsBody b.items e) middle bodies es one no_members are inside in
        let body_there : IsBody bytes (get_or es middle no_members) = subst (λ (x : List ℕ). IsBody x (get_or es middle no_members)) (ap (λ (v : Vec ℕ Global). v.items) (sym read) ∙ sym shown) there in
        (told d is (get_or es middle no_members) body_there)

    pub search_up : (low high : ℕ) → r ≡ false → Searched low high → Searched (middle + 1) high
    search_up low high t s es are up d is = let l = long es are in (upto ks d es up middle (omega (arith, l, inside)) (sym (compared es are d is) ∙ t), (s es are up d is).1)

    pub search_down : (low high : ℕ) → r ≡ true → Searched low high → Searched low middle
    search_down low high t s es are up d is = let l = long es are in ((s es are up d is).0, from_there ks d es up middle (omega (arith, l, inside)) (sym (compared es are d is) ∙ t))

    pub last_told : middle ≡ length bodies - 1 → r ≡ false → (es : List Members) → AreBodies bodies es → OfBody body (λ d. GoesLast ks d es)
    last_told m t es are d is e a =
        let l = long es are in
        let where' : length es - 1 ≡ middle = omega (arith, l, m) in
        ap (λ n. goes_before ks d (get_or es n e)) where' ∙ ap (goes_before ks d) (same_inside es middle e no_members (omega (arith, l, inside))) ∙ sym (compared es are d is) ∙ t

    pub first_told : middle ≡ 0 → r ≡ true → (es : List Members) → AreBodies bodies es → OfBody body (λ d. GoesFirst ks d es)
    first_told m t es are d is e a =
        let l = long es are in
        ap (λ n. goes_before ks d (get_or es n e)) (sym m) ∙ ap (goes_before ks d) (same_inside es middle e no_members (omega (arith, l, inside))) ∙ sym (compared es are d is) ∙ t

  -- it goes before all
  pub placed_first : (at : ℕ) → at ≡ 0 → ((es : List Members) → AreBodies bodies es → OfBody body (λ d. GoesFirst ks d es))
      → (es : List Members) → AreBodies bodies es → IsSortedBy (goes_before ks) es → OfBody body (λ d. IsPlaceFor ks d es at)
  placed_first at h goes es are up d is =
      (λ k e a b. absurd (omega (arith, h, b)), λ k e a b. from_there ks d es up 0 (omega (arith, b)) (goes es are d is no_members (omega (arith, b))) k e (omega arith) b)

  -- it goes behind all
  pub placed_last : (at : ℕ) → at ≡ length bodies → ((es : List Members) → AreBodies bodies es → OfBody body (λ d. GoesLast ks d es))
      → (es : List Members) → AreBodies bodies es → IsSortedBy (goes_before ks) es → OfBody body (λ d. IsPlaceFor ks d es at)
  placed_last at h goes es are up d is =
      let l = long es are in
      (λ k e a b. let all = upto ks d es up (length es - 1) (omega (arith, h, l, a, b)) (goes es are d is no_members (omega (arith, h, l, a, b))) in all k e a (omega (arith, h, l, b)), λ k e a b. absurd (omega (arith, h, l, a, b)))
