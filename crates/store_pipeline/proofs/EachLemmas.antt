-- Lists that are gone through from the front: what was made of the first ones, and of one more.
use Rattle.std.proofs.Common.{◌≡◌, ◌≢◌, ◌∙◌, ◌==◌, Bool, true, false, ◌+◌, ◌<◌, ◌≤◌, ℕ, zero, suc, List, [], ◌∷◌, ◌++◌, map, take, drop, length, get_or, refl, sym, ap, subst, arith, take_all}
use Rattle.std.specs.List.{AllByRecursion, AllZip}
use Rattle.std.proofs.lemmas.Bool.{eqb-true}
use Rattle.std.proofs.lemmas.List.{map-append, nil_from_length, take_more}
use Rattle.store_pipeline.proofs.PlaceLemmas.{zip_at, zip_long, zip_more}

-- ---- parts of a list

pub none_in : {A : Type 0} (xs : List A) (b : Bool) → b ≡ (length xs == 0) → b ≡ true → xs ≡ []
none_in xs b is on = nil_from_length xs (eqb-true (length xs) 0 (sym is ∙ on))

pub some_in : {A : Type 0} (xs : List A) (b : Bool) → b ≡ (length xs == 0) → b ≡ false → xs ≢ []
some_in xs b is off none = let e : true ≡ false = ap (λ ys. length ys == 0) (sym none) ∙ sym is ∙ off in absurd cc

pub some_mapped : {A B : Type 0} (f : A → B) (xs : List A) → xs ≢ [] → map f xs ≢ []
some_mapped f [] some none = some refl
some_mapped f (x ∷ xs) some none = cc

-- an item between those before it and those behind it
pub parted : {A : Type 0} (i : ℕ) (xs : List A) (d : A) → i < length xs → xs ≡ take i xs ++ get_or xs i d ∷ drop (suc i) xs
parted i [] d low = absurd (omega (arith, low))
parted zero (x ∷ xs) d low = refl
parted (suc i) (x ∷ xs) d low = ap (λ l. x ∷ l) (parted i xs d (omega (arith, low)))

pub mapped_at : {A B : Type 0} (f : A → B) (i : ℕ) (xs : List A) (x : A) (d : B) → i < length xs → x ≡ get_or xs i x → f x ≡ get_or (map f xs) i d
mapped_at f i [] x d low is = absurd (omega (arith, low))
mapped_at f zero (y ∷ xs) x d low is = ap f is
mapped_at f (suc i) (y ∷ xs) x d low is = mapped_at f i xs x d (omega (arith, low)) is

pub map_through : {A B C : Type 0} (f : A → B) (g : B → C) (xs : List A) → map (λ x. g (f x)) xs ≡ map g (map f xs)
map_through f g [] = refl
map_through f g (x ∷ xs) = ap (λ l. g (f x) ∷ l) (map_through f g xs)

-- one more was mapped
pub map_more : {A B : Type 0} (f : A → B) (i : ℕ) (xs : List A) (x : A) (ys : List B) (y : B) → i < length xs → x ≡ get_or xs i x → y ≡ f x → ys ≡ map f (take i xs) → ys ++ y ∷ [] ≡ map f (take (i + 1) xs)
map_more f i xs x ys y low is one before =
    ap (λ l. l ++ y ∷ []) before ∙ ap (λ z. map f (take i xs) ++ z ∷ []) (one ∙ ap f is) ∙ sym (ap (map f) (take_more xs i x low) ∙ map-append f (take i xs) (get_or xs i x ∷ []))

-- ---- what holds of all

module _ {A : Type 0} (P : A → Type 0) where
  pub all_more : (xs : List A) (x : A) → AllByRecursion P xs → P x → AllByRecursion P (xs ++ x ∷ [])
  all_more [] x h p = (p, tt)
  all_more (y ∷ xs) x h p = (h.0, all_more xs x h.1 p)

  pub all_both : (xs ys : List A) → AllByRecursion P xs → AllByRecursion P ys → AllByRecursion P (xs ++ ys)
  all_both [] ys h k = k
  all_both (x ∷ xs) ys h k = (h.0, all_both xs ys h.1 k)

  pub all_at : (i : ℕ) (xs : List A) (d : A) → i < length xs → AllByRecursion P xs → P (get_or xs i d)
  all_at i [] d low h = absurd (omega (arith, low))
  all_at zero (x ∷ xs) d low h = h.0
  all_at (suc i) (x ∷ xs) d low h = all_at i xs d (omega (arith, low)) h.1

pub all_mapped : {A B : Type 0} (P : A → Type 0) (Q : B → Type 0) (f : A → B) (xs : List A) → ((x : A) → P x → Q (f x)) → AllByRecursion P xs → AllByRecursion Q (map f xs)
all_mapped P Q f [] each h = tt
all_mapped P Q f (x ∷ xs) each h = (each x h.0, all_mapped P Q f xs each h.1)

-- ---- two lists beside each other

pub zip_both : {A B : Type 0} (R : A → B → Type 0) (xs us : List A) (ys vs : List B) → AllZip R xs ys → AllZip R us vs → AllZip R (xs ++ us) (ys ++ vs)
zip_both R [] us [] vs h k = k
zip_both R [] us (y ∷ ys) vs h k = absurd h
zip_both R (x ∷ xs) us [] vs h k = absurd h
zip_both R (x ∷ xs) us (y ∷ ys) vs h k = (h.0, zip_both R xs us ys vs h.1 k)

pub zip_drop : {A B : Type 0} (R : A → B → Type 0) (n : ℕ) (xs : List A) (ys : List B) → AllZip R xs ys → AllZip R (drop n xs) (drop n ys)
zip_drop R zero xs ys h = h
zip_drop R (suc n) [] [] h = tt
zip_drop R (suc n) [] (y ∷ ys) h = absurd h
zip_drop R (suc n) (x ∷ xs) [] h = absurd h
zip_drop R (suc n) (x ∷ xs) (y ∷ ys) h = zip_drop R n xs ys h.1

-- f of each on the right
pub zip_mapped : {A B C : Type 0} (R : A → C → Type 0) (f : B → C) (xs : List A) (ys : List B) → AllZip (λ x y. R x (f y)) xs ys → AllZip R xs (map f ys)
zip_mapped R f [] [] h = tt
zip_mapped R f [] (y ∷ ys) h = absurd h
zip_mapped R f (x ∷ xs) [] h = absurd h
zip_mapped R f (x ∷ xs) (y ∷ ys) h = (h.0, zip_mapped R f xs ys h.1)

-- something is made of each on the left
module _ {A B C : Type 0} (R : A → B → Type 0) (S : C → B → Type 0) (xs : List A) (ds : List B) (are : AllZip R xs ds) where
  pub made_more : (i : ℕ) (x z : A) (d : B) (made : List C) (y : C) → i < length xs → x ≡ get_or xs i z → ((e : B) → R x e → S y e) → AllZip S made (take i ds) → AllZip S (made ++ y ∷ []) (take (i + 1) ds)
  made_more i x z d made y low is one before =
      let long : i < length ds = subst (λ n. i < n) (zip_long R xs ds are) low in
      let here : R x (get_or ds i d) = subst (λ a. R a (get_or ds i d)) (sym is) (zip_at R i xs ds z d are low) in
      subst (AllZip S (made ++ y ∷ [])) (sym (take_more ds i d long)) (zip_more S made (take i ds) y (get_or ds i d) before (one (get_or ds i d) here))

  pub made_all : (i : ℕ) (made : List C) → length xs ≤ i → AllZip S made (take i ds) → AllZip S made ds
  made_all i made end before = subst (AllZip S made) (take_all i ds (subst (λ n. n ≤ i) (zip_long R xs ds are) end)) before
