-- Lists that are made from others, place by place.
use Rattle.std.proofs.Common.{◌≡◌, ◌≤◌, ◌<◌, ◌+◌, ℕ, List, [], ◌∷◌, ◌++◌, length, take, get_or, map, ap, subst, sym, ◌∙◌}
use Rattle.std.proofs.lemmas.List.{take_all, take_more}
use Rattle.std.specs.List.{AllZip}

module _ {A B : Type 0} (R : A → B → Type 0) where
  zip_push : (xs : List A) (ys : List B) (x : A) (y : B) → AllZip R xs ys → R x y → AllZip R (xs ++ x ∷ []) (ys ++ y ∷ [])
  zip_push [] [] x y h r = (r, tt)
  zip_push [] (b ∷ ys) x y h r = absurd h
  zip_push (a ∷ xs) [] x y h r = absurd h
  zip_push (a ∷ xs) (b ∷ ys) x y h r = (h.0, zip_push xs ys x y h.1 r)

  -- one more is made
  pub zip_more : (xs : List A) (ys zs : List B) (i : ℕ) (x : A) (y : B) → i < length xs → x ≡ get_or xs i x → zs ≡ ys ++ y ∷ [] → AllZip R (take i xs) ys → R x y → AllZip R (take (i + 1) xs) zs
  zip_more xs ys zs i x y lt is put h r =
      subst (AllZip R (take (i + 1) xs)) (sym put) (subst (λ l. AllZip R l (ys ++ y ∷ [])) (ap (λ z. take i xs ++ z ∷ []) is ∙ sym (take_more xs i x lt)) (zip_push (take i xs) ys x y h r))

  -- all are
  pub zip_whole : (xs : List A) (ys : List B) (i : ℕ) → length xs ≤ i → AllZip R (take i xs) ys → AllZip R xs ys
  zip_whole xs ys i h zip = subst (λ l. AllZip R l ys) (take_all i xs h) zip

-- the same of what is seen of them
pub zip_seen : {A B C D : Type 0} (R : C → D → Type 0) (f : A → C) (g : B → D) (xs : List A) (ys : List B) → AllZip (λ x y. R (f x) (g y)) xs ys → AllZip R (map f xs) (map g ys)
zip_seen R f g [] [] h = tt
zip_seen R f g [] (y ∷ ys) h = absurd h
zip_seen R f g (x ∷ xs) [] h = absurd h
zip_seen R f g (x ∷ xs) (y ∷ ys) h = (h.0, zip_seen R f g xs ys h.1)

pub zip_seen_left : {A B C : Type 0} (R : C → B → Type 0) (f : A → C) (xs : List A) (ys : List B) → AllZip (λ x y. R (f x) y) xs ys → AllZip R (map f xs) ys
zip_seen_left R f [] [] h = tt
zip_seen_left R f [] (y ∷ ys) h = absurd h
zip_seen_left R f (x ∷ xs) [] h = absurd h
zip_seen_left R f (x ∷ xs) (y ∷ ys) h = (h.0, zip_seen_left R f xs ys h.1)
