-- Places that are put in and taken out.
use Rattle.std.proofs.Common.{◌≡◌, ◌≢◌, ◌<◌, ◌≤◌, ◌<ℤ◌, ◌-◌, ℕ, ℤ, List, [], ◌∷◌, ◌++◌, ◌||◌, Bool, true, false, if◌then◌else◌, length, get_or, slice_index_or, is_eq, ◌⊎◌, inl, inr, take, ◌+◌, refl, sym, ap, subst, ◌∙◌, arith}
use Rattle.std.specs.List.{AllByRecursion, insert, remove}
use Rattle.std.specs.Ordering.{int_eq, int_cmp}
use Rattle.std.specs.declared.cmp.Ordering.{Ordering}
use Rattle.std.specs.declared.cmp.Ordering.TheVariants.{Equal as Alike}
use Rattle.std.proofs.lemmas.Int.{ints}
use Rattle.std.proofs.lemmas.List.{get_or_default, take_more}
use Rattle.std.proofs.lemmas.Bool.Decides.{Decides-int_eq}
use Rattle.std.proofs.lemmas.List.Folds.{list_any-append}
use Rattle.std.proofs.lemmas.List.Sorted.{IsPermutation-insert, IsPermutation-remove, list_any-IsPermutation}
use Rattle.bson_store.specs.Lists.{Ascends, is_among}

pub or_left : (a b : Bool) → a ≡ true → (a || b) ≡ true
or_left true b h = refl
or_left false b h = absurd (cc)

pub or_right : (a b : Bool) → b ≡ true → (a || b) ≡ true
or_right true b h = refl
or_right false b h = h

pub same_place : (p : ℤ) → int_eq p p ≡ true
same_place p = (Decides-int_eq p p).1 refl

pub alone : (p : ℤ) → is_among p (p ∷ []) ≡ true
alone p = or_left (int_eq p p) false (same_place p)

-- one that is found where it was looked for
pub found_among : (p : ℤ) (xs : List ℤ) (i : ℕ) → i < length xs → ((d : ℤ) → int_cmp (slice_index_or xs i d) p ≡ Alike) → is_among p xs ≡ true
found_among p xs i lt h =
    let x = slice_index_or xs i p in
    let there : int_eq x p ≡ true = ap (λ (o : Ordering). is_eq o) (h p) in
    list_any-IsPermutation (λ q. int_eq q p) xs (x ∷ remove xs i) (IsPermutation-remove xs i x lt (get_or_default xs i p x lt)) ∙ or_left (int_eq x p) (is_among p (remove xs i)) there

pub put_there : (p : ℤ) (xs : List ℤ) (i : ℕ) → is_among p (insert xs i p) ≡ true
put_there p xs i = sym (list_any-IsPermutation (λ q. int_eq q p) (p ∷ xs) (insert xs i p) (IsPermutation-insert xs i p)) ∙ or_left (int_eq p p) (is_among p xs) (same_place p)

pub put_kept : (p q : ℤ) (xs : List ℤ) (i : ℕ) → is_among q xs ≡ true → is_among q (insert xs i p) ≡ true
put_kept p q xs i h = sym (list_any-IsPermutation (λ z. int_eq z q) (p ∷ xs) (insert xs i p) (IsPermutation-insert xs i p)) ∙ or_right (int_eq p q) (is_among q xs) h

rest_of : (a b : Bool) → a ≡ false → (a || b) ≡ true → b ≡ true
rest_of true b e h = absurd (cc)
rest_of false b e h = h

other : (x p q : ℤ) → int_cmp x p ≡ Alike → q ≢ p → int_eq x q ≡ false
other x p q e n = by (int_eq x q) refl
  where
    is : x ≡ p
    is = (Decides-int_eq x p).0 (ap (λ (o : Ordering). is_eq o) e)

    by : (b : Bool) → int_eq x q ≡ b → b ≡ false
    by true h = absurd (n (sym ((Decides-int_eq x q).0 h) ∙ is))
    by false h = refl

pub taken_kept : (p q : ℤ) (xs : List ℤ) (i : ℕ) → i < length xs → ((d : ℤ) → int_cmp (slice_index_or xs i d) p ≡ Alike) → q ≢ p → is_among q xs ≡ true → is_among q (remove xs i) ≡ true
taken_kept p q xs i lt at n h =
    let x = slice_index_or xs i p in
    rest_of (int_eq x q) (is_among q (remove xs i)) (other x p q (at p) n) (sym (list_any-IsPermutation (λ z. int_eq z q) xs (x ∷ remove xs i) (IsPermutation-remove xs i x lt (get_or_default xs i p x lt))) ∙ h)

-- nothing but that one is put in
pub put_only : (p q : ℤ) (xs : List ℤ) (i : ℕ) → q ≢ p → is_among q (insert xs i p) ≡ true → is_among q xs ≡ true
put_only p q xs i n h =
    rest_of (int_eq p q) (is_among q xs) (by (int_eq p q) refl) (list_any-IsPermutation (λ z. int_eq z q) (p ∷ xs) (insert xs i p) (IsPermutation-insert xs i p) ∙ h)
  where
    by : (b : Bool) → int_eq p q ≡ b → b ≡ false
    by true e = absurd (n (sym ((Decides-int_eq p q).0 e)))
    by false e = refl

-- a refusal puts in nothing
pub put_or_not_only : (p q : ℤ) (xs ys : List ℤ) (i : ℕ) (b : Bool) → ys ≡ (if b then insert xs i p else xs) → q ≢ p → is_among q ys ≡ true → is_among q xs ≡ true
put_or_not_only p q xs ys i true is n h = put_only p q xs i n (sym (ap (is_among q) is) ∙ h)
put_or_not_only p q xs ys i false is n h = sym (ap (is_among q) is) ∙ h

pub taken_only : (p q : ℤ) (xs : List ℤ) (i : ℕ) → i < length xs → is_among q (remove xs i) ≡ true → is_among q xs ≡ true
taken_only p q xs i lt h =
    let x = slice_index_or xs i p in
    list_any-IsPermutation (λ z. int_eq z q) xs (x ∷ remove xs i) (IsPermutation-remove xs i x lt (get_or_default xs i p x lt)) ∙ or_right (int_eq x q) (is_among q (remove xs i)) h

pub not_alone : (p q : ℤ) → q ≢ p → is_among q (p ∷ []) ≡ true → ⊥
not_alone p q n h = absurd (let x : false ≡ true = put_only p q [] 0 n h in cc)

pub behind_there : (p : ℤ) (xs : List ℤ) → is_among p (xs ++ p ∷ []) ≡ true
behind_there p xs = list_any-append (λ q. int_eq q p) xs (p ∷ []) ∙ or_right (is_among p xs) (is_among p (p ∷ [])) (alone p)

pub behind_kept : (p q : ℤ) (xs : List ℤ) → is_among q xs ≡ true → is_among q (xs ++ p ∷ []) ≡ true
behind_kept p q xs h = list_any-append (λ z. int_eq z q) xs (p ∷ []) ∙ or_left (is_among q xs) (is_among q (p ∷ [])) h

-- ---- ascending places

abbrev last_from : ℤ → List ℤ → ℤ
last_from x [] = x
last_from x (y ∷ ys) = last_from y ys

last_at : (x : ℤ) (xs : List ℤ) (d : ℤ) → get_or (x ∷ xs) (length xs) d ≡ last_from x xs
last_at x [] d = refl
last_at x (y ∷ ys) d = last_at y ys d

all_below : (x : ℤ) (xs : List ℤ) (p : ℤ) → Ascends (x ∷ xs) → last_from x xs <ℤ p → AllByRecursion (λ q. q <ℤ p) (x ∷ xs)
all_below x [] p h l = (l, tt)
all_below x (y ∷ ys) p h l =
    let r = all_below y ys p h.1 l in
    let step = h.0.0 in
    let rest = r.0 in
    let now : x <ℤ p = omega (arith, ints, step, rest) in
    (now, r)

pub below_last : (xs : List ℤ) (last p : ℤ) → 0 < length xs → last ≡ get_or xs (length xs - 1) last → last <ℤ p → Ascends xs → AllByRecursion (λ q. q <ℤ p) xs
below_last [] last p some is l h = absurd (omega (arith, some))
below_last (x ∷ xs) last p some is l h =
    let n : length (x ∷ xs) - 1 ≡ length xs = omega arith in
    all_below x xs p h (subst (λ (z : ℤ). z <ℤ p) (is ∙ ap (λ k. get_or (x ∷ xs) k last) n ∙ last_at x xs last) l)

pub below_none : (xs : List ℤ) (p : ℤ) → length xs ≤ 0 → AllByRecursion (λ q. q <ℤ p) xs
below_none [] p none = tt
below_none (x ∷ xs) p none = absurd (omega (arith, none))

all_behind : (x p : ℤ) (xs : List ℤ) → x <ℤ p → AllByRecursion (λ q. x <ℤ q) xs → AllByRecursion (λ q. x <ℤ q) (xs ++ p ∷ [])
all_behind x p [] l h = (l, tt)
all_behind x p (y ∷ ys) l h = (h.0, all_behind x p ys l h.1)

pub ascends_more : (xs : List ℤ) (p : ℤ) → AllByRecursion (λ q. q <ℤ p) xs → Ascends xs → Ascends (xs ++ p ∷ [])
ascends_more [] p b h = (tt, tt)
ascends_more (x ∷ xs) p b h = (all_behind x p xs b.0 h.0, ascends_more xs p b.1 h.1)

-- ---- all of a beginning

pub or_cases : (a b : Bool) → (a || b) ≡ true → (a ≡ true) ⊎ (b ≡ true)
or_cases true b h = inl refl
or_cases false b h = inr h

pub began : (p : ℤ) (xs : List ℤ) (i : ℕ) (x : ℤ) → i < length xs → x ≡ get_or xs i x → is_among p (take (i + 1) xs) ≡ true → (is_among p (take i xs) ≡ true) ⊎ (p ≡ x)
began p xs i x lt is h =
    let e : take (i + 1) xs ≡ take i xs ++ x ∷ [] = take_more xs i x lt ∙ ap (λ (z : ℤ). take i xs ++ z ∷ []) (sym is) in
    let both = sym (list_any-append (λ q. int_eq q p) (take i xs) (x ∷ [])) ∙ ap (is_among p) (sym e) ∙ h in
    elim (or_cases (is_among p (take i xs)) (is_among p (x ∷ [])) both) [ inl t ↦ inl t | inr t ↦ inr (one x t) ]
  where
    one : (y : ℤ) → is_among p (y ∷ []) ≡ true → p ≡ y
    one y t = elim (or_cases (int_eq y p) false t) [ inl u ↦ sym ((Decides-int_eq y p).0 u) | inr u ↦ absurd (cc) ]

pub among_first : (p x : ℤ) (xs out : List ℤ) (i : ℕ) → i < length xs → x ≡ get_or xs i x → ((q : ℤ) → is_among q (take i xs) ≡ true → is_among q out ≡ true) → is_among x out ≡ true → is_among p (take (i + 1) xs) ≡ true → is_among p out ≡ true
among_first p x xs out i lt is all one h = elim (began p xs i x lt is h) [ inl t ↦ all p t | inr e ↦ subst (λ q. is_among q out ≡ true) (sym e) one ]

pub under_there : (p : ℤ) (xs ys : List ℤ) → is_among p ys ≡ true → is_among p (xs ++ ys) ≡ true
under_there p xs ys h = list_any-append (λ q. int_eq q p) xs ys ∙ or_right (is_among p xs) (is_among p ys) h

pub over_there : (p : ℤ) (xs ys : List ℤ) → is_among p xs ≡ true → is_among p (xs ++ ys) ≡ true
over_there p xs ys h = list_any-append (λ q. int_eq q p) xs ys ∙ or_left (is_among p xs) (is_among p ys) h
