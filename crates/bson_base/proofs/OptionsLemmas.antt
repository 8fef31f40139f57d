-- Putting numbers in order: what comes out is in order, and is the one list in order with those numbers.
use Rattle.std.proofs.Common.{◌≡◌, ℕ, ◌+◌, ◌<◌, ◌≤◌, true, false, cond, List, [], ◌∷◌, get_or, suc, refl, sym, ap, ◌∙◌, subst, arith, eqb, leb}
use Rattle.std.specs.Str.{IsUtf8, chars}
use Rattle.std.proofs.Math.Utf8.{scalar, scalars, encodes}
use Rattle.std.proofs.lemmas.Str.{chars-encodes, encodes-chars, scalars-chars}
use Rattle.std.proofs.lemmas.Grind.{common_steps}
use Rattle.std.proofs.lemmas.List.Sums.{sum_by-cons}
use Rattle.std.proofs.lemmas.List.Sorted.{sum_by-IsPermutation, IsNonDecreasingBy-from_sort}
use Rattle.std.specs.List.{sum_by}
use Rattle.std.specs.List.Sorted.{IsPermutation, IsSorted, IsNonDecreasing}
use Rattle.std.specs.Ordering.{nat_cmp}
use Rattle.bson_base.specs.Kinds.{NeverDescends}
use Rattle.bson_base.specs.Options.{put_in_order, ascending_codes, sorted_text}
use Rattle.std.proofs.lemmas.Bool.{and_from, and_parts}

-- one for n, none for another number
abbrev pub one_at : ℕ → ℕ → ℕ
one_at n x = cond (eqb x n) 1 0

-- how often n occurs in xs
abbrev count : ℕ → List ℕ → ℕ
count n xs = sum_by (one_at n) xs

count-cons : (n x : ℕ) (xs : List ℕ) → count n (x ∷ xs) ≡ one_at n x + count n xs
count-cons n x xs = sum_by-cons (one_at n) x xs

one_at_self : (n : ℕ) → one_at n n ≡ 1
one_at_self n = grind (arith, common_steps)

one_at_other : (n x : ℕ) → n < x → one_at n x ≡ 0
one_at_other n x h = grind (arith, common_steps)

-- a number below the first of a sorted list doesn't occur in it
count_below : (n x : ℕ) (xs : List ℕ) → n < x → NeverDescends (x ∷ xs) → count n (x ∷ xs) ≡ 0
count_below n x [] h up = omega (arith, count-cons n x [], one_at_other n x h)
count_below n x (y ∷ ys) h up = omega (arith, count-cons n x (y ∷ ys), one_at_other n x h, count_below n y ys (omega (arith, up.0)) up.1)

NeverDescends-tail : (x : ℕ) (xs : List ℕ) → NeverDescends (x ∷ xs) → NeverDescends xs
NeverDescends-tail x [] up = tt
NeverDescends-tail x (y ∷ ys) up = up.1

same_front : (x y : ℕ) (xs ys : List ℕ) → NeverDescends (x ∷ xs) → NeverDescends (y ∷ ys) → count x (x ∷ xs) ≡ count x (y ∷ ys) → x < y → ⊥
same_front x y xs ys up vp same h = omega (arith, same, count-cons x x xs, one_at_self x, count_below x y ys h vp)

-- two lists in order with the same numbers are one
pub same_order : (xs ys : List ℕ) → NeverDescends xs → NeverDescends ys → ((n : ℕ) → count n xs ≡ count n ys) → xs ≡ ys
same_order [] [] up vp same = refl
same_order [] (y ∷ ys) up vp same = absurd (omega (arith, same y, count-cons y y ys, one_at_self y))
same_order (x ∷ xs) [] up vp same = absurd (omega (arith, same x, count-cons x x xs, one_at_self x))
same_order (x ∷ xs) (y ∷ ys) up vp same =
    let no_less : x < y → ⊥ = same_front x y xs ys up vp (same x) in
    let no_more : y < x → ⊥ = same_front y x ys xs vp up (sym (same y)) in
    let front : x ≡ y = omega (arith, no_less, no_more) in
    let rest : (n : ℕ) → count n xs ≡ count n ys = λ n. omega (arith, same n, count-cons n x xs, count-cons n y ys, ap (one_at n) front) in
    ap (λ z. z ∷ xs) front ∙ ap (λ zs. y ∷ zs) (same_order xs ys (NeverDescends-tail x xs up) (NeverDescends-tail y ys vp) rest)

count-put_in_order : (n c : ℕ) (ds : List ℕ) → count n (put_in_order c ds) ≡ count n (c ∷ ds)
count-put_in_order n c [] = refl
count-put_in_order n c (d ∷ ds) =
    let passed : count n (d ∷ put_in_order c ds) ≡ count n (c ∷ d ∷ ds) =
    omega (arith, count-cons n d (put_in_order c ds), count-put_in_order n c ds, count-cons n c ds, count-cons n c (d ∷ ds), count-cons n d ds) in
    elim (leb c d) as (λ b. count n (cond b (c ∷ d ∷ ds) (d ∷ put_in_order c ds)) ≡ count n (c ∷ d ∷ ds)) [ true ↦ refl | false ↦ passed ]

pub count-ascending : (n : ℕ) (cs : List ℕ) → count n (ascending_codes cs) ≡ count n cs
count-ascending n [] = refl
count-ascending n (c ∷ cs) = omega (arith, count-put_in_order n c (ascending_codes cs), count-cons n c (ascending_codes cs), count-cons n c cs, count-ascending n cs)

after_front : (c d e : ℕ) (es : List ℕ) → d ≤ c → d ≤ e → NeverDescends (put_in_order c (e ∷ es)) → NeverDescends (d ∷ put_in_order c (e ∷ es))
after_front c d e es p q =
    elim (leb c e) as (λ b. NeverDescends (cond b (c ∷ e ∷ es) (e ∷ put_in_order c es)) → NeverDescends (d ∷ cond b (c ∷ e ∷ es) (e ∷ put_in_order c es))) [ true ↦ λ up. (p, up) | false ↦ λ up. (q, up) ]

NeverDescends-put_in_order : (c : ℕ) (ds : List ℕ) → NeverDescends ds → NeverDescends (put_in_order c ds)
NeverDescends-put_in_order c [] up = tt
NeverDescends-put_in_order c (d ∷ []) up =
    elim (leb c d) as (λ b. leb c d ≡ b → NeverDescends (cond b (c ∷ d ∷ []) (d ∷ c ∷ []))) [ true ↦ λ e. (grind (arith, common_steps, e), tt) | false ↦ λ e. (grind (arith, common_steps, e), tt) ] refl
NeverDescends-put_in_order c (d ∷ e ∷ es) up =
    let rest = NeverDescends-put_in_order c (e ∷ es) up.1 in
    elim (leb c d) as (λ b. leb c d ≡ b → NeverDescends (cond b (c ∷ d ∷ e ∷ es) (d ∷ put_in_order c (e ∷ es)))) [
      | true ↦ λ h. (grind (arith, common_steps, h), up)
      | false ↦ λ h. after_front c d e es (grind (arith, common_steps, h)) up.0 rest
    ]
    refl

pub NeverDescends-ascending : (cs : List ℕ) → NeverDescends (ascending_codes cs)
NeverDescends-ascending [] = tt
NeverDescends-ascending (c ∷ cs) = NeverDescends-put_in_order c (ascending_codes cs) (NeverDescends-ascending cs)

pub never_descends : (xs : List ℕ) → IsNonDecreasing xs → NeverDescends xs
never_descends [] up = tt
never_descends (x ∷ []) up = tt
never_descends (x ∷ y ∷ ys) up =
    let rest : IsNonDecreasing (y ∷ ys) = λ i j d le lt. subst (λ n. get_or (y ∷ ys) i d ≤ n) refl (up (suc i) (suc j) d (omega arith) (omega arith)) in
    (up 0 1 0 (omega arith) (omega arith), never_descends (y ∷ ys) rest)

-- what a sort leaves is the numbers in order
pub ascending_from_sort : (xs ys : List ℕ) → IsPermutation xs ys → IsSorted nat_cmp ys → ys ≡ ascending_codes xs
ascending_from_sort xs ys moved sorted =
    same_order ys (ascending_codes xs) (never_descends ys (IsNonDecreasingBy-from_sort (λ x. x) ys sorted)) (NeverDescends-ascending xs)
    (λ n. sum_by-IsPermutation (one_at n) xs ys moved ∙ sym (count-ascending n xs))

-- numbers in order stay as they are
pub ascending_stays : (cs : List ℕ) → NeverDescends cs → ascending_codes cs ≡ cs
ascending_stays cs up = same_order (ascending_codes cs) cs (NeverDescends-ascending cs) up (λ n. count-ascending n cs)

pub scalars-put_in_order : (c : ℕ) (ds : List ℕ) → scalar c ≡ true → scalars ds ≡ true → scalars (put_in_order c ds) ≡ true
scalars-put_in_order c [] one rest = grind (arith, common_steps, one)
scalars-put_in_order c (d ∷ ds) one rest =
    let first : scalar d ≡ true = (and_parts (scalar d) (scalars ds) rest).0 in
    let others : scalars (put_in_order c ds) ≡ true = scalars-put_in_order c ds one (and_parts (scalar d) (scalars ds) rest).1 in
    elim (leb c d) as (λ b. scalars (cond b (c ∷ d ∷ ds) (d ∷ put_in_order c ds)) ≡ true)
    [ true ↦ and_from (scalar c) (scalars (d ∷ ds)) one rest | false ↦ and_from (scalar d) (scalars (put_in_order c ds)) first others ]

pub scalars-ascending : (cs : List ℕ) → scalars cs ≡ true → scalars (ascending_codes cs) ≡ true
scalars-ascending [] all = refl
scalars-ascending (c ∷ cs) all =
    scalars-put_in_order c (ascending_codes cs) (and_parts (scalar c) (scalars cs) all).0 (scalars-ascending cs (and_parts (scalar c) (scalars cs) all).1)

pub sorted_text-in_order : (text : List ℕ) → IsUtf8 text → NeverDescends (chars (sorted_text text))
sorted_text-in_order text utf =
    subst NeverDescends (sym (chars-encodes (ascending_codes (chars text)) (scalars-ascending (chars text) (scalars-chars text utf)))) (NeverDescends-ascending (chars text))

pub sorted_text-kept : (text : List ℕ) → IsUtf8 text → NeverDescends (chars text) → sorted_text text ≡ text
sorted_text-kept text utf up = ap encodes (ascending_stays (chars text) up) ∙ encodes-chars text utf
