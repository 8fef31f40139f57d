-- Ascending places, with one put in or taken out.
use Rattle.std.proofs.Common.{◌≡◌, ◌<◌, ◌≤◌, ◌<ℤ◌, ℕ, zero, suc, ℤ, List, [], ◌∷◌, Bool, true, false, is_eq, if◌then◌else◌, length, get_or, inl, inr, refl, sym, ap, subst, arith}
use Rattle.std.specs.List.{AllByRecursion, insert, remove}
use Rattle.std.specs.List.Sorted.{IsNonDecreasingBy, IsPartitionPoint}
use Rattle.std.specs.Ordering.{int_eq, int_cmp, ordering_index, MatchOrdering}
use Rattle.std.specs.declared.cmp.Ordering.{Ordering}
use Rattle.std.specs.declared.cmp.Ordering.TheVariants.{Less, Equal as Alike, Greater}
use Rattle.std.proofs.lemmas.Cmp.{int_ranked}
use Rattle.std.proofs.lemmas.Int.{ints}
use Rattle.std.proofs.lemmas.Bool.Decides.{Decides-int_eq}
use Rattle.bson_store.specs.Lists.{Ascends, is_among}
use Rattle.bson_store.proofs.AmongLemmas.{or_cases}

-- ---- where a place is looked for

later : (x : ℤ) (xs : List ℤ) (j : ℕ) (d : ℤ) → AllByRecursion (λ q. x <ℤ q) xs → j < length xs → x <ℤ get_or xs j d
later x [] j d up low = absurd (omega (arith, low))
later x (y ∷ xs) zero d up low = up.0
later x (y ∷ xs) (suc j) d up low = later x xs j d up.1 (omega (arith, low))

abbrev rank : ℤ → ℤ → ℕ
rank p y = ordering_index (int_cmp y p)

rank_rises : (p a b : ℤ) → a <ℤ b → rank p a ≤ rank p b
rank_rises p a b up = by (int_cmp a p) (int_cmp b p) (int_ranked a p (int_cmp a p) refl) (int_ranked b p (int_cmp b p) refl)
  where
    by : (r s : Ordering) → MatchOrdering r (a <ℤ p) (a ≡ p) (p <ℤ a) → MatchOrdering s (b <ℤ p) (b ≡ p) (p <ℤ b) → ordering_index r ≤ ordering_index s
    by Less s h k = omega arith
    by Alike Less h k = absurd (omega (arith, ints, up, h, k))
    by Alike Alike h k = omega arith
    by Alike Greater h k = omega arith
    by Greater Less h k = absurd (omega (arith, ints, up, h, k))
    by Greater Alike h k = absurd (omega (arith, ints, up, h, k))
    by Greater Greater h k = omega arith

ranks_rise : (p : ℤ) (xs : List ℤ) → Ascends xs → IsNonDecreasingBy (rank p) xs
ranks_rise p [] up i j d le low = absurd (omega (arith, low))
ranks_rise p (x ∷ xs) up zero zero d le low = omega arith
ranks_rise p (x ∷ xs) up zero (suc j) d le low = rank_rises p x (get_or xs j d) (later x xs j d up.0 (omega (arith, low)))
ranks_rise p (x ∷ xs) up (suc i) zero d le low = absurd (omega (arith, le))
ranks_rise p (x ∷ xs) up (suc i) (suc j) d le low = ranks_rise p xs up.1 i j d (omega (arith, le)) (omega (arith, low))

-- all places from the i-th on are greater than p, and all before it less
pub record IsBetween (p : ℤ) (xs : List ℤ) (i : ℕ) : Type 0 where
  pub low : (k : ℕ) (d : ℤ) → k < i → get_or xs k d <ℤ p
  pub high : (k : ℕ) (d : ℤ) → i ≤ k → k < length xs → p <ℤ get_or xs k d

pub between : (p : ℤ) (xs : List ℤ) (i : ℕ) → Ascends xs → (IsNonDecreasingBy (rank p) xs → IsPartitionPoint (λ y. int_cmp y p ≡ Less) (λ y. int_cmp y p ≡ Greater) xs i) → IsBetween p xs i
between p xs i up found =
    let parted = found (ranks_rise p xs up) in
    record {
      low = λ k d before. subst (λ r. MatchOrdering r (get_or xs k d <ℤ p) (get_or xs k d ≡ p) (p <ℤ get_or xs k d)) (parted.0 k d (omega arith) before) (int_ranked (get_or xs k d) p (int_cmp (get_or xs k d) p) refl);
      high = λ k d from inside. subst (λ r. MatchOrdering r (get_or xs k d <ℤ p) (get_or xs k d ≡ p) (p <ℤ get_or xs k d)) (parted.1 k d from inside) (int_ranked (get_or xs k d) p (int_cmp (get_or xs k d) p) refl);
    }

behind_first : (p x : ℤ) (xs : List ℤ) (i : ℕ) → IsBetween p (x ∷ xs) (suc i) → IsBetween p xs i
behind_first p x xs i h = record {
  low = λ k d before. h.low (suc k) d (omega (arith, before));
  high = λ k d from inside. h.high (suc k) d (omega (arith, from)) (omega (arith, inside));
}

-- ---- one is put in

behind_all : (x p : ℤ) (xs : List ℤ) (i : ℕ) → AllByRecursion (λ q. x <ℤ q) xs → x <ℤ p → AllByRecursion (λ q. x <ℤ q) (insert xs i p)
behind_all x p xs zero up h = (h, up)
behind_all x p [] (suc i) up h = (h, tt)
behind_all x p (y ∷ xs) (suc i) up h = (up.0, behind_all x p xs i up.1 h)

all_behind : (p : ℤ) (xs : List ℤ) → ((k : ℕ) (d : ℤ) → k < length xs → p <ℤ get_or xs k d) → AllByRecursion (λ q. p <ℤ q) xs
all_behind p [] h = tt
all_behind p (x ∷ xs) h = (h 0 x (omega arith), all_behind p xs (λ k d inside. h (suc k) d (omega (arith, inside))))

put_ascends : (p : ℤ) (xs : List ℤ) (i : ℕ) → Ascends xs → IsBetween p xs i → Ascends (insert xs i p)
put_ascends p xs zero up h = (all_behind p xs (λ k d inside. h.high k d (omega arith) inside), up)
put_ascends p [] (suc i) up h = (tt, tt)
put_ascends p (x ∷ xs) (suc i) up h = (
  behind_all x p xs i up.0 (h.low 0 x (omega arith)),
  put_ascends p xs i up.1 (behind_first p x xs i h),
)

-- a refusal leaves them
pub put_or_not : (p : ℤ) (xs ys : List ℤ) (i : ℕ) (b : Bool) → Ascends xs → IsBetween p xs i → ys ≡ (if b then insert xs i p else xs) → Ascends ys
put_or_not p xs ys i true up h is = subst Ascends (sym is) (put_ascends p xs i up h)
put_or_not p xs ys i false up h is = subst Ascends (sym is) up

-- ---- one is taken out

fewer_behind : (x : ℤ) (xs : List ℤ) (i : ℕ) → AllByRecursion (λ q. x <ℤ q) xs → AllByRecursion (λ q. x <ℤ q) (remove xs i)
fewer_behind x [] zero up = tt
fewer_behind x [] (suc i) up = tt
fewer_behind x (y ∷ xs) zero up = up.1
fewer_behind x (y ∷ xs) (suc i) up = (up.0, fewer_behind x xs i up.1)

pub taken_ascends : (xs : List ℤ) (i : ℕ) → Ascends xs → Ascends (remove xs i)
taken_ascends [] zero up = tt
taken_ascends [] (suc i) up = tt
taken_ascends (x ∷ xs) zero up = up.1
taken_ascends (x ∷ xs) (suc i) up = (fewer_behind x xs i up.0, taken_ascends xs i up.1)

not_above : (p x : ℤ) (xs : List ℤ) → x ≡ p → AllByRecursion (λ q. x <ℤ q) xs → is_among p xs ≡ true → ⊥
not_above p x [] e up h = absurd (cc)
not_above p x (y ∷ xs) e up h = elim (or_cases (int_eq y p) (is_among p xs) h) [ inl t ↦ (let same = (Decides-int_eq y p).0 t in let less = up.0 in absurd (omega (arith, ints, same, less, e))) | inr r ↦ not_above p x xs e up.1 r ]

-- it was there once only
once : (p : ℤ) (xs : List ℤ) (i : ℕ) → Ascends xs → i < length xs → ((d : ℤ) → get_or xs i d ≡ p) → is_among p (remove xs i) ≡ true → ⊥
once p [] i up low at h = absurd (omega (arith, low))
once p (x ∷ xs) zero up low at h = not_above p x xs (at x) up.0 h
once p (x ∷ xs) (suc i) up low at h = elim (or_cases (int_eq x p) (is_among p (remove xs i)) h) [
  | inl t ↦ (let same = (Decides-int_eq x p).0 t in let less = later x xs i x up.0 (omega (arith, low)) in let there = at x in absurd (omega (arith, ints, same, less, there)))
  | inr r ↦ once p xs i up.1 (omega (arith, low)) at r
]

pub taken_gone : (p : ℤ) (xs : List ℤ) (i : ℕ) → Ascends xs → i < length xs → ((d : ℤ) → int_cmp (get_or xs i d) p ≡ Alike) → is_among p (remove xs i) ≡ true → ⊥
taken_gone p xs i up low at = once p xs i up low (λ d. (Decides-int_eq (get_or xs i d) p).0 (ap (λ (o : Ordering). is_eq o) (at d)))

-- it isn't there, if it isn't found
pub not_there : (p : ℤ) (xs : List ℤ) (i : ℕ) → IsBetween p xs i → is_among p xs ≡ true → ⊥
not_there p xs zero h t = not_above p p xs refl (all_behind p xs (λ k d inside. h.high k d (omega arith) inside)) t
not_there p [] (suc i) h t = absurd (cc)
not_there p (x ∷ xs) (suc i) h t = elim (or_cases (int_eq x p) (is_among p xs) t) [
  | inl e ↦ (let same = (Decides-int_eq x p).0 e in let less = h.low 0 x (omega arith) in absurd (omega (arith, ints, same, less)))
  | inr r ↦ not_there p xs i (behind_first p x xs i h) r
]
