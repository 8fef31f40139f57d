-- Keys that mark no typed value: each key that does begins with `$`.
use Rattle.std.proofs.Common.{◌≡◌, ◌<◌, ℕ, List, [], ◌∷◌, length, false, None, get_or, nat_eq, ◌≢◌, refl, subst, arith}
use Rattle.std.proofs.lemmas.Bool.{ne_eqb}
use Rattle.bson_model.specs.JsonKeys.{reserved_of}

other_key : (x : ℕ) (k : List ℕ) → nat_eq x 36 ≡ false → None ≡ reserved_of (x ∷ k)
unfolding reserved_of
other_key x k other = rw other refl

pub empty_key : (k : List ℕ) → length k < 1 → None ≡ reserved_of k
unfolding reserved_of
empty_key [] none = refl
empty_key (x ∷ k) none = absurd (omega (arith, none))

pub unmarked : (bytes k : List ℕ) → bytes ≡ k → get_or bytes 0 0 ≢ 36 → None ≡ reserved_of k
unmarked bytes k same other = subst (λ (l : List ℕ). None ≡ reserved_of l) same (by bytes other)
  where
    by : (l : List ℕ) → get_or l 0 0 ≢ 36 → None ≡ reserved_of l
    by [] other = empty_key [] (omega arith)
    by (x ∷ l) other = other_key x l (ne_eqb x 36 other)
