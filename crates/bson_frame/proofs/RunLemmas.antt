-- Runs of bytes up to a 00.
use Rattle.std.proofs.Common.{◌≡◌, ℕ, zero, suc, ◌+◌, ◌<◌, ◌≤◌, List, [], ◌∷◌, ◌++◌, length, take, drop, refl, ap, arith}
use Rattle.std.proofs.Math.Numerals.{add-one}
use Rattle.std.proofs.lemmas.Bool.{eqb-true}
use Rattle.memchr.specs.Find.{Nowhere, Passes, is_byte}
use Rattle.bson_base.specs.Kinds.{HasNo00}

-- if a search for 00 passed n places, the bytes there are a run
pub none_passed : (bytes : List ℕ) (n : ℕ) → n ≤ length bytes → Nowhere (Passes (is_byte 0) bytes) 0 n → HasNo00 (take n bytes)
none_passed bytes zero h none = tt
none_passed [] (suc n) h none = tt
none_passed (zero ∷ bytes) (suc n) h none = absurd (none 0 (omega arith) (omega arith) refl)
none_passed (suc b ∷ bytes) (suc n) h none =
    (omega arith, none_passed bytes n (omega arith) (λ k low high passes. none (suc k) (omega arith) (omega arith) passes))

-- if it found a 00, the bytes are those before it, the 00 and the rest
pub splits_at : (bytes : List ℕ) (k : ℕ) → k < length bytes → Passes (is_byte 0) bytes k → bytes ≡ take k bytes ++ 0 ∷ drop (k + 1) bytes
splits_at [] k h passes = absurd (omega arith)
splits_at (b ∷ bytes) zero h passes = ap (λ (x : ℕ). x ∷ bytes) (eqb-true b 0 passes)
splits_at (b ∷ bytes) (suc k) h passes = rw add-one (ap (λ (x : List ℕ). b ∷ x) (rw add-one at (splits_at bytes k (omega arith) passes)))

-- a run in front of a 00 is the only one
pub run_is_one : (a b x y : List ℕ) → HasNo00 a → HasNo00 b → a ++ 0 ∷ x ≡ b ++ 0 ∷ y → (a ≡ b) × (x ≡ y)
run_is_one [] [] x y p q e = (refl, cc)
run_is_one [] (c ∷ b) x y p q e =
    let zero_head : c ≡ 0 = cc in
    absurd (omega (arith, q.0, zero_head))
run_is_one (c ∷ a) [] x y p q e =
    let zero_head : c ≡ 0 = cc in
    absurd (omega (arith, p.0, zero_head))
run_is_one (c ∷ a) (d ∷ b) x y p q e =
    let tails : a ++ 0 ∷ x ≡ b ++ 0 ∷ y = cc in
    let heads : c ≡ d = cc in
    let r = run_is_one a b x y p.1 q.1 tails in
    (cc (r.0, heads), r.1)

-- a run has no 00 in it
pub no_zero_within : (a x : List ℕ) → HasNo00 (a ++ 0 ∷ x) → ⊥
no_zero_within [] x h = absurd (omega (arith, h.0))
no_zero_within (c ∷ a) x h = no_zero_within a x h.1
