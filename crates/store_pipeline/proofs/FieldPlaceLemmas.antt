-- The key of a place isn't longer than that of a later one.
use Rattle.std.proofs.Common.{ℕ, ◌+◌, ◌/◌, ◌%◌, ◌^◌, ◌≤◌, ◌<◌, ⊎_elim, List, [], ◌∷◌, ◌++◌, length, ap, arith, length-append}
use Rattle.std.proofs.lemmas.Bool.{cases_lt}
use Rattle.std.proofs.lemmas.Fmt.{decimal_by_steps, decimal_step, length-decimal-le}
use Rattle.std.specs.Prelude.{decimal as digits}

-- no number up to this one has more digits
abbrev NotLonger : ℕ → List ℕ → Type 0
NotLonger m ds = m < 2 ^ 64 → (p : ℕ) → p ≤ m → length (digits p) ≤ length ds

pub not_longer_place : (index place : ℕ) → place ≤ index → index < 2 ^ 31 → length (digits place) ≤ length (digits index)
not_longer_place index place le small = decimal_by_steps NotLonger one more index (omega (arith, small)) (omega (arith, small)) place le
  where
    one : (m : ℕ) → m < 10 → NotLonger m ((48 + m) ∷ [])
    one m few fits p le = length-decimal-le 1 p (omega arith) (omega arith) (omega arith)

    more : (m : ℕ) (ds : List ℕ) → 10 ≤ m → NotLonger (m / 10) ds → NotLonger m (ds ++ ((48 + m % 10) ∷ []))
    more m ds many h fits p le = ⊎_elim
        (λ few. omega (arith, length-append ds ((48 + m % 10) ∷ []), length-decimal-le 1 p (omega arith) (omega arith) (omega arith)))
        (λ lots. omega (arith, length-append ds ((48 + m % 10) ∷ []), ap length (decimal_step p lots (omega arith)), length-append (digits (p / 10)) ((48 + p % 10) ∷ []), h (omega arith) (p / 10) (omega arith)))
        (cases_lt p 10)
