-- That no decimal is nearer to an exact number than the one that stands for it.
use Rattle.std.specs.Prelude.{◌≡◌, ◌⊎◌, ℕ, ◌+◌, ◌-◌, ◌*◌, ◌%◌, ◌^◌, ◌<◌, ◌≤◌}
use Rattle.bson_decimal.specs.declared.decimal.Decimal.{Decimal}
use Rattle.bson_decimal.specs.declared.decimal.Decimal.TheVariants.{NotANumber, Infinite, Finite}

-- how far two numbers are apart
abbrev pub distance : ℕ → ℕ → ℕ
distance a b = a - b + (b - a)

-- q times d is at most half of d away from n, and q is even if it is just that
abbrev pub IsNearestMultiple : ℕ → ℕ → ℕ → Type 0
IsNearestMultiple n d q = (2 * distance n (q * d) ≤ d) × (2 * distance n (q * d) ≡ d → q % 2 ≡ 0)

-- what is added to an exponent beside its bias
unfoldable pub offset : ℕ
offset = 12352

-- c * 10^e is no farther from n / d times 10^x than b * 10^f is; if it is just as far, they are equal or c is even. All is counted times
-- d, and x has the offset
abbrev pub IsNoFarther : ℕ → ℕ → ℕ → ℕ → ℕ → ℕ → ℕ → Type 0
IsNoFarther n d x c e b f =
    (distance (n * 10 ^ x) (c * (d * 10 ^ (e + offset))) ≤ distance (n * 10 ^ x) (b * (d * 10 ^ (f + offset))))
    × (distance (n * 10 ^ x) (b * (d * 10 ^ (f + offset))) ≡ distance (n * 10 ^ x) (c * (d * 10 ^ (e + offset)))
    → (b * 10 ^ (f + offset) ≡ c * 10 ^ (e + offset)) ⊎ (c % 2 ≡ 0))

-- Of all decimals none is nearer to n / d times 10^x, and of two that are equally near it is the even one. An infinity stands for
-- numbers that are beyond the greatest decimal by half of its last digit at least.
abbrev pub IsNearestDecimal : ℕ → ℕ → ℕ → Decimal → Type 0
IsNearestDecimal n d x NotANumber = ⊥
IsNearestDecimal n d x (Infinite s) = (2 * 10 ^ 34 - 1) * (d * 10 ^ (12287 + offset)) ≤ 2 * (n * 10 ^ x)
IsNearestDecimal n d x (Finite s c e) = (b f : ℕ) → b < 10 ^ 34 → IsNoFarther n d x c e b f
