-- Products of two digits each to the base 10^17.
use Rattle.std.proofs.Common.{◌≡◌, ℕ, ◌+◌, ◌-◌, ◌*◌, ◌/◌, ◌%◌, ◌^◌, ◌<◌, ◌≤◌, sym, ap, ◌∙◌, arith, lit<, div-add-mod', lt_of_le_of_lt}
use Rattle.std.proofs.lemmas.Nat.{mul-le}
use Rattle.std.proofs.Math.Nat.{pow-le-pow_right}

pub small : (a b : ℕ) → a < 10 ^ 17 → b < 10 ^ 17 → a * b ≤ (10 ^ 17 - 1) * (10 ^ 17 - 1)
small a b h k = mul-le a b (10 ^ 17 - 1) (10 ^ 17 - 1) (omega arith) (omega arith)

-- a product by digits to the base 10^17
pub spread : (c d : ℕ) → c * d ≡ c / 10 ^ 17 * (d / 10 ^ 17) * 10 ^ 34 + (c / 10 ^ 17 * (d % 10 ^ 17) + c % 10 ^ 17 * (d / 10 ^ 17)) * 10 ^ 17 + c % 10 ^ 17 * (d % 10 ^ 17)
spread c d = ap (λ n. n * d) (sym (div-add-mod' c (10 ^ 17))) ∙ ap (λ n. (c / 10 ^ 17 * 10 ^ 17 + c % 10 ^ 17) * n) (sym (div-add-mod' d (10 ^ 17))) ∙ by (c / 10 ^ 17) (c % 10 ^ 17) (d / 10 ^ 17) (d % 10 ^ 17)
  where
    general : (a b x y h : ℕ) → (a * h + b) * (x * h + y) ≡ a * x * (h * h) + (a * y + b * x) * h + b * y
    general a b x y h = grind arith

    by : (a b x y : ℕ) → (a * 10 ^ 17 + b) * (x * 10 ^ 17 + y) ≡ a * x * 10 ^ 34 + (a * y + b * x) * 10 ^ 17 + b * y
    by a b x y = general a b x y (10 ^ 17)

-- and gathered by digits to the base 10^34
pub gathered : (p m s : ℕ) → (p + m / 10 ^ 17 + (s + m % 10 ^ 17 * 10 ^ 17) / 10 ^ 34) * 10 ^ 34 + (s + m % 10 ^ 17 * 10 ^ 17) % 10 ^ 34 ≡ p * 10 ^ 34 + m * 10 ^ 17 + s
gathered p m s = omega arith

pub gathered_product : (c d p m s : ℕ) → p ≡ c / 10 ^ 17 * (d / 10 ^ 17) → m ≡ c / 10 ^ 17 * (d % 10 ^ 17) + c % 10 ^ 17 * (d / 10 ^ 17) → s ≡ c % 10 ^ 17 * (d % 10 ^ 17)
    → (p + m / 10 ^ 17 + (s + m % 10 ^ 17 * 10 ^ 17) / 10 ^ 34) * 10 ^ 34 + (s + m % 10 ^ 17 * 10 ^ 17) % 10 ^ 34 ≡ c * d
gathered_product c d p m s ep em es =
    gathered p m s ∙ ap (λ n. n * 10 ^ 34 + m * 10 ^ 17 + s) ep ∙ ap (λ n. c / 10 ^ 17 * (d / 10 ^ 17) * 10 ^ 34 + n * 10 ^ 17 + s) em
    ∙ ap (λ n. c / 10 ^ 17 * (d / 10 ^ 17) * 10 ^ 34 + (c / 10 ^ 17 * (d % 10 ^ 17) + c % 10 ^ 17 * (d / 10 ^ 17)) * 10 ^ 17 + n) es ∙ sym (spread c d)

-- so both digits are in range
pub product_wide : (c d h l : ℕ) → c < 10 ^ 34 → d < 10 ^ 34 → h * 10 ^ 34 + l ≡ c * d → h < 10 ^ 34
product_wide c d h l hc hd e =
    let most : c * d ≤ (10 ^ 34 - 1) * (10 ^ 34 - 1) = mul-le c d (10 ^ 34 - 1) (10 ^ 34 - 1) (omega arith) (omega arith) in
    omega (arith, most, e)

pub power_room : (k : ℕ) → k ≤ 34 → 10 ^ k < 2 ^ 128
power_room k h = let up : 10 ^ k ≤ 10 ^ 34 = pow-le-pow_right (lit< tt) h in lt_of_le_of_lt up (lit< tt)

pub power_at_most : (k : ℕ) → k ≤ 34 → 10 ^ k ≤ 10 ^ 34
power_at_most k h = pow-le-pow_right (lit< tt) h

pub power_under : (k : ℕ) → k < 34 → 10 ^ k < 10 ^ 34
power_under k h = let le : k ≤ 33 = omega arith in let up : 10 ^ k ≤ 10 ^ 33 = pow-le-pow_right (lit< tt) le in lt_of_le_of_lt up (lit< tt)
