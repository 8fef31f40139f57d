-- What a pattern of 64 bits means (IEEE 754-2008, 3.4, binary64): the sign, 11 bits of exponent, 52 of fraction.
use Rattle.std.specs.Prelude.{ℕ, ◌^◌, ◌/◌, ◌%◌, Bool, ◌==◌, ◌&&◌, not, nat_le}

abbrev pub exponent : ℕ → ℕ
exponent n = n / 2 ^ 52 % 2 ^ 11

abbrev pub fraction : ℕ → ℕ
fraction n = n % 2 ^ 52

-- the sign's bit is set
abbrev pub is_negative : ℕ → Bool
is_negative n = nat_le (2 ^ 63) n

abbrev pub is_zero : ℕ → Bool
is_zero n = exponent n == 0 && fraction n == 0

abbrev pub is_infinite : ℕ → Bool
is_infinite n = exponent n == 2047 && fraction n == 0

abbrev pub is_nan : ℕ → Bool
is_nan n = exponent n == 2047 && not (fraction n == 0)
