-- Whole numbers of 64 bits among the places.
use Rattle.std.specs.Prelude.{◌≡◌, ◌<◌, ◌*◌, ℕ, suc, ◌-◌, ◌/◌, ◌^◌, ◌==◌, ℤ, pos, negsuc, neg_ℤ, Bool, false, if◌then◌else◌, nat_lt, nat_le, Option, Some, None, option_and_then}
use Rattle.bson_base.specs.Doubles.{is_nan}
use Rattle.bson_base.specs.Value.{Value, scalar, double, int32, int64, decimal}
use Rattle.bson_order.specs.Line.{decimal_place, double_place, double_size, infinite, one_whole, whole_place}

-- a size with its sign
abbrev pub signed : Bool → ℕ → ℤ
signed negative size = if negative then neg_ℤ (pos size) else pos size

-- the number, if 64 bits have room for it
abbrev pub in_64_bits : ℤ → Option ℤ
in_64_bits (pos n) = if nat_lt n (2 ^ 63) then Some (pos n) else None
in_64_bits (negsuc n) = if nat_lt n (2 ^ 63) then Some (negsuc n) else None

-- the whole number on the way from a place to zero that is next to it
abbrev pub toward_zero : ℕ → ℤ
toward_zero p = if nat_le (suc infinite) p then pos ((p - suc infinite) / one_whole) else neg_ℤ (pos ((suc infinite - p) / one_whole))

-- what is left of the number at a place without its fraction; none of infinities, nor of what is no number
abbrev pub whole_part : ℕ → Option ℤ
whole_part p = in_64_bits (toward_zero p)

-- the whole number at a place, which has no fraction there
abbrev pub whole_at : ℕ → Option ℤ
whole_at p = option_and_then (λ z. if whole_place z == p then Some z else None) (whole_part p)

-- the size, if 64 bits have room for it
abbrev pub small : ℕ → Option ℕ
small n = if nat_lt n (2 ^ 64) then Some n else None

-- ---- numbers among values

-- the place of a number; nothing else has one
abbrev pub number_place : Value → Option ℕ
number_place (scalar (double n)) = Some (double_place n)
number_place (scalar (int32 z)) = Some (whole_place z)
number_place (scalar (int64 z)) = Some (whole_place z)
number_place (scalar (decimal bs)) = Some (decimal_place bs)
number_place v = None

abbrev pub part_of : Value → Option ℤ
part_of v = option_and_then whole_part (number_place v)

abbrev pub whole_of : Value → Option ℤ
whole_of v = option_and_then whole_at (number_place v)

-- ---- doubles of whole numbers, without their signs

-- the pattern is positive and of the number that is this size
abbrev pub IsDoubleOf : ℕ → ℕ → Type 0
IsDoubleOf size n = (n < 2 ^ 63) × (is_nan n ≡ false) × (double_size n ≡ size * one_whole)

abbrev pub HasNoDouble : ℕ → Type 0
HasNoDouble size = (n : ℕ) → double_size n ≡ size * one_whole → ⊥
