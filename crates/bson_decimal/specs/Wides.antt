-- Numbers below 10^68, as two digits below 10^34.
use Rattle.std.specs.Prelude.{ℕ, Bool, ◌==◌, if◌then◌else◌, ◌/◌, ◌%◌, ◌+◌, ◌*◌, ◌^◌, ◌<◌}
use Rattle.std.specs.Ordering.{match_ordering}
use Rattle.std.specs.declared.cmp.Ordering.{Ordering}
use Rattle.bson_decimal.specs.Arithmetic.{next_unless_exact}
use Rattle.bson_decimal.specs.declared.wide.Wide.{Wide}
use Rattle.bson_decimal.specs.declared.wholes.Rounding.{Rounding}
use Rattle.bson_decimal.specs.declared.wholes.Rounding.TheVariants.{TiesToEven, TowardZero, TowardNegative, TowardPositive}

abbrev pub number_of_wide : Wide → ℕ
number_of_wide w = w.high * 10 ^ 34 + w.low

abbrev pub IsWide : Wide → Type 0
IsWide w = (w.high < 10 ^ 34) × (w.low < 10 ^ 34)

-- q, of which r was cut off, with 1 more if that brings it past a tie or past a multiple of ten; so whatever number of digits is cut
-- off, it is rounded as the whole number is
abbrev pub sticky : ℕ → ℕ → ℕ
sticky q r = q + (if r == 0 then 0 else if q % 5 == 0 then 1 else 0)

abbrev pub sticky_quotient : ℕ → ℕ → ℕ
sticky_quotient d p = sticky (d / p) (d % p)

-- a quotient, or the next number, by what is left and by how twice of it compares with the divisor
abbrev pub round_parts : Rounding → Bool → ℕ → ℕ → Ordering → ℕ
round_parts TiesToEven s q r half = q + match_ordering half 0 (q % 2) 1
round_parts TowardZero s q r half = q
round_parts TowardNegative s q r half = if s then next_unless_exact q r else q
round_parts TowardPositive s q r half = if s then q else next_unless_exact q r
