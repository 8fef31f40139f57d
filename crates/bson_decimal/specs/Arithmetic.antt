-- Arithmetic of decimals of 128 bits (IEEE 754-2008, 5.3.1, 5.4.1, 5.5.1): the exact result, with the preferred exponent if there
-- is room for it, and else the decimal that is nearest to it, to the even one at a tie.
use Rattle.std.specs.Prelude.{ℤ, pos, negsuc, ℕ, zero, suc, ◌+◌, ◌-◌, ◌*◌, ◌/◌, ◌%◌, ◌^◌, ◌<◌, ◌==◌, nat_lt, nat_le, Bool, true, false, if◌then◌else◌, not, min}
use Rattle.std.specs.Ordering.{nat_cmp, match_ordering}
use Rattle.bson_decimal.specs.declared.decimal.Decimal.{Decimal}
use Rattle.bson_decimal.specs.declared.decimal.Decimal.TheVariants.{NotANumber, Infinite, Finite}
use Rattle.bson_decimal.specs.declared.wholes.Rounding.{Rounding}
use Rattle.bson_decimal.specs.declared.wholes.Rounding.TheVariants.{TiesToEven, TowardZero, TowardNegative, TowardPositive}

-- what holds of every decimal: 34 digits, and an exponent with the bias 6176
abbrev pub IsDecimal : Decimal → Type 0
IsDecimal NotANumber = Unit {0}
IsDecimal (Infinite s) = Unit {0}
IsDecimal (Finite s c e) = (c < 10 ^ 34) × (e < 12288)

abbrev pub of_integer : ℤ → Decimal
of_integer (pos n) = Finite false n 6176
of_integer (negsuc n) = Finite true (n + 1) 6176

-- ---- the decimal that is nearest to a number

-- a quotient with a remainder, to the nearest whole number, and to the even one at a tie
abbrev pub half_even : ℕ → ℕ → ℕ → ℕ
half_even quotient rest d = quotient + match_ordering (nat_cmp (2 * rest) d) 0 (quotient % 2) 1

-- the whole number that is nearest to n / d
unfoldable pub nearest : ℕ → ℕ → ℕ
nearest n d = half_even (n / d) (n % d) d

-- how many digits of n / d are cut off: at least k, and no more than are needed for 34 to be left; n is enough steps
abbrev pub cut_from : ℕ → ℕ → ℕ → ℕ → ℕ
cut_from zero n d k = k
cut_from (suc more) n d k = if nat_lt (nearest n (d * 10 ^ k)) (10 ^ 34) then k else cut_from more n d (suc k)

-- with k zeros more and the greatest exponent, if there is room
abbrev pub fold_down : Bool → ℕ → ℕ → Decimal
fold_down s c k = if nat_lt (c * 10 ^ k) (10 ^ 34) then Finite s (c * 10 ^ k) 12287 else Infinite s

-- an exponent above the greatest one is folded down
abbrev pub clamp : Bool → ℕ → ℕ → Decimal
clamp s c e = if nat_le e 12287 then Finite s c e else fold_down s c (e - 12287)

-- n / d times 10^x without k digits
abbrev pub cut_digits : Bool → ℕ → ℕ → ℕ → ℕ → Decimal
cut_digits s n d x k = clamp s (nearest n (d * 10 ^ k)) (x + k - 12352)

-- the decimal that is nearest to n / d times 10^x, of those whose exponents aren't below x: so of all, if n / d is whole or has more
-- than 34 digits. To the exponent x, beside its bias, 12352 is added, so that none is under 0
abbrev pub nearest_decimal : Bool → ℕ → ℕ → ℕ → Decimal
nearest_decimal s n d x = cut_digits s n d x (cut_from n n d (12352 - x))

-- the same of a whole number
abbrev pub decimal_of : Bool → ℕ → ℕ → Decimal
decimal_of s n x = nearest_decimal s n 1 x

-- ---- products

-- whether two signs differ
abbrev pub signs_differ : Bool → Bool → Bool
signs_differ s t = if s then not t else t

-- an infinity times c, and c divided by 0
abbrev pub infinity_times : Bool → ℕ → Decimal
infinity_times s c = if c == 0 then NotANumber else Infinite s

abbrev pub multiply : Decimal → Decimal → Decimal
multiply NotANumber b = NotANumber
multiply (Infinite s) NotANumber = NotANumber
multiply (Infinite s) (Infinite t) = Infinite (signs_differ s t)
multiply (Infinite s) (Finite t d f) = infinity_times (signs_differ s t) d
multiply (Finite s c e) NotANumber = NotANumber
multiply (Finite s c e) (Infinite t) = infinity_times (signs_differ s t) c
multiply (Finite s c e) (Finite t d f) = decimal_of (signs_differ s t) (c * d) (e + f + 6176)

-- ---- sums

-- the sum of two numbers that are counted in the same unit, 10^x; if nothing is left of a positive and a negative one, it is 0, not -0
abbrev pub signed_sum : Bool → ℕ → Bool → ℕ → ℕ → Decimal
signed_sum s m t n x =
    if signs_differ s t then match_ordering (nat_cmp m n) (decimal_of t (n - m) x) (decimal_of false 0 x) (decimal_of s (m - n) x)
    else decimal_of s (m + n) x

-- both are counted in the lesser exponent: one of the differences is 0
abbrev pub add : Decimal → Decimal → Decimal
add NotANumber b = NotANumber
add (Infinite s) NotANumber = NotANumber
add (Infinite s) (Infinite t) = if signs_differ s t then NotANumber else Infinite s
add (Infinite s) (Finite t d f) = Infinite s
add (Finite s c e) NotANumber = NotANumber
add (Finite s c e) (Infinite t) = Infinite t
add (Finite s c e) (Finite t d f) = signed_sum s (c * 10 ^ (e - f)) t (d * 10 ^ (f - e)) (min e f + 12352)

-- with the other sign; taking b away from a is to add it so
abbrev pub negate : Decimal → Decimal
negate NotANumber = NotANumber
negate (Infinite s) = Infinite (not s)
negate (Finite s c e) = Finite (not s) c e

-- without its sign
abbrev pub absolute : Decimal → Decimal
absolute NotANumber = NotANumber
absolute (Infinite s) = Infinite false
absolute (Finite s c e) = Finite false c e

-- ---- quotients

-- how many zeros c needs behind it for d to divide it: the fewest from z on, and `more` at the most
abbrev pub zeros_from : ℕ → ℕ → ℕ → ℕ → ℕ
zeros_from zero c d z = z
zeros_from (suc more) c d z = if c * 10 ^ z % d == 0 then z else zeros_from more c d (suc z)

-- with 68 zeros any quotient but 0 has more than 34 digits
unfoldable pub zeros_to_divide : ℕ → ℕ → ℕ
zeros_to_divide c d = zeros_from 68 c d 0

-- c / d times 10^x: if it is exact, the exponent is x, or as much less as the quotient has digits behind that
abbrev pub quotient : Bool → ℕ → ℕ → ℕ → Decimal
quotient s c d x = if d == 0 then infinity_times s c else nearest_decimal s (c * 10 ^ zeros_to_divide c d) d (x - zeros_to_divide c d)

abbrev pub divide : Decimal → Decimal → Decimal
divide NotANumber b = NotANumber
divide (Infinite s) NotANumber = NotANumber
divide (Infinite s) (Infinite t) = NotANumber
divide (Infinite s) (Finite t d f) = Infinite (signs_differ s t)
divide (Finite s c e) NotANumber = NotANumber
divide (Finite s c e) (Infinite t) = Finite (signs_differ s t) 0 0
divide (Finite s c e) (Finite t d f) = quotient (signs_differ s t) c d (e + 18528 - f)

-- ---- remainders

-- what is left of a if b is taken away as often as it goes into it, both counted in the lesser exponent; b's sign doesn't count
abbrev pub remainder : Decimal → Decimal → Decimal
remainder NotANumber b = NotANumber
remainder (Infinite s) b = NotANumber
remainder (Finite s c e) NotANumber = NotANumber
remainder (Finite s c e) (Infinite t) = Finite s c e
remainder (Finite s c e) (Finite t d f) = if d == 0 then NotANumber else Finite s (c * 10 ^ (e - f) % (d * 10 ^ (f - e))) (min e f)

-- ---- multiples of a power of ten

-- a quotient with a remainder, or the next whole number if something is left
abbrev pub next_unless_exact : ℕ → ℕ → ℕ
next_unless_exact quotient rest = quotient + (if rest == 0 then 0 else 1)

-- n / d as a whole number; it is negative if s is true
abbrev pub whole : Rounding → Bool → ℕ → ℕ → ℕ
whole TiesToEven s n d = nearest n d
whole TowardZero s n d = n / d
whole TowardNegative s n d = if s then next_unless_exact (n / d) (n % d) else n / d
whole TowardPositive s n d = if s then n / d else next_unless_exact (n / d) (n % d)

-- a multiple of 10^unit, exactly: one of the differences is 0
abbrev pub round : Rounding → ℕ → Decimal → Decimal
round r unit NotANumber = NotANumber
round r unit (Infinite s) = Infinite s
round r unit (Finite s c e) = decimal_of s (whole r s (c * 10 ^ (e - unit)) (10 ^ (unit - e))) (unit + 12352)
