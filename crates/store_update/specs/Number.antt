-- Sums and products of numbers. Those of integers are exact or refused; with a double among them they are the double that
-- is nearest to the exact one, and to the even one at a tie (IEEE 754-2008, 4.3.1), of the doubles that are nearest to them.
use Rattle.std.specs.Prelude.{ℕ, ℤ, pos, neg_ℤ, ◌+ℤ◌, ◌*ℤ◌, ◌^◌, int_lt, int_le, Bool, true, false, ◌&&◌, if◌then◌else◌, Option, Some, None, Result, Ok, Err, from_bits, to_bits}
use Rattle.std.specs.Float.{Float, binary64}
use Rattle.std.specs.Float.Ieee.{div, of_int}
use Rattle.bson_base.specs.Value.{Value, scalar, int32, int64, double, decimal}
use Rattle.store_update.specs.declared.error.UpdateError.{UpdateError}
use Rattle.store_update.specs.declared.error.UpdateError.TheVariants.{NotANumber, Decimal, Overflow}
use Rattle.store_update.specs.declared.numbers.Number.{Number}
use Rattle.store_update.specs.declared.numbers.Number.TheVariants.{Whole, Double}

-- an integer, or the pattern of a double
abbrev pub number_of : Value → Result Number UpdateError
number_of (scalar (int32 z)) = Ok (Whole z)
number_of (scalar (int64 z)) = Ok (Whole z)
number_of (scalar (double n)) = Ok (Double n)
number_of (scalar (decimal d)) = Err Decimal
number_of _ = Err NotANumber

abbrev pub is_number : Value → Bool
is_number (scalar (int32 z)) = true
is_number (scalar (int64 z)) = true
is_number (scalar (double n)) = true
is_number (scalar (decimal d)) = true
is_number _ = false

abbrev pub is_narrow : Value → Bool
is_narrow (scalar (int32 z)) = true
is_narrow _ = false

abbrev pub fits_32 : ℤ → Bool
fits_32 z = int_le (neg_ℤ (pos 2147483648)) z && int_le z (pos 2147483647)

abbrev pub fits_64 : ℤ → Bool
fits_64 z = int_le (neg_ℤ (pos 9223372036854775808)) z && int_le z (pos 9223372036854775807)

-- of two numbers of 32 bits one of 32 bits, if it fits; else one of 64
abbrev pub number_as : Bool → ℤ → Result Value UpdateError
number_as narrow z = if narrow && fits_32 z then Ok (scalar (int32 z)) else if fits_64 z then Ok (scalar (int64 z)) else Err Overflow

-- the double that a number is, or that is nearest to it
abbrev pub nearest : Number → Float
nearest (Whole z) = of_int binary64 z
nearest (Double n) = from_bits binary64 n

-- by how integers are put together, and doubles
abbrev pub together : (ℤ → ℤ → ℤ) → (Float → Float → Float) → Bool → Number → Number → Result Value UpdateError
together op near narrow (Whole x) (Whole y) = number_as narrow (op x y)
together op near narrow x y = Ok (scalar (double (to_bits binary64 (near (nearest x) (nearest y)))))

abbrev pub onward : {A B : Type 0} → Result A UpdateError → (A → Result B UpdateError) → Result B UpdateError
onward (Ok a) f = f a
onward (Err e) f = Err e

abbrev pub computed : (ℤ → ℤ → ℤ) → (Float → Float → Float) → Value → Value → Result Value UpdateError
computed op near v w = onward (number_of v) (λ x. onward (number_of w) (λ y. together op near (is_narrow v && is_narrow w) x y))

-- a number by a count: the double that is nearest to the quotient of the doubles that are nearest to both
abbrev pub divided : ℕ → Value → Result Value UpdateError
divided n v = onward (number_of v) (λ x. Ok (scalar (double (to_bits binary64 (div binary64 (nearest x) (of_int binary64 (pos n)))))))
