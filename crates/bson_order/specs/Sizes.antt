-- What the sizes and the numbers of the code stand for.
use Rattle.std.specs.Prelude.{ℕ, ◌*◌, ◌^◌, ◌<◌}
use Rattle.bson_order.specs.Line.{infinite, least_double, on_line}
use Rattle.bson_order.specs.declared.sizes.Size.{Size}
use Rattle.bson_order.specs.declared.sizes.Size.TheVariants.{Infinite, Tens, Twos}
use Rattle.bson_order.specs.declared.numbers.Number.{Number}
use Rattle.bson_order.specs.declared.numbers.Number.TheVariants.{NotANumber, Sized}

abbrev pub size_of : Size → ℕ
size_of Infinite = infinite
size_of (Tens c e) = c * 10 ^ e
size_of (Twos s x) = s * 2 ^ x * least_double

-- what holds of the parts of every number of the four kinds
abbrev pub IsSize : Size → Type 0
IsSize Infinite = Unit {0}
IsSize (Tens c e) = (c < 10 ^ 34) × (e < 12288)
IsSize (Twos s x) = (s < 2 ^ 53) × (x < 2046)

abbrev pub place_of : Number → ℕ
place_of NotANumber = 0
place_of (Sized s n) = on_line s (size_of n)

abbrev pub IsNumber : Number → Type 0
IsNumber NotANumber = Unit {0}
IsNumber (Sized s n) = IsSize n
