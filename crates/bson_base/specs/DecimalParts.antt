-- What the parts of a decimal mean.
use Rattle.std.specs.Prelude.{◌≡◌, ℕ, ◌<◌, ◌≤◌, ◌^◌, List, ◌++◌, length, true}
use Rattle.bson_base.specs.Decimal.{all_digits, Decimal, not_a_number, infinity, finite, pack, pack_nan}
use Rattle.bson_base.specs.declared.decimal128.digits.Digits.{Digits}
use Rattle.bson_base.specs.declared.decimal128.parts.Parts.{Parts}
use Rattle.bson_base.specs.declared.decimal128.parts.Parts.TheVariants.{NotANumber, Infinite, Finite}

-- the decimal that has these parts
abbrev pub decimal_of_parts : Parts → Decimal
decimal_of_parts (NotANumber s q) = not_a_number
decimal_of_parts (Infinite s) = infinity s
decimal_of_parts (Finite s c e) = finite s c e

-- the bits of parts
abbrev pub bits_of_parts : Parts → ℕ
bits_of_parts (NotANumber s q) = pack_nan s q
bits_of_parts (Infinite s) = pack (infinity s)
bits_of_parts (Finite s c e) = pack (finite s c e)

abbrev pub IsPackable : Parts → Type 0
IsPackable (NotANumber s q) = Unit {0}
IsPackable (Infinite s) = Unit {0}
IsPackable (Finite s c e) = (c < 10 ^ 34) × (e < 12288)

-- finite parts that can be packed
abbrev pub IsFinite : Parts → Type 0
IsFinite (NotANumber s q) = ⊥
IsFinite (Infinite s) = ⊥
IsFinite (Finite s c e) = (c < 10 ^ 34) × (e < 12288)

-- at most k digits, and an exponent that is in range or too low
abbrev pub IsShortened : ℕ → List ℕ → ℕ → Type 0
IsShortened k ds x = (length ds ≤ k) × (all_digits ds ≡ true) × (x < 98304)

-- digits in two runs, one after the other
abbrev pub digits_of : Digits → List ℕ
digits_of d = d.whole.now ++ d.part.now
