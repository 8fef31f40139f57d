-- The texts in Extended JSON that no scalar has by itself (MongoDB Extended JSON v2, "Conversion table"): whole numbers,
-- doubles, and a byte in hexadecimal.
use Rattle.std.specs.Prelude.{ℕ, ◌+◌, ◌*◌, ◌^◌, ◌==◌, ◌&&◌, ◌||◌, nat_lt, Bool, true, false, if◌then◌else◌, ℤ, pos, negsuc, neg_ℤ, int_le, List, [], ◌∷◌, ◌++◌, length, codes, Option, Some, None, Result, Ok, Err}
use Rattle.hex.specs.Hex.{hex_digit_value}
use Rattle.bson_base.specs.Decimal.{cut, is_e, is_dot, is_named, all_digits, all_zeros, value}
use Rattle.bson_model.specs.declared.extjson.de.Error.{Error}
use Rattle.bson_model.specs.declared.extjson.de.Error.TheVariants.{DeserializationError, FiniteDouble}

-- whether a minus is in front, and what follows the sign, if there is one
abbrev pub sign_and_rest : List ℕ → Bool × List ℕ
sign_and_rest [] = (false, [])
sign_and_rest (c ∷ cs) = if c == 43 then (false, cs) else if c == 45 then (true, cs) else (false, c ∷ cs)

-- one digit or more
abbrev pub is_digits : List ℕ → Bool
is_digits ds = nat_lt 0 (length ds) && all_digits ds

-- ---- whole numbers

abbrev pub with_sign : Bool × List ℕ → ℤ
with_sign (s, ds) = if s then neg_ℤ (pos (value ds)) else pos (value ds)

-- an optional sign, and digits
abbrev pub integer_of : List ℕ → Option ℤ
integer_of t = if is_digits (sign_and_rest t).1 then Some (with_sign (sign_and_rest t)) else None

abbrev pub fits_32 : ℤ → Bool
fits_32 z = int_le (negsuc 2147483647) z && int_le z (pos 2147483647)

abbrev pub fits_64 : ℤ → Bool
fits_64 z = int_le (negsuc 9223372036854775807) z && int_le z (pos 9223372036854775807)

abbrev pub only_where : (ℤ → Bool) → Option ℤ → Option ℤ
only_where p None = None
only_where p (Some z) = if p z then Some z else None

-- the whole number of 32 bits that a text spells
unfoldable pub int_of : List ℕ → Option ℤ
int_of t = only_where fits_32 (integer_of t)

-- the whole number of 64 bits that a text spells
unfoldable pub long_of : List ℕ → Option ℤ
long_of t = only_where fits_64 (integer_of t)

-- ---- doubles: of the finite ones only the zeros

abbrev pub double_sign_bit : Bool → ℕ
double_sign_bit s = if s then 2 ^ 63 else 0

abbrev pub joined_parts : List ℕ × Option (List ℕ) → List ℕ
joined_parts (whole, None) = whole
joined_parts (whole, Some part) = whole ++ part

-- what is before the exponent, without its first dot
abbrev pub without_dot : List ℕ → List ℕ
without_dot t = joined_parts (cut is_dot t)

-- after `e`: an optional sign, and digits
abbrev pub is_exponent : Option (List ℕ) → Bool
is_exponent None = true
is_exponent (Some t) = is_digits (sign_and_rest t).1

-- digits with at most one dot, and an optional exponent
abbrev pub is_numeral : List ℕ × Option (List ℕ) → Bool
is_numeral (front, behind) = is_digits (without_dot front) && is_exponent behind

-- the zero of the sign, if all digits before the exponent are 0
abbrev pub read_numeral : Bool → List ℕ × Option (List ℕ) → Result ℕ Error
read_numeral s n =
    if is_numeral n then (if all_zeros (without_dot n.0) then Ok (double_sign_bit s) else Err FiniteDouble)
    else Err DeserializationError

-- what follows the sign
abbrev pub read_unsigned_double : Bool × List ℕ → Result ℕ Error
read_unsigned_double (s, t) =
    if is_named t (codes "nan") then Ok (double_sign_bit s + 0x7FF8_0000_0000_0000)
    else if is_named t (codes "inf") || is_named t (codes "infinity") then Ok (double_sign_bit s + 0x7FF0_0000_0000_0000)
    else read_numeral s (cut is_e t)

-- the pattern of 64 bits
unfoldable pub double_of : List ℕ → Result ℕ Error
double_of t = read_unsigned_double (sign_and_rest t)

-- ---- a byte

-- the byte that two digits spell, the high one first
abbrev pub byte_from : Option ℕ → Option ℕ → Option ℕ
byte_from (Some h) (Some l) = Some (h * 16 + l)
byte_from _ _ = None

unfoldable pub byte_of : List ℕ → Option ℕ
byte_of (h ∷ l ∷ []) = byte_from (hex_digit_value h) (hex_digit_value l)
byte_of _ = None
