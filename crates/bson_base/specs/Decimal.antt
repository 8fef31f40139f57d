-- Decimal numbers of 128 bits (IEEE 754-2008, decimal128 with a binary coefficient): their bits, the text that is printed,
-- and what a text reads as.
use Rattle.std.specs.Prelude.{ℕ, zero, suc, ◌+◌, ◌-◌, ◌*◌, ◌/◌, ◌%◌, ◌^◌, ◌<◌, ◌==◌, ◌&&◌, ◌||◌, nat_lt, nat_le, Bool, true, false, if◌then◌else◌, List, [], ◌∷◌, ◌++◌, length, take, drop, replicate, codes, Option, Some, None, Result, Ok, Err}
use Rattle.std.specs.Char.{is_ascii_digit, digit_value}
use Rattle.std.specs.Fmt.{decimal}
use Rattle.std.specs.Str.{bytes_eq, str_to_ascii_lowercase}
use Rattle.bson_base.specs.Answer.{◌>>=◌, result_map}
use Rattle.bson_base.specs.declared.decimal128.ParseError.{ParseError}
use Rattle.bson_base.specs.declared.decimal128.ParseError.TheVariants.{EmptyExponent, InvalidExponent, InvalidCoefficient, Overflow, Underflow, InexactRounding}

-- how many digits a coefficient may have
abbrev pub digit_limit : ℕ
digit_limit = 34

-- what is added to an exponent in the 128 bits
abbrev pub exponent_bias : ℕ
exponent_bias = 6176

-- the greatest exponent, with that bias
abbrev pub greatest_exponent : ℕ
greatest_exponent = 12287

-- A sign is true if negative. As a truth value it needs no premise, and every bit pattern unpacks to one of these.
pub data Decimal : Type 0 where
  not_a_number : Decimal
  -- whether it is negative
  infinity : Bool → Decimal
  -- whether it is negative, the coefficient, and the exponent with its bias
  finite : Bool → ℕ → ℕ → Decimal

-- ---- the 128 bits as a number

-- the number that bytes spell, the lowest first
abbrev pub number_of : List ℕ → ℕ
number_of [] = 0
number_of (b ∷ bs) = b + 256 * number_of bs

-- the first k bytes of a number, the lowest first
abbrev pub low_bytes : ℕ → ℕ → List ℕ
low_bytes zero n = []
low_bytes (suc k) n = n % 256 ∷ low_bytes k (n / 256)

-- the 16 bytes of a number, the lowest first
unfoldable pub sixteen_bytes : ℕ → List ℕ
sixteen_bytes n = low_bytes 16 n

-- a coefficient over the limit counts as 0
abbrev pub within_limit : ℕ → ℕ
within_limit c = if nat_lt c (10 ^ 34) then c else 0

abbrev pub is_negative_decimal : ℕ → Bool
is_negative_decimal n = n / 2 ^ 127 == 1

unfoldable pub unpack : ℕ → Decimal
unpack n =
    if n / 2 ^ 123 % 16 == 15 then (if n / 2 ^ 122 % 2 == 1 then not_a_number else infinity (is_negative_decimal n))
    else if n / 2 ^ 125 % 4 == 3 then finite (is_negative_decimal n) 0 (n / 2 ^ 111 % 2 ^ 14)
    else finite (is_negative_decimal n) (within_limit (n % 2 ^ 113)) (n / 2 ^ 113 % 2 ^ 14)

abbrev pub decimal_sign_bit : Bool → ℕ
decimal_sign_bit s = if s then 2 ^ 127 else 0

-- the first form; a NaN is quiet and positive
abbrev pub pack : Decimal → ℕ
pack not_a_number = 31 * 2 ^ 122
pack (infinity s) = decimal_sign_bit s + 30 * 2 ^ 122
pack (finite s c e) = decimal_sign_bit s + e * 2 ^ 113 + c

-- a NaN with its sign, and whether it signals
abbrev pub pack_nan : Bool → Bool → ℕ
pack_nan s q = decimal_sign_bit s + 31 * 2 ^ 122 + (if q then 2 ^ 121 else 0)

-- what holds of every unpacked decimal
abbrev pub IsUnpacked : Decimal → Type 0
IsUnpacked not_a_number = Unit {0}
IsUnpacked (infinity s) = Unit {0}
IsUnpacked (finite s c e) = (c < 10 ^ 34) × (e < 12288)

abbrev pub is_finite : Decimal → Bool
is_finite (finite s c e) = true
is_finite _ = false

-- ---- printing

abbrev pub minus_if : Bool → List ℕ
minus_if s = if s then 45 ∷ [] else []

-- digits with k of them after the dot
abbrev pub with_dot : ℕ → List ℕ → List ℕ
with_dot k ds =
    if k == 0 then ds
    else if nat_le (length ds) k then 48 ∷ 46 ∷ (replicate (k - length ds) 48 ++ ds)
    else take (length ds - k) ds ++ 46 ∷ drop (length ds - k) ds

-- what follows `E`: the exponent of the first digit, which has the bias
abbrev pub exponent_text : ℕ → List ℕ
exponent_text x = if nat_le exponent_bias x then 43 ∷ decimal (x - exponent_bias) else 45 ∷ decimal (exponent_bias - x)

-- the first digit, and the others after a dot
abbrev pub mantissa : List ℕ → List ℕ
mantissa ds = with_dot (length ds - 1) ds

-- an exponent of at most 0, and of the first digit of at least -6
abbrev pub is_plain : ℕ → ℕ → Bool
is_plain e d = nat_le e exponent_bias && nat_le exponent_bias (e + d + 5)

abbrev pub digits_text : ℕ → List ℕ → List ℕ
digits_text e ds = if is_plain e (length ds) then with_dot (exponent_bias - e) ds else mantissa ds ++ 69 ∷ exponent_text (e + length ds - 1)

abbrev pub print : Decimal → List ℕ
print not_a_number = codes "NaN"
print (infinity s) = minus_if s ++ codes "Infinity"
print (finite s c e) = minus_if s ++ digits_text e (decimal c)

-- what Display writes of 16 bytes
abbrev pub decimal_text : List ℕ → List ℕ
decimal_text bytes = print (unpack (number_of bytes))

-- ---- reading: an exponent has a bias of its own until it is in range, so that none is under 0

abbrev pub reading_bias : ℕ
reading_bias = 65536

-- the least and the greatest exponent of a decimal, with that bias
abbrev pub least_in_range : ℕ
least_in_range = 59360

abbrev pub greatest_in_range : ℕ
greatest_in_range = 71647

-- what is before the first character that p finds, and what is after it
abbrev pub cut : (ℕ → Bool) → List ℕ → List ℕ × Option (List ℕ)
cut p [] = ([], None)
cut p (c ∷ cs) = if p c then ([], Some cs) else (c ∷ (cut p cs).0, (cut p cs).1)

-- one of two characters
abbrev pub marks : ℕ → ℕ → ℕ → Bool
marks a b c = c == a || c == b

abbrev pub is_e : ℕ → Bool
is_e = marks 101 69

abbrev pub is_dot : ℕ → Bool
is_dot = marks 46 46

abbrev pub all_digits : List ℕ → Bool
all_digits [] = true
all_digits (c ∷ cs) = is_ascii_digit c && all_digits cs

abbrev pub all_zeros : List ℕ → Bool
all_zeros [] = true
all_zeros (c ∷ cs) = c == 48 && all_zeros cs

abbrev pub value_after : ℕ → List ℕ → ℕ
value_after n [] = n
value_after n (c ∷ cs) = value_after (n * 10 + digit_value c) cs

abbrev pub value : List ℕ → ℕ
value ds = value_after 0 ds

-- without leading zeros, but with at least one digit
abbrev pub strip : List ℕ → List ℕ
strip [] = []
strip (c ∷ []) = c ∷ []
strip (c ∷ d ∷ ds) = if c == 48 then strip (d ∷ ds) else c ∷ d ∷ ds

-- the exponent: digits up to 32767, or below zero up to 32768

abbrev pub upward : List ℕ → Result ℕ ParseError
upward ds = if nat_lt 0 (length ds) && all_digits ds && nat_le (value ds) 32767 then Ok (reading_bias + value ds) else Err InvalidExponent

abbrev pub downward : List ℕ → Result ℕ ParseError
downward ds = if nat_lt 0 (length ds) && all_digits ds && nat_le (value ds) 32768 then Ok (reading_bias - value ds) else Err InvalidExponent

abbrev pub read_exponent : Option (List ℕ) → Result ℕ ParseError
read_exponent None = Ok reading_bias
read_exponent (Some []) = Err EmptyExponent
read_exponent (Some (c ∷ cs)) = if c == 43 then upward cs else if c == 45 then downward cs else upward (c ∷ cs)

-- the coefficient: its digits, and how many are after the dot

abbrev pub checked_digits : List ℕ → ℕ → Result (List ℕ × ℕ) ParseError
checked_digits ds places = if nat_lt 0 (length ds) && all_digits ds then Ok (ds, places) else Err InvalidCoefficient

abbrev pub read_coefficient : List ℕ × Option (List ℕ) → Result (List ℕ × ℕ) ParseError
read_coefficient (whole, None) = checked_digits whole 0
read_coefficient (whole, Some part) = checked_digits (whole ++ part) (length part)

-- the first k digits, and an exponent that is raised by the number of digits dropped
abbrev pub lift : ℕ → List ℕ → ℕ → Result (List ℕ × ℕ) ParseError
lift k ds x = if nat_lt 32767 (length ds - k) || nat_lt 98303 (x + (length ds - k)) then Err Overflow else Ok (take k ds, x + (length ds - k))

-- only zeros may be dropped
unfoldable pub drop_tail : ℕ → List ℕ → ℕ → Result (List ℕ × ℕ) ParseError
drop_tail k ds x = if all_zeros (drop k ds) then lift k ds x else Err InexactRounding

-- at most `digit_limit` digits, and the exponent that goes with them
abbrev pub shorten : List ℕ → ℕ → Result (List ℕ × ℕ) ParseError
shorten ds x = if nat_le (length ds) digit_limit then Ok (ds, x) else drop_tail digit_limit ds x

-- without the last m digits, which are zeros, and with the least exponent
abbrev pub drop_last : Bool → List ℕ → ℕ → Result Decimal ParseError
drop_last s ds m =
    if nat_lt (length ds) m then Err Underflow
    else if all_zeros (drop (length ds - m) ds) then Ok (finite s (value (take (length ds - m) ds)) 0)
    else Err InexactRounding

-- if the exponent is below the least one, digits are dropped
abbrev pub raise : Bool → List ℕ → ℕ → Result Decimal ParseError
raise s ds x = if value ds == 0 then Ok (finite s 0 0) else drop_last s ds (least_in_range - x)

-- with m more zeros, and with the greatest exponent
abbrev pub append_zeros : Bool → List ℕ → ℕ → Result Decimal ParseError
append_zeros s ds m = if nat_le (length ds + m) digit_limit then Ok (finite s (value (ds ++ replicate m 48)) greatest_exponent) else Err Overflow

-- if the exponent is above the greatest one, zeros are appended
abbrev pub lower : Bool → List ℕ → ℕ → Result Decimal ParseError
lower s ds x = if value ds == 0 then Ok (finite s 0 greatest_exponent) else append_zeros s ds (x - greatest_in_range)

abbrev pub in_range : Bool → List ℕ × ℕ → Result Decimal ParseError
in_range s (ds, x) =
    if nat_lt x least_in_range then raise s ds x
    else if nat_lt greatest_in_range x then lower s ds x
    else Ok (finite s (value ds) (x - least_in_range))

-- few enough digits, and an exponent in range
abbrev pub fit : Bool → List ℕ → ℕ → Result Decimal ParseError
fit s ds x = shorten ds x >>= in_range s

abbrev pub with_places : Bool → ℕ → List ℕ × ℕ → Result Decimal ParseError
with_places s x (ds, places) =
    if nat_lt 32767 places || nat_lt x (places + 32768) then Err Underflow
    else fit s (strip ds) (x - places)

abbrev pub read_cut : Bool → List ℕ × Option (List ℕ) → Result Decimal ParseError
read_cut s (front, behind) = read_exponent behind >>= λ x. read_coefficient (cut is_dot front) >>= with_places s x

abbrev pub read_number : Bool → List ℕ → Result Decimal ParseError
read_number s t = read_cut s (cut is_e t)

-- one of two names in any case
abbrev pub is_named : List ℕ → List ℕ → Bool
is_named t name = bytes_eq (str_to_ascii_lowercase t) name

-- the 128 bits of a text after its sign
abbrev pub read_unsigned_decimal : Bool → List ℕ → Result ℕ ParseError
read_unsigned_decimal s t =
    if is_named t (codes "nan") then Ok (pack_nan s false)
    else if is_named t (codes "snan") then Ok (pack_nan s true)
    else if is_named t (codes "inf") || is_named t (codes "infinity") then Ok (pack (infinity s))
    else result_map pack (read_number s t)

-- the 128 bits that a text reads as
abbrev pub read : List ℕ → Result ℕ ParseError
read [] = read_unsigned_decimal false []
read (c ∷ cs) = if c == 43 then read_unsigned_decimal false cs else if c == 45 then read_unsigned_decimal true cs else read_unsigned_decimal false (c ∷ cs)
