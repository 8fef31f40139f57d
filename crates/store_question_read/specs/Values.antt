-- Values in a query: what BSON can hold, numerals, regular expressions, and what stands for true or false.
use Rattle.std.specs.Prelude.{◌≡◌, ℕ, ℤ, pos, zero, ◌^◌, ◌==◌, ◌&&◌, not, nat_lt, Bool, true, false, if◌then◌else◌, List, [], ◌∷◌, Option, Some, None, is_some, option_map}
use Rattle.std.specs.Result.{result_ok}
use Rattle.std.specs.Ordering.{int_eq}
use Rattle.json.specs.Json as json
use Rattle.json.specs.Json.{Json}
use Rattle.bson_base.specs.Answer.{result_map}
use Rattle.bson_base.specs.Decimal.{read as decimal_of, sixteen_bytes}
use Rattle.bson_base.specs.Tags.{subtype_byte, subtype_of}
use Rattle.bson_base.specs.Value.{Scalar, binary, boolean, regex, Value, EachPart, scalar, array, document, scoped_code, Items, no_items, item, Members, no_members, member}
use Rattle.bson_bytes.specs.Encode.{value_size}
use Rattle.bson_model.specs.JsonTexts.{long_of}
use Rattle.bson_order.specs.Wholes.{whole_of}

abbrev pub has_no_zero : List ℕ → Bool
has_no_zero [] = true
has_no_zero (b ∷ bs) = not (b == 0) && has_no_zero bs

abbrev pub is_plain_scalar : Scalar → Bool
is_plain_scalar (regex p o) = has_no_zero p && has_no_zero o
is_plain_scalar _ = true

-- no 00 in a key, a pattern or options
abbrev mutual
  pub is_plain : Value → Bool
  is_plain (scalar s) = is_plain_scalar s
  is_plain (array vs) = are_plain vs
  is_plain (document ms) = have_plain ms
  is_plain (scoped_code t ms) = have_plain ms

  pub are_plain : Items → Bool
  are_plain no_items = true
  are_plain (item v vs) = is_plain v && are_plain vs

  pub have_plain : Members → Bool
  have_plain no_members = true
  have_plain (member k v ms) = has_no_zero k && (is_plain v && have_plain ms)

-- BSON writes it: no 00 in a name, and at most 2147483647 bytes
abbrev pub can_be_written : Value → Bool
can_be_written v = is_plain v && nat_lt (value_size v) (2 ^ 31)

-- what is inside can be written
abbrev pub can_be_held : Value → Bool
can_be_held (scalar s) = true
can_be_held (array vs) = can_be_written (array vs)
can_be_held (document ms) = can_be_written (document ms)
can_be_held (scoped_code t ms) = can_be_written (document ms)

-- a binary value has a subtype that comes back from its byte, as each one that is read has
abbrev pub ReadableScalar : Scalar → Type 0
ReadableScalar (binary s bs) = subtype_of (subtype_byte s) ≡ s
ReadableScalar _ = Unit {0}

abbrev pub AnyKey : List ℕ → Type 0
AnyKey k = Unit {0}

abbrev pub Readable : Value → Type 0
Readable v = EachPart AnyKey ReadableScalar v

abbrev pub is_expression : Value → Bool
is_expression (scalar (regex p o)) = true
is_expression v = false

abbrev pub is_not_zero : ℤ → Bool
is_not_zero z = not (int_eq z (pos zero))

-- true or false, or a whole number, of which 0 is false
abbrev pub truth_of : Value → Option Bool
truth_of (scalar (boolean b)) = Some b
truth_of v = option_map is_not_zero (whole_of v)

-- ---- numbers without a wrapper

-- one that isn't written as a whole number of 64 bits
abbrev pub numeral_in : Json → Option (List ℕ)
numeral_in (json.number t) = if is_some (long_of t) then None else Some t
numeral_in j = None

-- the bytes of the decimal that a numeral is, if one is
unfoldable pub decimal_in : List ℕ → Option (List ℕ)
decimal_in t = result_ok (result_map sixteen_bytes (decimal_of t))
