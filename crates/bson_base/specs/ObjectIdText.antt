-- The text of an object id: 24 hexadecimal digits, two for each of its 12 bytes (bsonspec.org 1.1, element type 07).
use Rattle.std.specs.Prelude.{ℕ, ◌+◌, ◌*◌, ◌%◌, ◌==◌, not, if◌then◌else◌, List, [], ◌∷◌, ◌++◌, length, slice_index, codes, Option, Some, None, unwrap_or, Result, Ok, Err, position}
use Rattle.hex.specs.Hex.{hex_digit_value, is_hex_digit, encode_lower}
use Rattle.bson_base.specs.declared.oid.Error.{Error}
use Rattle.bson_base.specs.declared.oid.Error.TheVariants.{InvalidHexStringCharacter, InvalidHexStringLength}

-- the value of a hexadecimal digit
abbrev pub digit_value : ℕ → ℕ
digit_value c = unwrap_or (hex_digit_value c) 0

-- two digits make a byte, the high one first
abbrev pub digit_bytes : List ℕ → List ℕ
digit_bytes [] = []
digit_bytes (high ∷ []) = []
digit_bytes (high ∷ low ∷ rest) = (digit_value high * 16 + digit_value low) ∷ digit_bytes rest

-- the place of the first byte that is no digit
abbrev pub first_other : List ℕ → Option ℕ
first_other text = position (λ c. not (is_hex_digit c)) text

-- a byte that is no digit is reported before a wrong length
abbrev pub even_text : List ℕ → Option ℕ → Result (List ℕ) Error
even_text text (Some index) = Err (InvalidHexStringCharacter (slice_index text index) index)
even_text text None = if length text == 24 then Ok (digit_bytes text) else Err (InvalidHexStringLength (length text))

-- what a text reads as; an odd length is reported first
abbrev pub object_id_of : List ℕ → Result (List ℕ) Error
object_id_of text = if length text % 2 == 1 then Err (InvalidHexStringLength (length text)) else even_text text (first_other text)

-- what Debug writes
abbrev pub debug_text : List ℕ → List ℕ
debug_text bytes = codes "ObjectId(\"" ++ encode_lower bytes ++ codes "\")"
