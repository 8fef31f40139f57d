-- The texts of UUIDs, bytes, timestamps and regular expressions.
use Rattle.std.specs.Prelude.{◌++◌, ◌∷◌, ℕ, List, codes, Option, Some, None, Result, Ok, Err, is_err, IsTrue, false, string_bytes}
use Rattle.std.specs.Fmt.{decimal, digits}
use Rattle.base64.specs.GeneralPurpose.{encode_of, decode_of}
use Rattle.base64.specs.Engines.{standard}
use Rattle.uuid_text.specs.UuidText.{uuid_of}
use Rattle.bson_base.specs.Tags.{subtype_byte}
use Rattle.bson_base.specs.declared.binary.Binary.{Binary}
use Rattle.bson_base.specs.declared.binary.Error.{Error as AnyBinaryError}
use Rattle.bson_base.specs.declared.binary.Error.TheVariants.{DecodingError, Vector, Memory}
use Rattle.bson_base.specs.declared.regex.Regex.{Regex}
use Rattle.bson_base.specs.declared.timestamp.Timestamp.{Timestamp}
use Rattle.bson_base.specs.declared.uuid.Error.{Error}
use Rattle.bson_base.specs.declared.uuid.Error.TheVariants.{InvalidUuidString}

abbrev pub valid_uuid : Option (List ℕ) → Result (List ℕ) Error
valid_uuid (Some bytes) = Ok bytes
valid_uuid None = Err InvalidUuidString

-- the bytes of a UUID's text
abbrev pub read_uuid : List ℕ → Result (List ℕ) Error
read_uuid text = valid_uuid (uuid_of text)

-- why a text isn't decoded: it isn't Base64 with padding and zero bits at its end (RFC 4648,
-- section 4), or out of memory
abbrev pub RefusesBase64 : List ℕ → AnyBinaryError → Type 0
RefusesBase64 text DecodingError = IsTrue (is_err (decode_of standard text))
RefusesBase64 text Memory = Unit {0}
RefusesBase64 text Vector = ⊥

-- `Binary(0x4, base64)`
abbrev pub binary_text : Binary → List ℕ
binary_text b = codes "Binary(0x" ++ digits 16 false (subtype_byte b.subtype) ++ codes ", " ++ encode_of standard b.bytes.items ++ codes ")"

-- `Timestamp(time, increment)`
abbrev pub timestamp_text : Timestamp → List ℕ
timestamp_text t = codes "Timestamp(" ++ decimal t.time ++ codes ", " ++ decimal t.increment ++ codes ")"

-- `/pattern/options`
abbrev pub regex_text : Regex → List ℕ
regex_text r = 47 ∷ string_bytes r.pattern ++ 47 ∷ string_bytes r.options
