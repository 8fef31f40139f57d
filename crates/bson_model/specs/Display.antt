-- What Display writes of a value, in the plain form.
use Rattle.std.specs.Prelude.{ℕ, Bool, if◌then◌else◌, true, false, List, [], ◌∷◌, ◌++◌, codes}
use Rattle.std.specs.Fmt.{decimal as natural, digits, signed_decimal}
use Rattle.std.specs.Int.{w64, to_be_bytes}
use Rattle.base64.specs.GeneralPurpose.{encode_of}
use Rattle.base64.specs.Engines.{standard}
use Rattle.hex.specs.Hex.{encode_lower}
use Rattle.bson_base.specs.Decimal.{decimal_text}
use Rattle.bson_base.specs.ObjectIdText.{debug_text}
use Rattle.bson_base.specs.Tags.{subtype_byte}
use Rattle.bson_base.specs.Value.{Scalar, double, string, binary, undefined, object_id, boolean, date_time, null, regex, db_pointer, code, symbol, int32, timestamp, int64, decimal, max_key, min_key, Value, scalar, array, document, scoped_code, Items, no_items, item, Members, no_members, member}
use Rattle.bson_base.specs.Dates.{shown_date}

-- between two quotes, without escapes
abbrev pub in_quotes : List ℕ → List ℕ
in_quotes t = 34 ∷ t ++ 34 ∷ []

-- `name(a, b)`
abbrev pub call_of_two : List ℕ → List ℕ → List ℕ → List ℕ
call_of_two name a b = name ++ codes "(" ++ a ++ codes ", " ++ b ++ codes ")"

-- `name("text")`
abbrev pub call_of_text : List ℕ → List ℕ → List ℕ
call_of_text name t = name ++ codes "(\"" ++ t ++ codes "\")"

-- the pattern, in 16 digits
abbrev pub shown_double : ℕ → List ℕ
shown_double n = codes "0x" ++ encode_lower (to_be_bytes w64 n)

abbrev pub shown_scalar : Scalar → List ℕ
shown_scalar (double n) = shown_double n
shown_scalar (string t) = in_quotes t
shown_scalar (binary s bs) = call_of_two (codes "Binary") (codes "0x" ++ digits 16 false (subtype_byte s)) (encode_of standard bs)
shown_scalar undefined = codes "undefined"
shown_scalar (object_id bs) = debug_text bs
shown_scalar (boolean b) = if b then codes "true" else codes "false"
shown_scalar (date_time z) = call_of_text (codes "DateTime") (shown_date z)
shown_scalar null = codes "null"
shown_scalar (regex p o) = 47 ∷ p ++ 47 ∷ o
shown_scalar (db_pointer t bs) = call_of_two (codes "DbPointer") t (encode_lower bs)
shown_scalar (code t) = t
shown_scalar (symbol t) = call_of_text (codes "Symbol") t
shown_scalar (int32 z) = signed_decimal z
shown_scalar (timestamp t i) = call_of_two (codes "Timestamp") (natural t) (natural i)
shown_scalar (int64 z) = signed_decimal z
shown_scalar (decimal bs) = decimal_text bs
shown_scalar max_key = codes "MaxKey"
shown_scalar min_key = codes "MinKey"

-- `{ .. }` around members, and `{}` if there are none
abbrev pub in_braces : Members → List ℕ → List ℕ
in_braces no_members t = codes "{}"
in_braces (member k v ms) t = codes "{ " ++ t ++ codes " }"

-- what is written before a part: nothing before the first
abbrev pub mark_before : Bool → List ℕ
mark_before first = if first then [] else codes ", "

abbrev mutual
  pub display_text : Value → List ℕ
  display_text (scalar s) = shown_scalar s
  display_text (array vs) = codes "[" ++ shown_items true vs ++ codes "]"
  display_text (document ms) = in_braces ms (shown_members true ms)
  display_text (scoped_code t ms) = t

  -- items, which begin with the first of all or not
  pub shown_items : Bool → Items → List ℕ
  shown_items first no_items = []
  shown_items first (item v vs) = mark_before first ++ display_text v ++ shown_items false vs

  pub shown_members : Bool → Members → List ℕ
  shown_members first no_members = []
  shown_members first (member k v ms) = mark_before first ++ (in_quotes k ++ codes ": ") ++ display_text v ++ shown_members false ms

abbrev pub shown_document : Members → List ℕ
shown_document ms = in_braces ms (shown_members true ms)
