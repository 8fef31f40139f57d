-- Extended JSON as it is written (MongoDB Extended JSON v2, "Conversion table"), canonical and relaxed. A finite double other
-- than the zeros has no form.
use Rattle.std.specs.Prelude.{◌≡◌, ℕ, ℤ, pos, int_le, ◌&&◌, ◌||◌, not, Bool, true, false, if◌then◌else◌, List, [], ◌∷◌, ◌++◌, codes, Option, Some, None, option_map, option_and_then, Result, Ok, Err}
use Rattle.std.specs.Fmt.{signed_decimal}
use Rattle.base64.specs.GeneralPurpose.{encode_of}
use Rattle.base64.specs.Engines.{standard}
use Rattle.hex.specs.Hex.{encode_lower}
use Rattle.serde_json.specs.Data as json
use Rattle.serde_json.specs.Data.{Data, number, object, unsigned}
use Rattle.serde_json.specs.Find.{of_integer}
use Rattle.bson_base.specs.DateText.{last_text}
use Rattle.bson_base.specs.Decimal.{decimal_text, minus_if}
use Rattle.bson_base.specs.Doubles.{is_nan, is_infinite, is_zero, is_negative}
use Rattle.bson_base.specs.Options.{sorted_text}
use Rattle.bson_base.specs.Tags.{subtype_byte}
use Rattle.bson_base.specs.Value.{Scalar, double, string, binary, undefined, object_id, boolean, date_time, null, regex, db_pointer, code, symbol, int32, timestamp, int64, decimal, max_key, min_key, Value, scalar, array, document, scoped_code, Items, no_items, item, Members, no_members, member}
use Rattle.bson_base.specs.Dates.{date_text}
use Rattle.bson_model.specs.JsonKeys.{Reserved, key_of, scope_key, of_id, of_symbol, of_regex, of_int, of_long, of_double, of_decimal, of_binary, of_code, of_timestamp, of_date, of_min, of_max, of_pointer, of_undefined, object_of_one, object_of_two}
use Rattle.bson_model.specs.declared.extjson.de.Error.{Error}
use Rattle.bson_model.specs.declared.extjson.de.Error.TheVariants.{InvalidObjectId, DeserializationError, FiniteDouble, Memory}
use Rattle.bson_model.specs.declared.extjson.ser.Mode.{Mode}
use Rattle.bson_model.specs.declared.extjson.ser.Mode.TheVariants.{Canonical, Relaxed}

-- a typed value
abbrev pub wrapper_of : Reserved → Data → Data
wrapper_of r j = object_of_one (key_of r) j

abbrev pub text_wrapper : Reserved → List ℕ → Data
text_wrapper r t = wrapper_of r (json.string t)

-- a NaN or an infinity with the sign of its top bit, or a zero, whose sign is dropped; any other double has none
abbrev pub double_text : ℕ → Option (List ℕ)
double_text n =
    if is_nan n then Some (minus_if (is_negative n) ++ codes "NaN")
    else if is_infinite n then Some (minus_if (is_negative n) ++ codes "Infinity")
    else if is_zero n then Some (codes "0.0")
    else None

abbrev pub write_double : ℕ → Option Data
write_double n = option_map (text_wrapper of_double) (double_text n)

abbrev pub write_integer : Mode → Reserved → ℤ → Data
write_integer Canonical r z = text_wrapper r (signed_decimal z)
write_integer Relaxed r z = number (of_integer z)

-- from 1970-01-01T00:00:00Z to 9999-12-31T23:59:59.999Z
abbrev pub is_relaxed_date : ℤ → Bool
is_relaxed_date z = int_le (pos 0) z && int_le z last_text

abbrev pub write_millis : ℤ → Data
write_millis z = text_wrapper of_long (signed_decimal z)

abbrev pub date_body : Mode → ℤ → Data
date_body Canonical z = write_millis z
date_body Relaxed z = if is_relaxed_date z then json.string (date_text z) else write_millis z

abbrev pub write_date : Mode → ℤ → Data
write_date m z = wrapper_of of_date (date_body m z)

-- Base64, and the subtype in two digits
abbrev pub write_binary : ℕ → List ℕ → Data
write_binary b bs = wrapper_of of_binary (object_of_two (codes "base64") (json.string (encode_of standard bs)) (codes "subType") (json.string (encode_lower (b ∷ []))))

abbrev pub write_regex : List ℕ → List ℕ → Data
write_regex p o = wrapper_of of_regex (object_of_two (codes "options") (json.string (sorted_text o)) (codes "pattern") (json.string p))

abbrev pub write_timestamp : ℕ → ℕ → Data
write_timestamp t i = wrapper_of of_timestamp (object_of_two (codes "i") (number (unsigned i)) (codes "t") (number (unsigned t)))

abbrev pub write_id : List ℕ → Data
write_id bs = text_wrapper of_id (encode_lower bs)

abbrev pub write_pointer : List ℕ → List ℕ → Data
write_pointer t bs = wrapper_of of_pointer (object_of_two (codes "$id") (write_id bs) (codes "$ref") (json.string t))

abbrev pub with_scope : List ℕ → json.Members → Data
with_scope t js = object_of_two (key_of of_code) (json.string t) scope_key (object js)

abbrev pub write_scalar : Mode → Scalar → Option Data
write_scalar m (double n) = write_double n
write_scalar m (string t) = Some (json.string t)
write_scalar m (binary s bs) = Some (write_binary (subtype_byte s) bs)
write_scalar m undefined = Some (wrapper_of of_undefined (json.boolean true))
write_scalar m (object_id bs) = Some (write_id bs)
write_scalar m (boolean b) = Some (json.boolean b)
write_scalar m (date_time z) = Some (write_date m z)
write_scalar m null = Some json.null
write_scalar m (regex p o) = Some (write_regex p o)
write_scalar m (db_pointer t bs) = Some (write_pointer t bs)
write_scalar m (code t) = Some (text_wrapper of_code t)
write_scalar m (symbol t) = Some (text_wrapper of_symbol t)
write_scalar m (int32 z) = Some (write_integer m of_int z)
write_scalar m (timestamp t i) = Some (write_timestamp t i)
write_scalar m (int64 z) = Some (write_integer m of_long z)
write_scalar m (decimal bs) = Some (text_wrapper of_decimal (decimal_text bs))
write_scalar m max_key = Some (wrapper_of of_max (number (unsigned 1)))
write_scalar m min_key = Some (wrapper_of of_min (number (unsigned 1)))

-- the tree of a value; none exactly if it holds a finite double that isn't zero
abbrev mutual
  pub write : Mode → Value → Option Data
  write m (scalar s) = write_scalar m s
  write m (array vs) = option_map json.array (write_items m vs)
  write m (document ms) = option_map object (write_members m ms json.no_members)
  write m (scoped_code t ms) = option_map (with_scope t) (write_members m ms json.no_members)

  pub write_items : Mode → Items → Option json.Items
  write_items m no_items = Some json.no_items
  write_items m (item v vs) = option_and_then (λ j. option_map (json.item j) (write_items m vs)) (write m v)

  -- each member put among those found so far
  pub write_members : Mode → Members → json.Members → Option json.Members
  write_members m no_members found = Some found
  write_members m (member k v ms) found = option_and_then (λ j. write_members m ms (json.put k j found)) (write m v)

-- What a writer returns, seen by `seen`, is what is to be written. It refuses what has no form, and anything else only
-- if out of memory.
abbrev pub RefusesForm : {X : Type 0} → Error → Option X → Type 0
RefusesForm Memory w = Unit {0}
RefusesForm FiniteDouble w = w ≡ None
RefusesForm (InvalidObjectId e) w = ⊥
RefusesForm DeserializationError w = ⊥

abbrev pub WritesForm : {X Y : Type 0} → (X → Y) → Result X Error → Option Y → Type 0
WritesForm seen (Ok x) w = w ≡ Some (seen x)
WritesForm seen (Err e) w = RefusesForm e w

-- whether a finite double that isn't zero is in the value
abbrev pub is_finite_and_not_zero : ℕ → Bool
is_finite_and_not_zero n = not (is_nan n || is_infinite n || is_zero n)

abbrev pub scalar_is_finite : Scalar → Bool
scalar_is_finite (double n) = is_finite_and_not_zero n
scalar_is_finite _ = false

abbrev mutual
  pub holds_finite : Value → Bool
  holds_finite (scalar s) = scalar_is_finite s
  holds_finite (array vs) = items_hold_finite vs
  holds_finite (document ms) = members_hold_finite ms
  holds_finite (scoped_code t ms) = members_hold_finite ms

  pub items_hold_finite : Items → Bool
  items_hold_finite no_items = false
  items_hold_finite (item v vs) = holds_finite v || items_hold_finite vs

  pub members_hold_finite : Members → Bool
  members_hold_finite no_members = false
  members_hold_finite (member k v ms) = holds_finite v || members_hold_finite ms
