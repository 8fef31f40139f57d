-- Extended JSON as it is read (MongoDB Extended JSON v2, "Parsing"): the value that a JSON tree stands for, or the
-- first fault in the order of keys. The members of an object are in the order of their keys, each key once.
use Rattle.std.specs.Prelude.{◌≡◌, ℕ, ◌^◌, ◌==◌, ◌&&◌, nat_lt, ℤ, Bool, false, if◌then◌else◌, List, codes, Option, Some, None, Result, Ok, Err}
use Rattle.std.specs.Str.{bytes_eq}
use Rattle.base64.specs.GeneralPurpose.{decode_of}
use Rattle.base64.specs.Engines.{standard}
use Rattle.serde_json.specs.Data as json
use Rattle.serde_json.specs.Data.{Num, unsigned, negative, float, Data, number, string as text, object}
use Rattle.serde_json.specs.Find.{as_i64}
use Rattle.bson_base.specs.Answer.{◌>>=◌}
use Rattle.bson_base.specs.DateText.{date_of}
use Rattle.bson_base.specs.Decimal.{read as decimal_of, sixteen_bytes}
use Rattle.bson_base.specs.ObjectIdText.{object_id_of}
use Rattle.bson_base.specs.Options.{sorted_text}
use Rattle.bson_base.specs.ScalarTexts.{read_uuid}
use Rattle.bson_base.specs.Tags.{subtype_of}
use Rattle.bson_base.specs.Value.{Scalar, double, string, binary, undefined, object_id, boolean, date_time, null, regex, db_pointer, code, symbol, int32, timestamp, int64, decimal, max_key, min_key, Value, scalar, array, document, scoped_code, Items, no_items, item, Members, no_members, member}
use Rattle.bson_base.specs.declared.oid.Error as oid
use Rattle.bson_base.specs.declared.oid.Error.TheVariants as oid_errors
use Rattle.bson_base.specs.declared.spec.BinarySubtype.{BinarySubtype}
use Rattle.bson_base.specs.declared.spec.BinarySubtype.TheVariants.{Uuid}
use Rattle.bson_model.specs.JsonKeys.{Reserved, of_id, of_symbol, of_regex, of_int, of_long, of_double, of_decimal, of_binary, of_uuid, of_code, of_timestamp, of_date, of_min, of_max, of_pointer, of_undefined, key_of, scope_key, reserved_of, any_reserved}
use Rattle.bson_model.specs.JsonTexts.{int_of, long_of, fits_32, double_of, byte_of}
use Rattle.bson_model.specs.declared.extjson.de.Error.{Error}
use Rattle.bson_model.specs.declared.extjson.de.Error.TheVariants.{InvalidObjectId, DeserializationError, FiniteDouble, Memory}

-- ---- refusals

abbrev pub some_or_error : {A : Type 0} → Option A → Result A Error
some_or_error (Some x) = Ok x
some_or_error None = Err DeserializationError

-- every fault of a text, except that of an object id, becomes DeserializationError
abbrev pub ok_or_error : {A E : Type 0} → Result A E → Result A Error
ok_or_error (Ok x) = Ok x
ok_or_error (Err e) = Err DeserializationError

abbrev pub of_object_id : oid.Error → Error
of_object_id oid_errors.Memory = Memory
of_object_id (oid_errors.InvalidHexStringCharacter c i) = InvalidObjectId (oid_errors.InvalidHexStringCharacter c i)
of_object_id (oid_errors.InvalidHexStringLength n) = InvalidObjectId (oid_errors.InvalidHexStringLength n)

abbrev pub id_or_error : {A : Type 0} → Result A oid.Error → Result A Error
id_or_error (Ok x) = Ok x
id_or_error (Err e) = Err (of_object_id e)

-- ---- forms of bodies

abbrev pub text_of : Data → Result (List ℕ) Error
text_of (text t) = Ok t
text_of _ = Err DeserializationError

-- the body of an object with this key alone
abbrev pub single : List ℕ → json.Members → Result Data Error
single k (json.member l j json.no_members) = if bytes_eq l k then Ok j else Err DeserializationError
single k _ = Err DeserializationError

abbrev pub under : List ℕ → Data → Result Data Error
under k (object js) = single k js
under k _ = Err DeserializationError

-- the bodies of an object with these two keys alone
abbrev pub bodies_in : List ℕ → List ℕ → json.Members → Result (Data × Data) Error
bodies_in k l (json.member m i (json.member n j json.no_members)) = if bytes_eq m k && bytes_eq n l then Ok (i, j) else Err DeserializationError
bodies_in k l _ = Err DeserializationError

abbrev pub bodies_under : List ℕ → List ℕ → Data → Result (Data × Data) Error
bodies_under k l (object js) = bodies_in k l js
bodies_under k l _ = Err DeserializationError

abbrev pub below_32 : ℕ → Option ℕ
below_32 n = if nat_lt n (2 ^ 32) then Some n else None

-- an unsigned number of 32 bits
abbrev pub u32_from : Num → Option ℕ
u32_from (unsigned n) = below_32 n
u32_from _ = None

abbrev pub u32_of : Data → Result ℕ Error
u32_of (number n) = some_or_error (u32_from n)
u32_of _ = Err DeserializationError

-- whether a body is the integer 1
abbrev pub is_one : Data → Bool
is_one (number (unsigned n)) = n == 1
is_one _ = false

abbrev pub is_true : Data → Bool
is_true (json.boolean b) = b
is_true _ = false

-- ---- numbers

-- an Int32 if the number fits, else an Int64
abbrev pub integer : ℤ → Value
integer z = if fits_32 z then scalar (int32 z) else scalar (int64 z)

abbrev pub whole : Option ℤ → Result Value Error
whole (Some z) = Ok (integer z)
whole None = Err FiniteDouble

-- ---- bodies under reserved keys

abbrev pub id_body : Data → Result (List ℕ) Error
id_body j = text_of j >>= λ t. id_or_error (object_id_of t)

-- pattern and options
abbrev pub regex_body : Data → Result (List ℕ × List ℕ) Error
regex_body j = bodies_under (codes "options") (codes "pattern") j >>= λ p. text_of p.0 >>= λ o. text_of p.1 >>= λ t. Ok (t, sorted_text o)

abbrev pub int_body : Data → Result ℤ Error
int_body j = text_of j >>= λ t. some_or_error (int_of t)

abbrev pub long_body : Data → Result ℤ Error
long_body j = text_of j >>= λ t. some_or_error (long_of t)

abbrev pub double_body : Data → Result ℕ Error
double_body j = text_of j >>= λ t. double_of t

-- the 16 bytes
abbrev pub decimal_body : Data → Result (List ℕ) Error
decimal_body j = text_of j >>= λ t. ok_or_error (decimal_of t) >>= λ n. Ok (sixteen_bytes n)

-- bytes of a subtype
abbrev pub base64_body : BinarySubtype → Data → Result Scalar Error
base64_body s j = text_of j >>= λ t. ok_or_error (decode_of standard t) >>= λ bs. Ok (binary s bs)

abbrev pub byte_body : Data → Result ℕ Error
byte_body j = text_of j >>= λ t. some_or_error (byte_of t)

abbrev pub binary_body : Data → Result Scalar Error
binary_body j = bodies_under (codes "base64") (codes "subType") j >>= λ p. byte_body p.1 >>= λ b. base64_body (subtype_of b) p.0

abbrev pub uuid_body : Data → Result Scalar Error
uuid_body j = text_of j >>= λ t. ok_or_error (read_uuid t) >>= λ bs. Ok (binary Uuid bs)

-- time and increment
abbrev pub timestamp_body : Data → Result (ℕ × ℕ) Error
timestamp_body j = bodies_under (codes "i") (codes "t") j >>= λ p. u32_of p.0 >>= λ i. u32_of p.1 >>= λ t. Ok (t, i)

abbrev pub read_date_body : Data → Result ℤ Error
read_date_body (text t) = ok_or_error (date_of t)
read_date_body (number n) = some_or_error (as_i64 n)
read_date_body (object js) = single (key_of of_long) js >>= long_body
read_date_body _ = Err DeserializationError

-- name and object id
abbrev pub pointer_body : Data → Result (List ℕ × List ℕ) Error
pointer_body j = bodies_under (codes "$id") (codes "$ref") j >>= λ p. under (key_of of_id) p.0 >>= id_body >>= λ bs. text_of p.1 >>= λ t. Ok (t, bs)

-- one value, if its body is right
abbrev pub constant : Bool → Scalar → Result Scalar Error
constant b s = if b then Ok s else Err DeserializationError

abbrev pub read_body : Reserved → Data → Result Scalar Error
read_body of_id j = id_body j >>= λ bs. Ok (object_id bs)
read_body of_symbol j = text_of j >>= λ t. Ok (symbol t)
read_body of_regex j = regex_body j >>= λ r. Ok (regex r.0 r.1)
read_body of_int j = int_body j >>= λ z. Ok (int32 z)
read_body of_long j = long_body j >>= λ z. Ok (int64 z)
read_body of_double j = double_body j >>= λ n. Ok (double n)
read_body of_decimal j = decimal_body j >>= λ bs. Ok (decimal bs)
read_body of_binary j = binary_body j
read_body of_uuid j = uuid_body j
read_body of_code j = text_of j >>= λ t. Ok (code t)
read_body of_timestamp j = timestamp_body j >>= λ t. Ok (timestamp t.0 t.1)
read_body of_date j = read_date_body j >>= λ z. Ok (date_time z)
read_body of_min j = constant (is_one j) min_key
read_body of_max j = constant (is_one j) max_key
read_body of_pointer j = pointer_body j >>= λ p. Ok (db_pointer p.0 p.1)
read_body of_undefined j = constant (is_true j) undefined

abbrev pub scalar_of : Result Scalar Error → Result Value Error
scalar_of r = r >>= λ s. Ok (scalar s)

-- the value of a wrapper with this key alone
abbrev pub read_wrapped : Option Reserved → Data → Result Value Error
read_wrapped None j = Err DeserializationError
read_wrapped (Some r) j = scalar_of (read_body r j)

-- code beside what its scope reads as, if it has one
abbrev pub code_and_scope : List ℕ → Option Members → Value
code_and_scope t (Some ms) = scoped_code t ms
code_and_scope t None = scalar (code t)

-- ---- values

-- An object with a reserved key has no other key, except `$scope` beside `$code`.
abbrev mutual
  pub read : Data → Result Value Error
  read json.null = Ok (scalar null)
  read (json.boolean b) = Ok (scalar (boolean b))
  read (number n) = whole (as_i64 n)
  read (text t) = Ok (scalar (string t))
  read (json.array js) = read_items js >>= λ vs. Ok (array vs)
  read (object js) = if any_reserved js then read_typed js else (read_members js >>= λ ms. Ok (document ms))

  pub read_items : json.Items → Result Items Error
  read_items json.no_items = Ok no_items
  read_items (json.item j js) = read j >>= λ v. read_items js >>= λ vs. Ok (item v vs)

  -- the keys are not tested
  pub read_members : json.Members → Result Members Error
  read_members json.no_members = Ok no_members
  read_members (json.member k j js) = read j >>= λ v. read_members js >>= λ ms. Ok (member k v ms)

  pub read_typed : json.Members → Result Value Error
  read_typed json.no_members = Err DeserializationError
  read_typed (json.member k j json.no_members) = read_wrapped (reserved_of k) j
  read_typed (json.member k j (json.member l i json.no_members)) =
      if bytes_eq k (key_of of_code) && bytes_eq l scope_key then (text_of j >>= λ t. read_scope i >>= λ o. Ok (code_and_scope t o)) else Err DeserializationError
  read_typed (json.member k j (json.member l i (json.member m h js))) = Err DeserializationError

  -- the members of a scope, if there is one
  pub read_scope : Data → Result (Option Members) Error
  read_scope json.null = Ok None
  read_scope (object js) = read_members js >>= λ ms. Ok (Some ms)
  read_scope (json.boolean b) = Err DeserializationError
  read_scope (number n) = Err DeserializationError
  read_scope (text t) = Err DeserializationError
  read_scope (json.array js) = Err DeserializationError

-- ---- what a call returns

-- the reading is this fault; out of memory can be reported whatever the reading is
abbrev pub Fails : {Y : Type 0} → Error → Result Y Error → Type 0
Fails Memory r = Unit {0}
Fails (InvalidObjectId e) r = r ≡ Err (InvalidObjectId e)
Fails DeserializationError r = r ≡ Err DeserializationError
Fails FiniteDouble r = r ≡ Err FiniteDouble

-- What is returned, seen by `view`, is what reading gives, unless memory ran out.
abbrev pub GivesReading : {X Y : Type 0} → (X → Y) → Result X Error → Result Y Error → Type 0
GivesReading view (Ok x) r = r ≡ Ok (view x)
GivesReading view (Err e) r = Fails e r
