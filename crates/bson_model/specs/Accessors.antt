-- What is returned by the calls that ask a tree for one kind.
use Rattle.std.specs.Prelude.{ℕ, ℤ, List, Bool, true, false, Option, Some, None, Result, Ok, Err}
use Rattle.bson_base.specs.declared.spec.BinarySubtype.TheVariants.{Generic}
use Rattle.bson_base.specs.Value.{Value, scalar, array, document, scoped_code, Items, Members, Scalar, double, string, boolean, int32, int64, timestamp, object_id, date_time, decimal, symbol, db_pointer, binary, null}
use Rattle.bson_model.specs.declared.document.ValueAccessError.{ValueAccessError}
use Rattle.bson_model.specs.declared.document.ValueAccessError.TheVariants.{NotPresent, UnexpectedType}

-- what f makes of a scalar
abbrev pub as_scalar : {A : Type 0} → (Scalar → Option A) → Value → Option A
as_scalar f (scalar s) = f s
as_scalar f (array vs) = None
as_scalar f (document ms) = None
as_scalar f (scoped_code t ms) = None

abbrev pub scalar_f64 : Scalar → Option ℕ
scalar_f64 (double n) = Some n
scalar_f64 _ = None

abbrev pub scalar_str : Scalar → Option (List ℕ)
scalar_str (string t) = Some t
scalar_str _ = None

abbrev pub scalar_bool : Scalar → Option Bool
scalar_bool (boolean b) = Some b
scalar_bool _ = None

abbrev pub scalar_i32 : Scalar → Option ℤ
scalar_i32 (int32 z) = Some z
scalar_i32 _ = None

abbrev pub scalar_i64 : Scalar → Option ℤ
scalar_i64 (int64 z) = Some z
scalar_i64 _ = None

abbrev pub scalar_timestamp : Scalar → Option (ℕ × ℕ)
scalar_timestamp (timestamp t i) = Some (t, i)
scalar_timestamp _ = None

abbrev pub scalar_object_id : Scalar → Option (List ℕ)
scalar_object_id (object_id bs) = Some bs
scalar_object_id _ = None

abbrev pub scalar_datetime : Scalar → Option ℤ
scalar_datetime (date_time z) = Some z
scalar_datetime _ = None

abbrev pub scalar_decimal : Scalar → Option (List ℕ)
scalar_decimal (decimal bs) = Some bs
scalar_decimal _ = None

abbrev pub scalar_symbol : Scalar → Option (List ℕ)
scalar_symbol (symbol t) = Some t
scalar_symbol _ = None

abbrev pub scalar_db_pointer : Scalar → Option (List ℕ × List ℕ)
scalar_db_pointer (db_pointer t bs) = Some (t, bs)
scalar_db_pointer _ = None

-- the bytes of a binary of subtype Generic
abbrev pub scalar_generic : Scalar → Option (List ℕ)
scalar_generic (binary Generic bs) = Some bs
scalar_generic _ = None

-- a binary of any subtype, as it is
abbrev pub scalar_binary : Scalar → Option Value
scalar_binary (binary s bs) = Some (scalar (binary s bs))
scalar_binary _ = None

abbrev pub scalar_is_null : Scalar → Bool
scalar_is_null null = true
scalar_is_null _ = false

-- the pattern of a double
abbrev pub as_f64 : Value → Option ℕ
as_f64 = as_scalar scalar_f64

-- the bytes of a text
abbrev pub as_str : Value → Option (List ℕ)
as_str = as_scalar scalar_str

abbrev pub as_bool : Value → Option Bool
as_bool = as_scalar scalar_bool

abbrev pub as_i32 : Value → Option ℤ
as_i32 = as_scalar scalar_i32

abbrev pub as_i64 : Value → Option ℤ
as_i64 = as_scalar scalar_i64

-- time and increment
abbrev pub as_timestamp : Value → Option (ℕ × ℕ)
as_timestamp = as_scalar scalar_timestamp

-- the twelve bytes
abbrev pub as_object_id : Value → Option (List ℕ)
as_object_id = as_scalar scalar_object_id

-- the milliseconds
abbrev pub as_datetime : Value → Option ℤ
as_datetime = as_scalar scalar_datetime

-- the 16 bytes
abbrev pub as_decimal128 : Value → Option (List ℕ)
as_decimal128 = as_scalar scalar_decimal

-- the bytes of a symbol
abbrev pub as_symbol : Value → Option (List ℕ)
as_symbol = as_scalar scalar_symbol

-- the name and the twelve bytes
abbrev pub as_db_pointer : Value → Option (List ℕ × List ℕ)
as_db_pointer = as_scalar scalar_db_pointer

abbrev pub as_binary : Value → Option Value
as_binary = as_scalar scalar_binary

abbrev pub as_binary_generic : Value → Option (List ℕ)
as_binary_generic = as_scalar scalar_generic

abbrev pub as_array : Value → Option Items
as_array (array vs) = Some vs
as_array _ = None

abbrev pub as_document : Value → Option Members
as_document (document ms) = Some ms
as_document _ = None

abbrev pub is_null : Value → Bool
is_null (scalar s) = scalar_is_null s
is_null _ = false

-- whether Null was found
abbrev pub has_null : Option Value → Bool
has_null None = false
has_null (Some v) = is_null v

abbrev pub or_unexpected : {A : Type 0} → Option A → Result A ValueAccessError
or_unexpected None = Err UnexpectedType
or_unexpected (Some x) = Ok x

-- NotPresent if the key isn't there, UnexpectedType if its value is of another kind
abbrev pub of_kind : {A : Type 0} → (Value → Option A) → Option Value → Result A ValueAccessError
of_kind as' None = Err NotPresent
of_kind as' (Some v) = or_unexpected (as' v)
