-- What a raw value is, whoever holds its bytes: its payload isn't taken apart if it is a document.
use Rattle.std.specs.Prelude.{ℕ, List, string_bytes, Option, Some, None}
use Rattle.bson_base.specs.declared.spec.ElementType.{ElementType}
use Rattle.bson_base.specs.declared.spec.ElementType.TheVariants as kinds
use Rattle.bson_base.specs.declared.spec.BinarySubtype.{BinarySubtype}
use Rattle.bson_base.specs.Scalars.{id_bytes, millis_of, decimal_bytes}
use Rattle.bson_base.specs.Kinds.{IsPlainScalar}
use Rattle.bson_base.specs.Value.{Scalar, double, string, binary, undefined, object_id, boolean, date_time, null, regex, db_pointer, code, symbol, int32, timestamp, int64, decimal, max_key, min_key, scalar_kind}
use Rattle.bson_bytes.specs.Encode.{scalar_bytes, scope_frame_of}
use Rattle.bson_raw.specs.declared.bson_ref.RawBsonRef.{RawBsonRef}
use Rattle.bson_raw.specs.declared.bson_ref.RawBsonRef.TheVariants as views
use Rattle.bson_raw.specs.declared.bson.RawBson.{RawBson}
use Rattle.bson_raw.specs.declared.bson.RawBson.TheVariants as raw
use Rattle.bson_raw.specs.View.{bytes_of, array_bytes}
use Rattle.bson_raw.specs.Buffer.{buffer_bytes, array_buffer_bytes}

-- a scalar, or the bytes of an array, of a document, or a code and the bytes of its scope
pub data RawValue : Type 0 where
  leaf : Scalar → RawValue
  array : List ℕ → RawValue
  document : List ℕ → RawValue
  scoped_code : List ℕ → List ℕ → RawValue

abbrev pub raw_kind : RawValue → ElementType
raw_kind (leaf s) = scalar_kind s
raw_kind (array bs) = kinds.Array
raw_kind (document bs) = kinds.EmbeddedDocument
raw_kind (scoped_code t bs) = kinds.JavaScriptCodeWithScope

-- the payload that it is written as
abbrev pub raw_payload : RawValue → List ℕ
raw_payload (leaf s) = scalar_bytes s
raw_payload (array bs) = bs
raw_payload (document bs) = bs
raw_payload (scoped_code t bs) = scope_frame_of t bs

-- no 00 in a pattern or in options; what is inside was written before
abbrev pub IsPlainRaw : RawValue → Type 0
IsPlainRaw (leaf s) = IsPlainScalar s
IsPlainRaw (array bs) = Unit {0}
IsPlainRaw (document bs) = Unit {0}
IsPlainRaw (scoped_code t bs) = Unit {0}

-- the value that is borrowed
abbrev pub ref_value : RawBsonRef → RawValue
ref_value (views.Double x) = leaf (double x.0)
ref_value (views.String x) = leaf (string x.now)
ref_value (views.Array x) = array (array_bytes x)
ref_value (views.Document x) = document (bytes_of x)
ref_value (views.Boolean x) = leaf (boolean x)
ref_value views.Null = leaf null
ref_value (views.RegularExpression x) = leaf (regex x.pattern.now x.options.now)
ref_value (views.JavaScriptCode x) = leaf (code x.now)
ref_value (views.JavaScriptCodeWithScope x) = scoped_code x.code.now (bytes_of x.scope)
ref_value (views.Int32 x) = leaf (int32 x)
ref_value (views.Int64 x) = leaf (int64 x)
ref_value (views.Timestamp x) = leaf (timestamp x.time x.increment)
ref_value (views.Binary x) = leaf (binary x.subtype x.bytes.now)
ref_value (views.ObjectId x) = leaf (object_id (id_bytes x))
ref_value (views.DateTime x) = leaf (date_time (millis_of x))
ref_value (views.Symbol x) = leaf (symbol x.now)
ref_value (views.Decimal128 x) = leaf (decimal (decimal_bytes x))
ref_value views.Undefined = leaf undefined
ref_value views.MaxKey = leaf max_key
ref_value views.MinKey = leaf min_key
ref_value (views.DbPointer x) = leaf (db_pointer x.namespace.now (id_bytes x.id))

-- the value that is owned
abbrev pub own_value : RawBson → RawValue
own_value (raw.Double x) = leaf (double x.0)
own_value (raw.String x) = leaf (string (string_bytes x))
own_value (raw.Array x) = array (array_buffer_bytes x)
own_value (raw.Document x) = document (buffer_bytes x)
own_value (raw.Boolean x) = leaf (boolean x)
own_value raw.Null = leaf null
own_value (raw.RegularExpression x) = leaf (regex (string_bytes x.pattern) (string_bytes x.options))
own_value (raw.JavaScriptCode x) = leaf (code (string_bytes x))
own_value (raw.JavaScriptCodeWithScope x) = scoped_code (string_bytes x.code) (buffer_bytes x.scope)
own_value (raw.Int32 x) = leaf (int32 x)
own_value (raw.Int64 x) = leaf (int64 x)
own_value (raw.Timestamp x) = leaf (timestamp x.time x.increment)
own_value (raw.Binary x) = leaf (binary x.subtype x.bytes.items)
own_value (raw.ObjectId x) = leaf (object_id (id_bytes x))
own_value (raw.DateTime x) = leaf (date_time (millis_of x))
own_value (raw.Symbol x) = leaf (symbol (string_bytes x))
own_value (raw.Decimal128 x) = leaf (decimal (decimal_bytes x))
own_value raw.Undefined = leaf undefined
own_value raw.MaxKey = leaf max_key
own_value raw.MinKey = leaf min_key
own_value (raw.DbPointer x) = leaf (db_pointer (string_bytes x.namespace) (id_bytes x.id))

-- ---- the value, if it is of this kind

-- what f makes of a scalar
abbrev pub of_leaf : {A : Type 0} → (Scalar → Option A) → RawValue → Option A
of_leaf f (leaf s) = f s
of_leaf f v = None

-- the bytes of an array
abbrev pub array_in : RawValue → Option (List ℕ)
array_in (array bs) = Some bs
array_in v = None

-- the bytes of a document
abbrev pub document_in : RawValue → Option (List ℕ)
document_in (document bs) = Some bs
document_in v = None

-- code, and the bytes of its scope
abbrev pub scoped_in : RawValue → Option (List ℕ × List ℕ)
scoped_in (scoped_code t bs) = Some (t, bs)
scoped_in v = None

-- subtype and bytes
abbrev pub binary_in : Scalar → Option (BinarySubtype × List ℕ)
binary_in (binary s bs) = Some (s, bs)
binary_in v = None

-- pattern and options
abbrev pub regex_in : Scalar → Option (List ℕ × List ℕ)
regex_in (regex p o) = Some (p, o)
regex_in v = None

abbrev pub code_scalar : Scalar → Option (List ℕ)
code_scalar (code t) = Some t
code_scalar v = None

abbrev pub null_in : Scalar → Option (Unit {0})
null_in null = Some tt
null_in v = None
