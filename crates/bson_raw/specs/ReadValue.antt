-- What the payload of an element is read as (bsonspec.org 1.1, "element").
use Rattle.std.specs.Prelude.{◌≡◌, ℕ, ℤ, Bool, List, Option, Some, None, Result, MatchResult}
use Rattle.std.specs.Borrow.{Bor}
use Rattle.bson_base.specs.declared.spec.ElementType.{ElementType}
use Rattle.bson_base.specs.declared.double.DoubleBits.{DoubleBits}
use Rattle.bson_base.specs.declared.oid.ObjectId.{ObjectId}
use Rattle.bson_base.specs.declared.datetime.DateTime.{DateTime}
use Rattle.bson_base.specs.declared.timestamp.Timestamp.{Timestamp}
use Rattle.bson_bytes.specs.Spells.{HoldsScalar}
use Rattle.bson_frame.specs.Frame.{Element}
use Rattle.bson_frame.specs.Payload.{text_in, code_in, scope_in, IsPayload, IsPayloadFault, IsFaultless}
use Rattle.bson_frame.specs.View.{IsFaultUnder}
use Rattle.bson_frame.specs.declared.error.ErrorKind.{ErrorKind}
use Rattle.bson_frame.specs.declared.error.Error.{Error}
use Rattle.bson_raw.specs.Raw.{RawValue, leaf, array, document, scoped_code, raw_kind, ref_value}
use Rattle.bson_raw.specs.declared.document.RawDocument.{RawDocument}
use Rattle.bson_raw.specs.declared.array.RawArray.{RawArray}
use Rattle.bson_raw.specs.declared.bson_ref.RawBsonRef.{RawBsonRef}
use Rattle.bson_raw.specs.declared.bson_ref.RawBsonRef.TheVariants as views
use Rattle.bson_raw.specs.declared.bson_ref.RawBinaryRef.{RawBinaryRef}
use Rattle.bson_raw.specs.declared.bson_ref.RawRegexRef.{RawRegexRef}
use Rattle.bson_raw.specs.declared.bson_ref.RawDbPointerRef.{RawDbPointerRef}
use Rattle.bson_raw.specs.declared.bson_ref.RawJavaScriptCodeWithScopeRef.{RawJavaScriptCodeWithScopeRef}

-- the payload holds the value
abbrev pub Holds : List ℕ → RawValue → Type 0
Holds payload (leaf s) = HoldsScalar payload s
Holds payload (array bs) = bs ≡ payload
Holds payload (document bs) = bs ≡ payload
Holds payload (scoped_code t bs) = (t ≡ text_in (code_in payload)) × (bs ≡ scope_in payload)

-- the payload, which has no fault, is read as the value
pub record IsValue (tag : ElementType) (payload : List ℕ) (value : RawBsonRef) : Type 0 where
  pub kind : raw_kind (ref_value value) ≡ tag
  pub holds : Holds payload (ref_value value)
  pub faultless : IsFaultless tag payload

-- a payload was read: its value, or its fault
abbrev pub IsDecoded : ElementType → List ℕ → Result RawBsonRef ErrorKind → Type 0
IsDecoded tag payload result = MatchResult result (IsValue tag payload) (IsPayloadFault tag payload)

-- bytes that are a payload of this kind were read: its value, or its fault
abbrev pub Decodes : ElementType → List ℕ → Result RawBsonRef ErrorKind → Type 0
Decodes tag payload result = IsPayload tag payload → IsDecoded tag payload result

-- an element was read: its value, or its payload fault under its key
abbrev pub ReadsElement : Element → Result RawBsonRef Error → Type 0
ReadsElement e result = MatchResult result (IsValue e.tag e.payload)
    (λ x. (kind : ErrorKind) × IsPayloadFault e.tag e.payload kind × IsFaultUnder e.key kind x)

-- ---- the value, if it is of this kind

abbrev pub as_f64 : RawBsonRef → Option DoubleBits
as_f64 (views.Double x) = Some x
as_f64 v = None

abbrev pub as_str : RawBsonRef → Option (Bor (List ℕ))
as_str (views.String x) = Some x
as_str v = None

abbrev pub as_array : RawBsonRef → Option RawArray
as_array (views.Array x) = Some x
as_array v = None

abbrev pub as_document : RawBsonRef → Option RawDocument
as_document (views.Document x) = Some x
as_document v = None

abbrev pub as_bool : RawBsonRef → Option Bool
as_bool (views.Boolean x) = Some x
as_bool v = None

abbrev pub as_i32 : RawBsonRef → Option ℤ
as_i32 (views.Int32 x) = Some x
as_i32 v = None

abbrev pub as_i64 : RawBsonRef → Option ℤ
as_i64 (views.Int64 x) = Some x
as_i64 v = None

abbrev pub as_object_id : RawBsonRef → Option ObjectId
as_object_id (views.ObjectId x) = Some x
as_object_id v = None

abbrev pub as_binary : RawBsonRef → Option RawBinaryRef
as_binary (views.Binary x) = Some x
as_binary v = None

abbrev pub as_regex : RawBsonRef → Option RawRegexRef
as_regex (views.RegularExpression x) = Some x
as_regex v = None

abbrev pub as_datetime : RawBsonRef → Option DateTime
as_datetime (views.DateTime x) = Some x
as_datetime v = None

abbrev pub as_symbol : RawBsonRef → Option (Bor (List ℕ))
as_symbol (views.Symbol x) = Some x
as_symbol v = None

abbrev pub as_timestamp : RawBsonRef → Option Timestamp
as_timestamp (views.Timestamp x) = Some x
as_timestamp v = None

abbrev pub as_null : RawBsonRef → Option (Unit {0})
as_null views.Null = Some tt
as_null v = None

abbrev pub as_db_pointer : RawBsonRef → Option RawDbPointerRef
as_db_pointer (views.DbPointer x) = Some x
as_db_pointer v = None

abbrev pub as_javascript : RawBsonRef → Option (Bor (List ℕ))
as_javascript (views.JavaScriptCode x) = Some x
as_javascript v = None

abbrev pub as_javascript_with_scope : RawBsonRef → Option RawJavaScriptCodeWithScopeRef
as_javascript_with_scope (views.JavaScriptCodeWithScope x) = Some x
as_javascript_with_scope v = None
