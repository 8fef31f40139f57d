-- The names and the numbers of kinds under `$type` (MongoDB Manual, "BSON Types").
use Rattle.std.specs.Prelude.{ℕ, ℤ, pos, negsuc, Bool, false, if◌then◌else◌, List, [], ◌∷◌, codes, Option, Some, None, option_map, option_and_then}
use Rattle.std.specs.Ordering.{int_eq}
use Rattle.std.specs.Str.{bytes_eq}
use Rattle.bson_base.specs.Value.{string, Value, scalar}
use Rattle.bson_base.specs.declared.spec.ElementType.{ElementType}
use Rattle.bson_base.specs.declared.spec.ElementType.TheVariants.{Double, String, EmbeddedDocument, Array, Binary, Undefined, ObjectId, Boolean, DateTime, Null, RegularExpression, DbPointer, JavaScriptCode, Symbol, JavaScriptCodeWithScope, Int32, Timestamp, Int64, Decimal128, MaxKey, MinKey}
use Rattle.bson_order.specs.Wholes.{whole_of}

abbrev pub named : List (List ℕ × ElementType) → List ℕ → Option ElementType
named [] t = None
named (e ∷ es) t = if bytes_eq t e.0 then Some e.1 else named es t

unfoldable pub kind_of_name : List ℕ → Option ElementType
kind_of_name t =
    named
    ((codes "double", Double) ∷ (codes "string", String) ∷ (codes "object", EmbeddedDocument) ∷ (codes "array", Array)
    ∷ (codes "binData", Binary) ∷ (codes "undefined", Undefined) ∷ (codes "objectId", ObjectId) ∷ (codes "bool", Boolean)
    ∷ (codes "date", DateTime) ∷ (codes "null", Null) ∷ (codes "regex", RegularExpression) ∷ (codes "dbPointer", DbPointer)
    ∷ (codes "javascript", JavaScriptCode) ∷ (codes "symbol", Symbol) ∷ (codes "javascriptWithScope", JavaScriptCodeWithScope)
    ∷ (codes "int", Int32) ∷ (codes "timestamp", Timestamp) ∷ (codes "long", Int64) ∷ (codes "decimal", Decimal128)
    ∷ (codes "maxKey", MaxKey) ∷ (codes "minKey", MinKey) ∷ [])
    t

abbrev pub numbered : List (ℤ × ElementType) → ℤ → Option ElementType
numbered [] z = None
numbered (e ∷ es) z = if int_eq z e.0 then Some e.1 else numbered es z

unfoldable pub kind_of_number : ℤ → Option ElementType
kind_of_number z =
    numbered
    ((pos 1, Double) ∷ (pos 2, String) ∷ (pos 3, EmbeddedDocument) ∷ (pos 4, Array) ∷ (pos 5, Binary) ∷ (pos 6, Undefined)
    ∷ (pos 7, ObjectId) ∷ (pos 8, Boolean) ∷ (pos 9, DateTime) ∷ (pos 10, Null) ∷ (pos 11, RegularExpression) ∷ (pos 12, DbPointer)
    ∷ (pos 13, JavaScriptCode) ∷ (pos 14, Symbol) ∷ (pos 15, JavaScriptCodeWithScope) ∷ (pos 16, Int32) ∷ (pos 17, Timestamp)
    ∷ (pos 18, Int64) ∷ (pos 19, Decimal128) ∷ (pos 127, MaxKey) ∷ (negsuc 0, MinKey) ∷ [])
    z

-- the kind that a value means: its name or its number
abbrev pub kind_of : Value → Option ElementType
kind_of (scalar (string t)) = kind_of_name t
kind_of v = option_and_then kind_of_number (whole_of v)

-- the name of all kinds of numbers
abbrev pub is_number : Value → Bool
is_number (scalar (string t)) = bytes_eq t (codes "number")
is_number v = false
