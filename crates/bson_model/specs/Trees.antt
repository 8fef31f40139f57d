-- The trees of values of one kind.
use Rattle.std.specs.Prelude.{ℕ, ℤ, ◌^◌, nat_lt, if◌then◌else◌, pos, Bool, map, String, string_bytes, Option, Some, None}
use Rattle.std.specs.declared.alloc.Global.{Global}
use Rattle.std.specs.declared.vec.Vec.{Vec}
use Rattle.bson_base.specs.Scalars.{id_bytes, millis_of, decimal_bytes}
use Rattle.bson_base.specs.Value.{Value, scalar, array, document, scoped_code, double, string, boolean, null, regex, int32, int64, timestamp, binary, object_id, date_time, decimal, db_pointer}
use Rattle.bson_base.specs.declared.binary.Binary.{Binary}
use Rattle.bson_base.specs.declared.datetime.DateTime.{DateTime}
use Rattle.bson_base.specs.declared.decimal128.Decimal128.{Decimal128}
use Rattle.bson_base.specs.declared.double.DoubleBits.{DoubleBits}
use Rattle.bson_base.specs.declared.oid.ObjectId.{ObjectId}
use Rattle.bson_base.specs.declared.pointer.DbPointer.{DbPointer}
use Rattle.bson_base.specs.declared.regex.Regex.{Regex}
use Rattle.bson_base.specs.declared.spec.BinarySubtype.TheVariants.{Generic}
use Rattle.bson_base.specs.declared.timestamp.Timestamp.{Timestamp}
use Rattle.bson_model.specs.View.{view, items_of, content}
use Rattle.bson_model.specs.declared.bson.Bson.{Bson}
use Rattle.bson_model.specs.declared.bson.JavaScriptCodeWithScope.{JavaScriptCodeWithScope}
use Rattle.bson_model.specs.declared.document.Document.{Document}

abbrev pub f64_tree : DoubleBits → Value
f64_tree d = scalar (double d.0)

abbrev pub text_tree : String Global → Value
text_tree s = scalar (string (string_bytes s))

abbrev pub array_tree : Vec Bson Global → Value
array_tree a = array (items_of (map view a.items))

abbrev pub document_tree : Document → Value
document_tree d = document (content d)

abbrev pub bool_tree : Bool → Value
bool_tree b = scalar (boolean b)

abbrev pub regex_tree : Regex → Value
regex_tree r = scalar (regex (string_bytes r.pattern) (string_bytes r.options))

abbrev pub scoped_code_tree : JavaScriptCodeWithScope → Value
scoped_code_tree c = scoped_code (string_bytes c.code) (content c.scope)

abbrev pub i32_tree : ℤ → Value
i32_tree z = scalar (int32 z)

abbrev pub i64_tree : ℤ → Value
i64_tree z = scalar (int64 z)

-- an Int32 if the number fits, else an Int64
abbrev pub u32_tree : ℕ → Value
u32_tree n = if nat_lt n (2 ^ 31) then i32_tree (pos n) else i64_tree (pos n)

abbrev pub timestamp_tree : Timestamp → Value
timestamp_tree t = scalar (timestamp t.time t.increment)

abbrev pub binary_tree : Binary → Value
binary_tree b = scalar (binary b.subtype b.bytes.items)

-- bytes of subtype Generic
abbrev pub generic_tree : Vec ℕ Global → Value
generic_tree bs = scalar (binary Generic bs.items)

abbrev pub object_id_tree : ObjectId → Value
object_id_tree i = scalar (object_id (id_bytes i))

abbrev pub date_time_tree : DateTime → Value
date_time_tree t = scalar (date_time (millis_of t))

abbrev pub decimal128_tree : Decimal128 → Value
decimal128_tree d = scalar (decimal (decimal_bytes d))

abbrev pub db_pointer_tree : DbPointer → Value
db_pointer_tree p = scalar (db_pointer (string_bytes p.namespace) (id_bytes p.id))

-- the value, or Null if there is none
abbrev pub option_tree : Option Bson → Value
option_tree None = scalar null
option_tree (Some v) = view v
