-- The types that a `Bson` holds, as the logic holds them, for the clauses on what a `&mut` lends.
use denote.RattleType.{RattleType}
use Rattle.std.specs.Prelude.{ℕ}
use Rattle.std.specs.Borrow.{u8}
use Rattle.std.specs.contracts.alloc.Global as global
use Rattle.std.specs.contracts.vec.Vec as vec
use Rattle.std.specs.contracts.string.String as text
use Rattle.std.specs.contracts.impls.GlobalAllocator.TheImpl.{ghosts}
use Rattle.bson_base.specs.contracts.double.DoubleBits as double
use Rattle.bson_base.specs.contracts.oid.ObjectId as object_id
use Rattle.bson_base.specs.contracts.datetime.DateTime as date_time
use Rattle.bson_base.specs.contracts.decimal128.Decimal128 as decimal128
use Rattle.bson_base.specs.contracts.timestamp.Timestamp as timestamp
use Rattle.std.specs.declared.alloc.Global.{Global}
use Rattle.std.specs.declared.vec.Vec.{Vec}
use Rattle.bson_base.specs.declared.binary.Binary.{Binary}
use Rattle.bson_base.specs.contracts.binary.Binary as binary
use Rattle.bson_model.specs.contracts.bson.Bson as bson
use Rattle.bson_model.specs.contracts.document.Document as document

abbrev pub document_row : RattleType
document_row = document.the_row

abbrev pub array_row : RattleType
array_row = vec.the_row bson.the_row global.the_row ghosts

abbrev pub text_row : RattleType
text_row = text.the_row global.the_row ghosts

abbrev pub bytes_row : RattleType
bytes_row = vec.the_row u8 global.the_row ghosts

abbrev pub binary_row : RattleType
binary_row = binary.the_row

abbrev pub double_row : RattleType
double_row = double.the_row

abbrev pub object_id_row : RattleType
object_id_row = object_id.the_row

abbrev pub date_time_row : RattleType
date_time_row = date_time.the_row

abbrev pub decimal128_row : RattleType
decimal128_row = decimal128.the_row

abbrev pub timestamp_row : RattleType
timestamp_row = timestamp.the_row

-- the binary value with other bytes
abbrev pub with_bytes : Binary → Vec ℕ Global → Binary
with_bytes b bs = record b { bytes = bs }
