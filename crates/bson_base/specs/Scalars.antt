-- What clauses see of the scalars whose fields are private.
use Rattle.std.specs.Prelude.{ℕ, ℤ, List}
use Rattle.bson_base.specs.declared.oid.ObjectId.{ObjectId}
use Rattle.bson_base.specs.declared.datetime.DateTime.{DateTime}
use Rattle.bson_base.specs.declared.uuid.Uuid.{Uuid}
use Rattle.bson_base.specs.declared.decimal128.Decimal128.{Decimal128}

-- the twelve bytes
abbrev pub id_bytes : ObjectId → List ℕ
id_bytes i = i.id

-- milliseconds since 1970-01-01T00:00:00Z
abbrev pub millis_of : DateTime → ℤ
millis_of d = d.0

-- the 16 bytes, the lowest first
abbrev pub decimal_bytes : Decimal128 → List ℕ
decimal_bytes d = d.bytes

-- the 16 bytes, the highest first
abbrev pub uuid_bytes : Uuid → List ℕ
uuid_bytes u = u.bytes
