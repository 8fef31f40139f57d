-- Reading a UUID from a binary value.
use Rattle.std.specs.Prelude.{◌≡◌, ◌≢◌, Result, Ok, Err, vec_len}
use Rattle.bson_base.specs.declared.binary.Binary.{Binary}
use Rattle.bson_base.specs.declared.uuid.Uuid.{Uuid}
use Rattle.bson_base.specs.declared.uuid.Error.{Error}
use Rattle.bson_base.specs.declared.uuid.Error.TheVariants.{InvalidUuidString, RepresentationMismatch, InvalidLength, Memory}
use Rattle.bson_base.specs.declared.uuid.UuidRepresentation.{UuidRepresentation}
use Rattle.bson_base.specs.Scalars.{uuid_bytes}
use Rattle.bson_base.specs.Uuids.{uuid_subtype, uuid_form}

-- what reading in a representation returns: first the subtype is tested, then the number of bytes
abbrev pub ReadsUuid : UuidRepresentation → Binary → Result Uuid Error → Type 0
ReadsUuid r b (Ok u) = (b.subtype ≡ uuid_subtype r) × (b.bytes.items ≡ uuid_form r (uuid_bytes u))
ReadsUuid r b (Err (RepresentationMismatch expected actual requested)) = (b.subtype ≢ uuid_subtype r) × (expected ≡ uuid_subtype r) × (actual ≡ b.subtype) × (requested ≡ r)
ReadsUuid r b (Err (InvalidLength n)) = (b.subtype ≡ uuid_subtype r) × (n ≡ vec_len b.bytes) × (n ≢ 16)
ReadsUuid r b (Err InvalidUuidString) = ⊥
ReadsUuid r b (Err Memory) = ⊥
