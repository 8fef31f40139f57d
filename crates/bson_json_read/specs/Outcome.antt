-- What reading gives: a value, or a fault. The names are those of the grammar over sorted trees (JsonRead of
-- bson_model), with the faults of this one.
use Rattle.std.specs.Prelude.{◌≡◌, Bool, if◌then◌else◌, Option, Some, None, Result, Ok, Err}
use Rattle.bson_base.specs.Answer.{◌>>=◌}
use Rattle.bson_base.specs.Value.{Scalar, Value, scalar}
use Rattle.bson_base.specs.declared.oid.Error as oid
use Rattle.bson_base.specs.declared.oid.Error.TheVariants as oid_errors
use Rattle.bson_json_read.specs.declared.error.Error.{Error}
use Rattle.bson_json_read.specs.declared.error.Error.TheVariants.{NotJson, RepeatedKey, InvalidObjectId, NumberOutOfRange, NotExtendedJson, Memory}

abbrev pub some_or_error : {A : Type 0} → Option A → Result A Error
some_or_error (Some x) = Ok x
some_or_error None = Err NotExtendedJson

-- every fault of a text, except that of an object id, becomes NotExtendedJson
abbrev pub ok_or_error : {A E : Type 0} → Result A E → Result A Error
ok_or_error (Ok x) = Ok x
ok_or_error (Err e) = Err NotExtendedJson

abbrev pub of_object_id : oid.Error → Error
of_object_id oid_errors.Memory = Memory
of_object_id (oid_errors.InvalidHexStringCharacter c i) = InvalidObjectId (oid_errors.InvalidHexStringCharacter c i)
of_object_id (oid_errors.InvalidHexStringLength n) = InvalidObjectId (oid_errors.InvalidHexStringLength n)

abbrev pub id_or_error : {A : Type 0} → Result A oid.Error → Result A Error
id_or_error (Ok x) = Ok x
id_or_error (Err e) = Err (of_object_id e)

-- one value, if its body is right
abbrev pub constant : Bool → Scalar → Result Scalar Error
constant b s = if b then Ok s else Err NotExtendedJson

abbrev pub scalar_of : Result Scalar Error → Result Value Error
scalar_of r = r >>= λ s. Ok (scalar s)

-- ---- what a call returns

-- the reading is this fault; out of memory can be reported whatever the reading is, and NotJson never, as a tree is
-- JSON
abbrev pub Fails : {Y : Type 0} → Error → Result Y Error → Type 0
Fails Memory r = Unit {0}
Fails (NotJson n) r = ⊥
Fails RepeatedKey r = r ≡ Err RepeatedKey
Fails (InvalidObjectId e) r = r ≡ Err (InvalidObjectId e)
Fails NumberOutOfRange r = r ≡ Err NumberOutOfRange
Fails NotExtendedJson r = r ≡ Err NotExtendedJson

-- What is returned, seen by `view`, is what reading gives, unless memory ran out.
abbrev pub GivesReading : {X Y : Type 0} → (X → Y) → Result X Error → Result Y Error → Type 0
GivesReading view (Ok x) r = r ≡ Ok (view x)
GivesReading view (Err e) r = Fails e r
