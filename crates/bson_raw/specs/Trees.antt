-- Trees as raw values, and the writing of a tree to a device.
use Rattle.std.specs.Prelude.{◌≡◌, ◌+◌, Result, Ok, Err, IfErr}
use Rattle.std.specs.Io.KnownBytes.{Appends}
use Rattle.bson_base.specs.Device.{Tally, TakesBeginning}
use Rattle.bson_base.specs.Value as values
use Rattle.bson_base.specs.Value.{Value, Members}
use Rattle.bson_bytes.specs.Encode.{frame_of, items_bytes, encode}
use Rattle.bson_bytes.specs.Writing.{CanBeWritten}
use Rattle.bson_frame.specs.declared.error.Error.{Error}
use Rattle.bson_frame.specs.declared.error.ErrorKind.TheVariants.{MalformedValue}
use Rattle.bson_frame.specs.View.{IsBare}
use Rattle.bson_model.specs.declared.bson.Bson.{Bson}
use Rattle.bson_raw.specs.declared.bson.RawBson.{RawBson}
use Rattle.bson_raw.specs.declared.write_error.WriteError.{WriteError}
use Rattle.bson_raw.specs.declared.write_error.WriteError.TheVariants.{Writer, Raw, Memory}
use Rattle.bson_raw.specs.Convert.{ConvertsValue, SpellsRawValue, TellsFault}
use Rattle.bson_raw.specs.Raw.{RawValue, leaf, array, document, scoped_code, own_value}

-- the tree with what is inside written
abbrev pub raw_of : Value → RawValue
raw_of (values.scalar s) = leaf s
raw_of (values.array vs) = array (frame_of (items_bytes 0 vs))
raw_of (values.document ms) = document (encode ms)
raw_of (values.scoped_code t ms) = scoped_code t (encode ms)

-- what is inside can be written
abbrev pub CanBeRaw : Value → Type 0
CanBeRaw (values.scalar s) = Unit {0}
CanBeRaw (values.array vs) = CanBeWritten (values.array vs)
CanBeRaw (values.document ms) = CanBeWritten (values.document ms)
CanBeRaw (values.scoped_code t ms) = CanBeWritten (values.document ms)

-- a document was written; or nothing was, as it can't be written or memory ran out; or a prefix was, as a call of the
-- device failed. What is known of a device: how many of its calls failed, and the bytes that it took, if it knows them.
abbrev pub SendsDocument : Members → Tally → Tally → Result (Unit {0}) WriteError → Type 0
SendsDocument d old new (Ok x) = CanBeWritten (values.document d) × (new.failures ≡ old.failures) × Appends old.taken new.taken (encode d)
SendsDocument d old new (Err Writer) = CanBeWritten (values.document d) × (new.failures ≡ old.failures + 1) × TakesBeginning old.taken new.taken (encode d)
SendsDocument d old new (Err (Raw e)) = (CanBeWritten (values.document d) → ⊥) × IsBare MalformedValue e × (new ≡ old)
SendsDocument d old new (Err Memory) = new ≡ old

-- a value converts as one that borrows the same
abbrev pub ConvertsOwned : RawBson → Result Bson Error → Type 0
ConvertsOwned v result = ConvertsValue (own_value v) result × IfErr result (TellsFault (λ _ _. (w : Value) → SpellsRawValue (own_value v) w → ⊥))
