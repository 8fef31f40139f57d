-- What a copy of an element's value returns.
use Rattle.std.specs.Prelude.{◌≡◌, ◌⊎◌, Result, Ok, Err}
use Rattle.bson_frame.specs.declared.error.Error.{Error}
use Rattle.bson_frame.specs.declared.error.ErrorKind.{ErrorKind}
use Rattle.bson_frame.specs.declared.error.ErrorKind.TheVariants.{OutOfMemory}
use Rattle.bson_frame.specs.Frame.{Element}
use Rattle.bson_frame.specs.Payload.{IsPayloadFault}
use Rattle.bson_frame.specs.View.{IsBare, IsFaultUnder}
use Rattle.bson_raw.specs.declared.bson.RawBson.{RawBson}
use Rattle.bson_raw.specs.declared.bson_ref.RawBsonRef.{RawBsonRef}
use Rattle.bson_raw.specs.Raw.{ref_value, own_value}
use Rattle.bson_raw.specs.ReadValue.{IsValue}

-- the payload fault under its key, or out of memory
abbrev pub IsCopyRefusal : Element → Error → Type 0
IsCopyRefusal e x = ((kind : ErrorKind) × IsPayloadFault e.tag e.payload kind × IsFaultUnder e.key kind x) ⊎ IsBare OutOfMemory x

-- a copy of the value that the payload holds
abbrev pub CopyAnswers : Element → Result RawBson Error → Type 0
CopyAnswers e (Ok copy) = (v : RawBsonRef) × IsValue e.tag e.payload v × (own_value copy ≡ ref_value v)
CopyAnswers e (Err x) = IsCopyRefusal e x
