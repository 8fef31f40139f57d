-- What clauses see of the code's types.
use Rattle.std.specs.Prelude.{◌≡◌, ℕ, List, Option, Some, None, string_bytes, ◌⊎◌}
use Rattle.std.specs.Option.{option_map}
use Rattle.bson_frame.specs.declared.parts.Frame.{Frame}
use Rattle.bson_frame.specs.declared.error.ErrorKind.{ErrorKind}
use Rattle.bson_frame.specs.declared.error.ErrorKind.TheVariants.{OutOfMemory}
use Rattle.bson_frame.specs.declared.error.Error.{Error}
use Rattle.bson_frame.specs.declared.error.ValueAccessError.{ValueAccessError}
use Rattle.bson_frame.specs.declared.error.ValueAccessErrorKind.{ValueAccessErrorKind}
use Rattle.bson_frame.specs.declared.error.ValueAccessErrorKind.TheVariants as refusals
use Rattle.bson_frame.specs.Frame.{Element}

-- a frame without its place in memory, and without what follows it
abbrev pub element_of : Frame → Element
element_of f = record { tag = f.tag; key = f.key.now; payload = f.payload.now }

-- the key of a fault, if it has one
abbrev pub fault_key : Error → Option (List ℕ)
fault_key e = option_map string_bytes e.key

-- the key that was asked for
abbrev pub asked_key : ValueAccessError → List ℕ
asked_key e = string_bytes e.key

-- a fault of this kind under no key
abbrev pub IsBare : ErrorKind → Error → Type 0
IsBare kind e = (e.kind ≡ kind) × (fault_key e ≡ None)

-- a payload fault under its key, or out of memory instead of it
abbrev pub IsFaultUnder : List ℕ → ErrorKind → Error → Type 0
IsFaultUnder key kind e = ((e.kind ≡ kind) × (fault_key e ≡ Some key)) ⊎ IsBare OutOfMemory e

-- why a value isn't there, without the place of its key in memory
pub data Reason : Type 0 where
  not_present : Reason
  unexpected_type : Reason
  invalid_bson : Option (List ℕ) → ErrorKind → Reason
  out_of_memory : Reason

abbrev pub reason_of : ValueAccessErrorKind → Reason
reason_of refusals.NotPresent = not_present
reason_of refusals.UnexpectedType = unexpected_type
reason_of (refusals.InvalidBson e) = invalid_bson (fault_key e) e.kind
reason_of refusals.OutOfMemory = out_of_memory
