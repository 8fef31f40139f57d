-- What is reported when a tree is written.
use Rattle.std.specs.Prelude.{◌≡◌, ℕ, ◌<◌, ◌^◌, List, ◌++◌, None}
use Rattle.bson_base.specs.Kinds.{IsPlain}
use Rattle.bson_base.specs.Value.{Value}
use Rattle.bson_bytes.specs.Encode.{value_size}
use Rattle.bson_frame.specs.declared.error.Error.{Error}
use Rattle.bson_frame.specs.declared.error.ErrorKind.{ErrorKind}
use Rattle.bson_frame.specs.declared.error.ErrorKind.TheVariants.{MalformedValue, Utf8EncodingError, OutOfMemory}
use Rattle.bson_frame.specs.View.{fault_key}

-- what the kind of an error says when a tree is written
abbrev pub RefusesWriting : Type 0 → ErrorKind → Type 0
RefusesWriting Reason MalformedValue = Reason
RefusesWriting Reason Utf8EncodingError = ⊥
RefusesWriting Reason OutOfMemory = Unit {0}

-- MalformedValue for this reason alone, or out of memory; no key is reported
abbrev pub IsWriteRefusal : Type 0 → Error → Type 0
IsWriteRefusal Reason e = RefusesWriting Reason e.kind × (fault_key e ≡ None)

-- the old bytes are a prefix of the new ones
abbrev pub StartsWith : List ℕ → List ℕ → Type 0
StartsWith new old = (more : List ℕ) × (new ≡ old ++ more)

-- no 00 in a key, a pattern or options, and at most 2147483647 bytes
abbrev pub CanBeWritten : Value → Type 0
CanBeWritten v = IsPlain v × (value_size v < 2 ^ 31)
