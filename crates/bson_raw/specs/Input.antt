-- What reading one document does to a source.
use Rattle.std.specs.Prelude.{◌≡◌, ◌≢◌, ℕ, ◌+◌, ◌<◌, ◌≤◌, Bool, true, false, List, [], ◌++◌, drop, length, Option, Some, None, Result, Ok, Err, ◌⊎◌}
use Rattle.bson_base.specs.Device.{Feed, Took, TookAll}
use Rattle.bson_base.specs.Value.{Members}
use Rattle.bson_bytes.specs.Spells.{Means}
use Rattle.bson_frame.specs.Frame.{number, size_limit}
use Rattle.bson_frame.specs.Payload.{IsEnvelope}
use Rattle.bson_frame.specs.View.{fault_key, IsBare}
use Rattle.bson_frame.specs.declared.error.Error.{Error as Fault}
use Rattle.bson_frame.specs.declared.error.ErrorKind.TheVariants.{MalformedValue, OutOfMemory}
use Rattle.bson_model.specs.declared.document.Document.{Document}
use Rattle.bson_model.specs.View.{content}
use Rattle.bson_raw.specs.declared.read_error.ReadError.{ReadError}
use Rattle.bson_raw.specs.declared.read_error.ReadError.TheVariants.{Reader, EndInside, BadLength, Raw, Memory}
use Rattle.bson_raw.specs.Convert.{HasFault}

-- a length that the document of an input may declare
abbrev pub IsInputLength : ℕ → Type 0
IsInputLength n = (5 ≤ n) × (n ≤ size_limit)

-- the bytes of one document: as many as the first four declare
abbrev pub AreDeclared : List ℕ → Type 0
AreDeclared bytes = IsInputLength (number bytes) × (length bytes ≡ number bytes)

-- too few bytes for a length, or fewer than are declared
abbrev pub EndInDocument : List ℕ → Type 0
EndInDocument bytes = (length bytes < 4) ⊎ ((4 ≤ length bytes) × IsInputLength (number bytes) × (length bytes < number bytes))

-- the last byte isn't 00, or elements have this first fault; so the bytes mean no document
abbrev pub IsRawFault : List ℕ → Fault → Type 0
IsRawFault bytes e = (e.kind ≢ OutOfMemory) × (((IsEnvelope bytes → ⊥) × IsBare MalformedValue e) ⊎ (IsEnvelope bytes × HasFault (drop 4 bytes) (fault_key e) e.kind))
    × ((d : Members) → Means bytes d → ⊥)

abbrev pub ReadsDocument : Feed → Feed → Result Document ReadError → Type 0
ReadsDocument old new (Ok d) = (bytes : List ℕ) × Took old new bytes × AreDeclared bytes × Means bytes (content d)
ReadsDocument old new (Err Reader) = new.failures ≡ old.failures + 1
ReadsDocument old new (Err EndInside) = (bytes : List ℕ) × TookAll old new bytes × EndInDocument bytes
ReadsDocument old new (Err BadLength) = (bytes : List ℕ) × Took old new bytes × (length bytes ≡ 4) × (IsInputLength (number bytes) → ⊥)
ReadsDocument old new (Err (Raw e)) = (bytes : List ℕ) × Took old new bytes × AreDeclared bytes × IsRawFault bytes e
ReadsDocument old new (Err Memory) = new.failures ≡ old.failures

-- the next document of a source that gives one after the other: None if it had nothing left
abbrev pub ReadsNextDocument : Feed → Feed → Result (Option Document) ReadError → Type 0
ReadsNextDocument old new (Ok None) = TookAll old new []
ReadsNextDocument old new (Ok (Some d)) = ReadsDocument old new (Ok d)
ReadsNextDocument old new (Err Reader) = ReadsDocument old new (Err Reader)
ReadsNextDocument old new (Err EndInside) = (bytes : List ℕ) × TookAll old new bytes × (0 < length bytes) × EndInDocument bytes
ReadsNextDocument old new (Err BadLength) = ReadsDocument old new (Err BadLength)
ReadsNextDocument old new (Err (Raw e)) = ReadsDocument old new (Err (Raw e))
ReadsNextDocument old new (Err Memory) = ReadsDocument old new (Err Memory)

-- ---- its parts

-- the first four bytes, unless nothing was left
abbrev pub ReadsHead : Feed → Feed → Result (Option (List ℕ)) ReadError → Type 0
ReadsHead old new (Ok None) = TookAll old new []
ReadsHead old new (Ok (Some head)) = Took old new head × (length head ≡ 4)
ReadsHead old new (Err Reader) = new.failures ≡ old.failures + 1
ReadsHead old new (Err EndInside) = (bytes : List ℕ) × TookAll old new bytes × (0 < length bytes) × (length bytes < 4)
ReadsHead old new (Err _) = ⊥

-- the bytes after the first four, up to a length
abbrev pub ReadsRest : Feed → Feed → List ℕ → ℕ → List ℕ → Result (Unit {0}) ReadError → Type 0
ReadsRest old new head n all (Ok x) = (rest : List ℕ) × Took old new rest × (all ≡ head ++ rest) × (length all ≡ n)
ReadsRest old new head n all (Err Reader) = new.failures ≡ old.failures + 1
ReadsRest old new head n all (Err EndInside) = (rest : List ℕ) × TookAll old new rest × (length (head ++ rest) < n)
ReadsRest old new head n all (Err Memory) = new.failures ≡ old.failures
ReadsRest old new head n all (Err _) = ⊥

-- the declared bytes of the next document, unless nothing was left
abbrev pub TakesDeclared : Feed → Feed → List ℕ → Result Bool ReadError → Type 0
TakesDeclared old new all (Ok true) = Took old new all × AreDeclared all
TakesDeclared old new all (Ok false) = TookAll old new []
TakesDeclared old new all (Err Reader) = new.failures ≡ old.failures + 1
TakesDeclared old new all (Err EndInside) = (bytes : List ℕ) × TookAll old new bytes × (0 < length bytes) × EndInDocument bytes
TakesDeclared old new all (Err BadLength) = (bytes : List ℕ) × Took old new bytes × (length bytes ≡ 4) × (IsInputLength (number bytes) → ⊥)
TakesDeclared old new all (Err (Raw e)) = ⊥
TakesDeclared old new all (Err Memory) = new.failures ≡ old.failures

-- a refused conversion, as a reader reports it
abbrev pub IsConversionRefusal : Fault → ReadError → Type 0
IsConversionRefusal e told = ((e.kind ≡ OutOfMemory) × (told ≡ Memory)) ⊎ ((e.kind ≢ OutOfMemory) × (told ≡ Raw e))

-- what bytes are read as
abbrev pub ReadsDeclared : List ℕ → Result Document ReadError → Type 0
ReadsDeclared bytes (Ok d) = Means bytes (content d)
ReadsDeclared bytes (Err (Raw e)) = IsRawFault bytes e
ReadsDeclared bytes (Err Memory) = Unit {0}
ReadsDeclared bytes (Err _) = ⊥
