-- Documents of BSON that become lines of Extended JSON.
use Rattle.std.specs.Prelude.{◌≡◌, ◌≢◌, ◌⊎◌, ℕ, ◌+◌, false, List, [], ◌∷◌, ◌++◌, length, Some, Bool, true, Result, Ok, Err, string_bytes}
use Rattle.bson_base.specs.Device.{Feed, Tally, Took, TookAll, TakesBeginning}
use Rattle.bson_base.specs.Value.{Members, document}
use Rattle.bson_bytes.specs.Spells.{Means}
use Rattle.bson_frame.specs.declared.error.Error.{Error}
use Rattle.bson_frame.specs.declared.error.ErrorKind.TheVariants.{OutOfMemory}
use Rattle.bson_json.specs.Prints.{IsTextOf}
use Rattle.bson_meaning.specs.JsonReserved.{has_reserved, reserved_path_below}
use Rattle.bson_model.specs.declared.extjson.ser.Mode.{Mode}
use Rattle.bson_raw.specs.Input.{AreDeclared, IsRawFault, ReadsNextDocument}
use Rattle.bson_raw.specs.declared.read_error.ReadError.TheVariants as reading
use Rattle.cli_convert.specs.Parts.{InParts, Passed}
use Rattle.cli_convert.specs.declared.stop.Fault.{Fault}
use Rattle.cli_convert.specs.declared.stop.Fault.TheVariants.{EndInside, BadLength, Raw, ReservedKey}
use Rattle.cli_convert.specs.declared.stop.Stop.{Stop}
use Rattle.cli_convert.specs.declared.stop.Stop.TheVariants as stop

-- the bytes of one document, as many as they declare
abbrev pub IsDocument : List ℕ → Members → Type 0
IsDocument bytes d = AreDeclared bytes × Means bytes d

-- the same, and no key below its top is reserved
abbrev pub IsFree : List ℕ → Members → Type 0
IsFree bytes d = IsDocument bytes d × (has_reserved d ≡ false)

-- the text of a document and a line feed
abbrev pub IsLineOf : Mode → List ℕ → Members → Type 0
IsLineOf m line d = (text : List ℕ) × IsTextOf m (document d) text × (line ≡ text ++ 10 ∷ [])

-- The source gave these documents, one after the other, and the sink took a line of each.
pub record Wrote (m : Mode) (ds : List Members) (old new : Feed) (before after : Tally) : Type 0 where
  pub bytes : List ℕ
  pub took : Took old new bytes
  pub documents : InParts IsFree bytes ds
  pub sent : List ℕ
  pub passed : Passed before after sent
  pub lines : InParts (IsLineOf m) sent ds

-- what the source has next is at fault: as bson_raw reads it, or by a reserved key below the top, to which the path leads
abbrev pub RefusesNext : Feed → Feed → Fault → Type 0
RefusesNext old new EndInside = ReadsNextDocument old new (Err reading.EndInside)
RefusesNext old new BadLength = ReadsNextDocument old new (Err reading.BadLength)
RefusesNext old new (Raw e) = ReadsNextDocument old new (Err (reading.Raw e))
RefusesNext old new (ReservedKey path) = (bytes : List ℕ) × (d : Members) × Took old new bytes × IsDocument bytes d × (reserved_path_below d ≡ Some (string_bytes path))

-- what comes after n documents that became lines
abbrev pub EndsLines : Mode → ℕ → Feed → Feed → Tally → Tally → Result (Unit {0}) Stop → Type 0
EndsLines m n old new before after (Ok x) = TookAll old new [] × (after ≡ before)
EndsLines m n old new before after (Err (stop.Document i fault)) = (i ≡ n) × RefusesNext old new fault × (after ≡ before)
EndsLines m n old new before after (Err (stop.Line i fault)) = ⊥
EndsLines m n old new before after (Err stop.Reader) = (new.failures ≡ old.failures + 1) × (after ≡ before)
EndsLines m n old new before after (Err stop.Writer) =
    (bytes line : List ℕ) × (d : Members) × Took old new bytes × IsFree bytes d × IsLineOf m line d × (after.failures ≡ before.failures + 1) × TakesBeginning before.taken after.taken line
EndsLines m n old new before after (Err stop.Memory) = (new.failures ≡ old.failures) × (after ≡ before)

-- The first documents of the source became lines; and then it had nothing left, or the next one didn't become one.
pub record WritesLines (m : Mode) (old new : Feed) (before after : Tally) (result : Result (Unit {0}) Stop) : Type 0 where
  pub documents : List Members
  pub read : Feed
  pub written : Tally
  pub so_far : Wrote m documents old read before written
  pub end : EndsLines m (length documents) read new written after result

-- ---- its parts

-- the bytes of the next document, if there is one
abbrev pub TakesBytes : ℕ → Feed → Feed → List ℕ → Result Bool Stop → Type 0
TakesBytes n old new bytes (Ok true) = Took old new bytes × AreDeclared bytes
TakesBytes n old new bytes (Ok false) = TookAll old new []
TakesBytes n old new bytes (Err (stop.Document i fault)) = (i ≡ n) × RefusesNext old new fault
TakesBytes n old new bytes (Err (stop.Line i fault)) = ⊥
TakesBytes n old new bytes (Err stop.Reader) = new.failures ≡ old.failures + 1
TakesBytes n old new bytes (Err stop.Writer) = ⊥
TakesBytes n old new bytes (Err stop.Memory) = new.failures ≡ old.failures

-- a refused conversion of the document at the place n
abbrev pub IsRefusalOf : ℕ → Error → Stop → Type 0
IsRefusalOf n e told = ((e.kind ≡ OutOfMemory) × (told ≡ stop.Memory)) ⊎ ((e.kind ≢ OutOfMemory) × (told ≡ stop.Document n (Raw e)))

-- bytes mean a document without a reserved key below its top, which has this text
abbrev pub IsFreeText : Mode → List ℕ → List ℕ → Type 0
IsFreeText m bytes text = (d : Members) × Means bytes d × (has_reserved d ≡ false) × IsTextOf m (document d) text

-- the same, which has this line
abbrev pub IsFreeLine : Mode → List ℕ → List ℕ → Type 0
IsFreeLine m bytes line = (d : Members) × Means bytes d × (has_reserved d ≡ false) × IsLineOf m line d

-- bytes mean no document, or one with a reserved key below its top, to which the path leads
abbrev pub HasNoLine : ℕ → List ℕ → Stop → Type 0
HasNoLine n bytes (stop.Document i EndInside) = ⊥
HasNoLine n bytes (stop.Document i BadLength) = ⊥
HasNoLine n bytes (stop.Document i (Raw e)) = (i ≡ n) × IsRawFault bytes e
HasNoLine n bytes (stop.Document i (ReservedKey path)) = (i ≡ n) × ((d : Members) × Means bytes d × (reserved_path_below d ≡ Some (string_bytes path)))
HasNoLine n bytes (stop.Line i fault) = ⊥
HasNoLine n bytes stop.Reader = ⊥
HasNoLine n bytes stop.Writer = ⊥
HasNoLine n bytes stop.Memory = Unit {0}

-- one more document became a line, or it was the end
abbrev pub TurnsLine : Mode → ℕ → Feed → Feed → Tally → Tally → Result Bool Stop → Type 0
TurnsLine m n old new before after (Ok true) = (d : Members) × Wrote m (d ∷ []) old new before after
TurnsLine m n old new before after (Ok false) = EndsLines m n old new before after (Ok tt)
TurnsLine m n old new before after (Err e) = EndsLines m n old new before after (Err e)
