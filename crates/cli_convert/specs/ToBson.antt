-- Lines of Extended JSON that become documents of BSON.
use Rattle.std.specs.Prelude.{◌≡◌, ◌⊎◌, ℕ, ◌+◌, List, [], ◌∷◌, ◌++◌, length, Option, Some, None, Result, Ok, Err}
use Rattle.bson_base.specs.Device.{Feed, Tally, TookAll, TakesText, TakesBeginning}
use Rattle.bson_base.specs.Value.{Members, document}
use Rattle.bson_bytes.specs.Encode.{encode}
use Rattle.bson_bytes.specs.Writing.{CanBeWritten}
use Rattle.bson_frame.specs.declared.error.ErrorKind.TheVariants.{MalformedValue}
use Rattle.bson_frame.specs.View.{IsBare}
use Rattle.cli_convert.specs.Line.{IsUnbroken}
use Rattle.cli_convert.specs.Lines.{Reads, IsReadAs, GivesLines, RefusesText, HasNext, StopsAt}
use Rattle.cli_convert.specs.Parts.{InParts, Passed}
use Rattle.cli_convert.specs.declared.stop.LineFault.{LineFault}
use Rattle.cli_convert.specs.declared.stop.LineFault.TheVariants.{TooLong, NotUtf8, Text, Raw}
use Rattle.cli_convert.specs.declared.stop.Stop.{Stop}
use Rattle.cli_convert.specs.declared.stop.Stop.TheVariants as stop

-- what is written for a line
abbrev pub IsWritten : List ℕ → Option Members → Type 0
IsWritten bytes None = bytes ≡ []
IsWritten bytes (Some d) = CanBeWritten (document d) × (bytes ≡ encode d)

-- the sink took the document of each line that has one
abbrev pub Sent : List (Option Members) → Tally → Tally → Type 0
Sent os before after = (bytes : List ℕ) × Passed before after bytes × InParts IsWritten bytes os

-- a document that can't be written, and how that is reported of its line
abbrev pub Unwritable : Members → LineFault → Type 0
Unwritable d TooLong = ⊥
Unwritable d (NotUtf8 n) = ⊥
Unwritable d (Text e) = ⊥
Unwritable d (Raw e) = (CanBeWritten (document d) → ⊥) × IsBare MalformedValue e

-- why a line has no document, or none that can be written
abbrev pub RefusesLine : List ℕ → LineFault → Type 0
RefusesLine text fault = RefusesText text fault ⊎ ((d : Members) × Reads text d × Unwritable d fault)

-- bytes with which no document begins: a length of 4294967295
abbrev pub spoil : List ℕ
spoil = 255 ∷ 255 ∷ 255 ∷ 255 ∷ []

-- What comes after n lines, while some bytes wait: the last line, which may have no byte; or a refusal, and then the
-- sink takes what Tail says.
abbrev pub EndsDocuments : (Tally → Tally → Type 0) → ℕ → Feed → Feed → List ℕ → Tally → Tally → Result (Unit {0}) Stop → Type 0
EndsDocuments Tail n old new waiting before after (Ok x) =
    (given : List ℕ) × (o : Option Members) × TookAll old new given × IsUnbroken (waiting ++ given) × IsReadAs (waiting ++ given) o × Sent (o ∷ []) before after
EndsDocuments Tail n old new waiting before after (Err (stop.Document i fault)) = ⊥
EndsDocuments Tail n old new waiting before after (Err (stop.Line i fault)) = (i ≡ n + 1) × ((text : List ℕ) × HasNext old new waiting text × RefusesLine text fault) × Tail before after
EndsDocuments Tail n old new waiting before after (Err stop.Reader) = StopsAt n old new waiting stop.Reader × Tail before after
EndsDocuments Tail n old new waiting before after (Err stop.Writer) =
    (text : List ℕ) × (d : Members) × HasNext old new waiting text × Reads text d × CanBeWritten (document d) × (after.failures ≡ before.failures + 1) × TakesBeginning before.taken after.taken (encode d)
EndsDocuments Tail n old new waiting before after (Err stop.Memory) = (new.failures ≡ old.failures) × Tail before after

-- The first lines of the source were written as documents; and then there was no further line feed, or the next line
-- wasn't written.
pub record EndsBehind (Tail : Tally → Tally → Type 0) (old new : Feed) (before after : Tally) (result : Result (Unit {0}) Stop) : Type 0 where
  pub lines : List (Option Members)
  pub read : Feed
  pub waiting : List ℕ
  pub written : Tally
  pub gives : GivesLines lines old read [] waiting
  pub sent : Sent lines before written
  pub end : EndsDocuments Tail (length lines) read new waiting written after result

-- bytes with which no document begins, or a prefix of them, as a call failed
abbrev pub TakesSpoil : Tally → Tally → Type 0
TakesSpoil before after = TakesText before after spoil

-- the same, and after a refusal that isn't the sink's own, the sink takes bytes that spoil the stream
abbrev pub WritesDocuments : Feed → Feed → Tally → Tally → Result (Unit {0}) Stop → Type 0
WritesDocuments old new before after result = EndsBehind TakesSpoil old new before after result

-- ---- its parts

abbrev pub TakesNothing : Tally → Tally → Type 0
TakesNothing before after = after ≡ before

-- the document of line n was written
abbrev pub SendsOut : ℕ → Members → Tally → Tally → Result (Unit {0}) Stop → Type 0
SendsOut n d before after (Ok x) = CanBeWritten (document d) × Passed before after (encode d)
SendsOut n d before after (Err (stop.Document i fault)) = ⊥
SendsOut n d before after (Err (stop.Line i fault)) = (i ≡ n) × Unwritable d fault × (after ≡ before)
SendsOut n d before after (Err stop.Reader) = ⊥
SendsOut n d before after (Err stop.Writer) = CanBeWritten (document d) × (after.failures ≡ before.failures + 1) × TakesBeginning before.taken after.taken (encode d)
SendsOut n d before after (Err stop.Memory) = after ≡ before
