-- Lines of Extended JSON, and what becomes of their documents.
use Rattle.std.specs.Prelude.{◌≡◌, ◌≢◌, ◌⊎◌, ℕ, ◌+◌, ◌-◌, ◌<◌, ◌≤◌, ◌^◌, List, [], ◌∷◌, ◌++◌, length, IsUtf8, Bool, true, false, Option, Some, None, Result, Ok, Err}
use Rattle.std.specs.Str.{IsValidUpTo}
use Rattle.bson_base.specs.Device.{Feed, Took, TookAll, Gives}
use Rattle.bson_base.specs.Value.{Members}
use Rattle.bson_json_read.specs.Reading.{ReadsText}
use Rattle.bson_json_read.specs.declared.error.Error.TheVariants as reading
use Rattle.bson_model.specs.View.{content}
use Rattle.bson_model.specs.declared.document.Document.{Document}
use Rattle.cli_convert.specs.Line.{IsUnbroken}
use Rattle.cli_convert.specs.declared.line.TheConstants.{MOST}
use Rattle.cli_convert.specs.Parts.{InParts}
use Rattle.cli_convert.specs.declared.stop.LineFault.{LineFault}
use Rattle.cli_convert.specs.declared.stop.LineFault.TheVariants.{TooLong, NotUtf8, Text, Raw}
use Rattle.cli_convert.specs.declared.stop.Stop.{Stop}
use Rattle.cli_convert.specs.declared.stop.Stop.TheVariants as stop

-- the text of a line and its document
abbrev pub Reads : List ℕ → Members → Type 0
Reads text d = (0 < length text) × IsUtf8 text × ((read : Document) × (content read ≡ d) × ReadsText text (Ok read))

-- a line without a byte has no document
abbrev pub IsReadAs : List ℕ → Option Members → Type 0
IsReadAs text None = text ≡ []
IsReadAs text (Some d) = Reads text d

-- a line with its line feed
abbrev pub IsLine : List ℕ → Option Members → Type 0
IsLine line o = (text : List ℕ) × (line ≡ text ++ 10 ∷ []) × IsUnbroken text × IsReadAs text o

-- The source gave these lines, and after them what is held.
pub record GivesLines (os : List (Option Members)) (old new : Feed) (held waiting : List ℕ) : Type 0 where
  pub given : List ℕ
  pub took : Took old new given
  pub bytes : List ℕ
  pub whole : held ++ given ≡ bytes ++ waiting
  pub lines : InParts IsLine bytes os

-- why a line has no document; one that isn't UTF-8 is so up to that byte
abbrev pub RefusesText : List ℕ → LineFault → Type 0
RefusesText text TooLong = MOST < length text
RefusesText text (NotUtf8 n) = (IsUtf8 text → ⊥) × IsValidUpTo text n
RefusesText text (Text e) = (0 < length text) × (e ≢ reading.Memory) × ReadsText text (Err e)
RefusesText text (Raw e) = ⊥

-- the document of a line that has a byte
abbrev pub ReadsLine : ℕ → List ℕ → Result Document Stop → Type 0
ReadsLine n text (Ok d) = Reads text (content d)
ReadsLine n text (Err (stop.Document i fault)) = ⊥
ReadsLine n text (Err (stop.Line i fault)) = (i ≡ n) × RefusesText text fault
ReadsLine n text (Err stop.Reader) = ⊥
ReadsLine n text (Err stop.Writer) = ⊥
ReadsLine n text (Err stop.Memory) = Unit {0}

-- the bytes begin with a text, up to a line feed or to their end
abbrev pub BeginsWith : List ℕ → List ℕ → Type 0
BeginsWith bytes text = IsUnbroken text × ((bytes ≡ text) ⊎ ((more : List ℕ) × (bytes ≡ text ++ 10 ∷ more)))

-- the source gave some more bytes; the waiting bytes and these begin with this text
abbrev pub HasNext : Feed → Feed → List ℕ → List ℕ → Type 0
HasNext old new waiting text = (given : List ℕ) × Took old new given × BeginsWith (waiting ++ given) text

-- Why no document comes after n lines, while some bytes wait: the next line has none, or couldn't be read.
abbrev pub StopsAt : ℕ → Feed → Feed → List ℕ → Stop → Type 0
StopsAt n old new waiting (stop.Document i fault) = ⊥
StopsAt n old new waiting (stop.Line i fault) = (i ≡ n + 1) × ((text : List ℕ) × HasNext old new waiting text × RefusesText text fault)
StopsAt n old new waiting stop.Reader = (new.failures ≡ old.failures + 1) ⊎ ((given : List ℕ) × Gives old.supply new.supply given × (2 ^ 64 - 1 ≤ length (waiting ++ given)))
StopsAt n old new waiting stop.Writer = ⊥
StopsAt n old new waiting stop.Memory = new.failures ≡ old.failures

-- ---- what becomes of their documents

-- S is what documents are taken into. `Takes n d` relates S before and after, and what is returned, if the document d
-- of line n is taken.
module _ {S : Type 0} (Takes : ℕ → Members → S → S → Result (Unit {0}) Stop → Type 0) where
  -- line n was taken: its document, if it has one
  abbrev pub TakesLine : ℕ → Option Members → S → S → Type 0
  TakesLine n None before after = after ≡ before
  TakesLine n (Some d) before after = Takes n d before after (Ok tt)

  -- the lines after line n were taken, one after the other
  abbrev pub TakesLines : ℕ → List (Option Members) → S → S → Type 0
  TakesLines n [] before after = after ≡ before
  TakesLines n (o ∷ os) before after = (mid : S) × TakesLine (n + 1) o before mid × TakesLines (n + 1) os mid after

  -- What comes after n lines, while some bytes wait: the last line, which may have no byte; or no document; or one that
  -- isn't taken.
  abbrev pub EndsLines : ℕ → Feed → Feed → List ℕ → S → S → Result (Unit {0}) Stop → Type 0
  EndsLines n old new waiting before after (Ok x) =
      (given : List ℕ) × (o : Option Members) × TookAll old new given × IsUnbroken (waiting ++ given) × IsReadAs (waiting ++ given) o × TakesLine (n + 1) o before after
  EndsLines n old new waiting before after (Err e) =
      (StopsAt n old new waiting e × (after ≡ before))
      ⊎ ((text : List ℕ) × (d : Members) × HasNext old new waiting text × Reads text d × Takes (n + 1) d before after (Err e))

  -- The first lines of the source were taken; and then there was no further line feed, or the next line wasn't taken.
  pub record TakesAll (old new : Feed) (before after : S) (result : Result (Unit {0}) Stop) : Type 0 where
    pub lines : List (Option Members)
    pub read : Feed
    pub waiting : List ℕ
    pub mid : S
    pub gives : GivesLines lines old read [] waiting
    pub taken : TakesLines 0 lines before mid
    pub end : EndsLines (length lines) read new waiting mid after result

  -- ---- its parts

  -- what becomes of line n, which has this text
  abbrev pub TakesText : ℕ → List ℕ → S → S → Result (Unit {0}) Stop → Type 0
  TakesText n text before after (Ok x) = (o : Option Members) × IsReadAs text o × TakesLine n o before after
  TakesText n text before after (Err e) = (ReadsLine n text (Err e) × (after ≡ before)) ⊎ ((d : Members) × Reads text d × Takes n d before after (Err e))

  -- one more line was taken; or the last one was
  abbrev pub TakesNext : ℕ → Feed → Feed → List ℕ → List ℕ → S → S → Result Bool Stop → Type 0
  TakesNext n old new held waiting before after (Ok true) = (o : Option Members) × GivesLines (o ∷ []) old new held waiting × TakesLine (n + 1) o before after
  TakesNext n old new held waiting before after (Ok false) = EndsLines n old new held before after (Ok tt)
  TakesNext n old new held waiting before after (Err e) = EndsLines n old new held before after (Err e)
