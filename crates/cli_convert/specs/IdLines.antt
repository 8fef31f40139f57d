-- Documents of lines, each with an `_id`.
use Rattle.std.specs.Prelude.{◌≡◌, ◌⊎◌, ℕ, ◌+◌, List, [], ◌∷◌, ◌++◌, length, Option, Some, None, Result, Ok, Err}
use Rattle.bson_base.specs.Device.{Feed, TookAll}
use Rattle.bson_base.specs.Value.{Members, document}
use Rattle.bson_bytes.specs.Encode.{encode}
use Rattle.bson_bytes.specs.Writing.{CanBeWritten}
use Rattle.cli_convert.specs.Lines.{GivesLines, IsReadAs, Reads, RefusesText, HasNext, StopsAt}
use Rattle.cli_convert.specs.Parts.{InParts}
use Rattle.cli_convert.specs.ToBson.{IsWritten, Unwritable}
use Rattle.cli_convert.specs.declared.stop.Stop.{Stop}
use Rattle.cli_convert.specs.declared.stop.Stop.TheVariants as stop
use Rattle.cli_convert.specs.Line.{IsUnbroken}
use Rattle.cli_convert.specs.Made.{identified, maker_after}
use Rattle.cli_convert.specs.declared.id_lines.Taken.{Taken}
use Rattle.cli_convert.specs.declared.id_lines.Taking.{Taking}
use Rattle.cli_convert.specs.declared.made.IdMaker.{IdMaker}

-- the documents of the lines that have one, each with its `_id`
abbrev pub identified_each : IdMaker → List (Option Members) → List (Option Members)
identified_each maker [] = []
identified_each maker (None ∷ os) = None ∷ identified_each maker os
identified_each maker (Some d ∷ os) = Some (identified maker d) ∷ identified_each (maker_after maker d) os

-- the maker after them
abbrev pub maker_behind : IdMaker → List (Option Members) → IdMaker
maker_behind maker [] = maker
maker_behind maker (None ∷ os) = maker_behind maker os
maker_behind maker (Some d ∷ os) = maker_behind (maker_after maker d) os

-- the places of the lines that have a document; the first line is the one after line n
abbrev pub places_behind : ℕ → List (Option Members) → List ℕ
places_behind n [] = []
places_behind n (None ∷ os) = places_behind (n + 1) os
places_behind n (Some d ∷ os) = (n + 1) ∷ places_behind (n + 1) os

-- the documents of all these lines were taken, each with its `_id`
abbrev pub HasTaken : List (Option Members) → IdMaker → IdMaker → Taken → Type 0
HasTaken os before after taken = InParts IsWritten taken.stream.items (identified_each before os) × (taken.lines.items ≡ places_behind 0 os) × (after ≡ maker_behind before os)

-- What comes after these lines, while some bytes wait: the last line, which may have no byte; or why there is no
-- further document, or none that can be written with its `_id`.
abbrev pub EndsReading : List (Option Members) → Feed → Feed → List ℕ → IdMaker → IdMaker → Result Taken Stop → Type 0
EndsReading os old new waiting before after (Ok taken) =
    (given : List ℕ) × (o : Option Members) × TookAll old new given × IsUnbroken (waiting ++ given) × IsReadAs (waiting ++ given) o × HasTaken (os ++ o ∷ []) before after taken
EndsReading os old new waiting before after (Err (stop.Line i fault)) =
    (i ≡ length os + 1)
    × ((text : List ℕ) × HasNext old new waiting text × (RefusesText text fault ⊎ ((d : Members) × Reads text d × Unwritable (identified (maker_behind before os) d) fault)))
    × (after ≡ before)
EndsReading os old new waiting before after (Err e) = StopsAt (length os) old new waiting e × (after ≡ before)

-- The source gave these lines, up to its end or to a line that is refused.
pub record ReadsLines (old new : Feed) (before after : IdMaker) (result : Result Taken Stop) : Type 0 where
  pub lines : List (Option Members)
  pub read : Feed
  pub waiting : List ℕ
  pub gives : GivesLines lines old read [] waiting
  pub end : EndsReading lines read new waiting before after result

-- ---- its parts

-- a document was added to those that were taken; or it has no written form, or memory ran out
abbrev pub PutsBehind : ℕ → Members → Taken → Taken → Result (Unit {0}) Stop → Type 0
PutsBehind n d before after (Ok x) = CanBeWritten (document d) × (after.stream.items ≡ before.stream.items ++ encode d) × (after.lines.items ≡ before.lines.items ++ n ∷ [])
PutsBehind n d before after (Err (stop.Document i fault)) = ⊥
PutsBehind n d before after (Err (stop.Line i fault)) = (i ≡ n) × Unwritable d fault
PutsBehind n d before after (Err stop.Reader) = ⊥
PutsBehind n d before after (Err stop.Writer) = ⊥
PutsBehind n d before after (Err stop.Memory) = Unit {0}

-- the document of line n was taken, with its `_id`
abbrev pub TakesWithId : ℕ → Members → Taking → Taking → Result (Unit {0}) Stop → Type 0
TakesWithId n d before after (Ok x) = PutsBehind n (identified before.maker d) before.taken after.taken (Ok x) × (after.maker ≡ maker_after before.maker d)
TakesWithId n d before after (Err e) = PutsBehind n (identified before.maker d) before.taken after.taken (Err e)
