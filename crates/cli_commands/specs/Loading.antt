-- The lines of `load`, as they are read.
use Rattle.std.specs.Prelude.{◌≡◌, ◌⊎◌, ℕ, List, [], ◌∷◌, ◌++◌}
use Rattle.serde_json.specs.Data.{Data}
use Rattle.bson_base.specs.Device.{Feed, TookAll}
use Rattle.store_documents.specs.Loading.{HasTaken}
use Rattle.store_documents.specs.declared.loading.Loader.{Loader}
use Rattle.store_model.specs.Refusal.{refusal}
use Rattle.store_model.specs.declared.error.ErrorKind.TheVariants.{Memory, Reader}
use Rattle.cli_commands.specs.Inputs.{HaveTrees, IsFirstBadLine, IsTreeLine, lines_in}
use Rattle.cli_commands.specs.declared.lines.UsageError.TheVariants.{Line}
use Rattle.cli_commands.specs.Commands.{HasBadLine}
use Rattle.cli_commands.specs.Execute.{IsFault}
use Rattle.cli_commands.specs.declared.stop.Failure.{Failure}
use Rattle.cli_commands.specs.declared.stop.Failure.TheVariants.{Words, Refused}

-- the tree of the line is taken after these, if it has one
abbrev pub TakesLine : List ℕ → List Data → (List Data → Type 0) → Type 0
TakesLine [] js Taken = Taken js
TakesLine (b ∷ bs) js Taken = (j : Data) × IsTreeLine (b ∷ bs) j × Taken (js ++ j ∷ [])

-- the first line that can't be read is reported; or out of memory
abbrev pub StopsAtLine : List (List ℕ) → Failure → Type 0
StopsAtLine lines (Words (Line i)) = IsFirstBadLine lines i
StopsAtLine lines (Words _) = ⊥
StopsAtLine lines (Refused e) = e ≡ refusal Memory

-- the input was taken to its end, and the loader has taken the trees of its lines
abbrev pub TakesLines : Feed → Feed → Loader → Type 0
TakesLines fed left l = (bytes : List ℕ) × (js : List Data) × TookAll fed left bytes × HaveTrees (lines_in bytes) js × HasTaken l js

-- of the lines of the input one can't be read, and this is reported; or a read failed, or out of memory
abbrev pub StopsLines : Feed → Feed → Failure → Type 0
StopsLines fed left (Words (Line i)) = HasBadLine fed left i
StopsLines fed left (Words _) = ⊥
StopsLines fed left (Refused e) = IsFault Reader fed.failures left.failures e
