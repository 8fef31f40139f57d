-- The program `bson_json`: what its words ask for, and what it does then.
use Rattle.std.specs.Prelude.{◌≡◌, ℕ, List, [], ◌∷◌, codes, if◌then◌else◌, Option, Some, None, Result}
use Rattle.std.specs.Str.{bytes_eq}
use Rattle.bson_base.specs.Device.{Feed, Tally, TakesText}
use Rattle.bson_model.specs.declared.extjson.ser.Mode.TheVariants.{Canonical, Relaxed}
use Rattle.cli_convert.specs.ToLines.{WritesLines}
use Rattle.cli_convert.specs.ToBson.{WritesDocuments}
use Rattle.cli_convert.specs.Reports.{Reports, SendsWhole}
use Rattle.cli_convert.specs.declared.program.Task.{Task}
use Rattle.cli_convert.specs.declared.program.Task.TheVariants.{ToLines, ToBson, Help}
use Rattle.cli_convert.specs.declared.program.TheConstants.{HELP}
use Rattle.cli_convert.specs.declared.stop.Stop.{Stop}

abbrev pub task_of_word : List ℕ → Option Task
task_of_word word =
    if bytes_eq word (codes "--canonical") then Some (ToLines Canonical)
    else if bytes_eq word (codes "--to-bson") then Some ToBson
    else if bytes_eq word (codes "--help") then Some Help
    else None

-- without a word: lines of relaxed JSON
abbrev pub task_of : List (List ℕ) → Option Task
task_of [] = Some (ToLines Relaxed)
task_of (word ∷ []) = task_of_word word
task_of (word ∷ other ∷ words) = None

-- what is done, and what becomes of input, output and reports
abbrev pub Does : Option Task → Feed → Feed → Tally → Tally → Tally → Tally → ℕ → Type 0
Does (Some (ToLines m)) old new before after quiet told status = (r : Result (Unit {0}) Stop) × WritesLines m old new before after r × Reports r quiet told status
Does (Some ToBson) old new before after quiet told status = (r : Result (Unit {0}) Stop) × WritesDocuments old new before after r × Reports r quiet told status
Does (Some Help) old new before after quiet told status = (new ≡ old) × ((r : Result (Unit {0}) Stop) × SendsWhole HELP.now before after r × Reports r quiet told status)
Does None old new before after quiet told status = (new ≡ old) × (after ≡ before) × (status ≡ 2) × TakesText quiet told (codes "words: usage\n")
