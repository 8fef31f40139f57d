-- When two looks at the files of a database say that what was read between them is one state.
use Rattle.std.specs.Prelude.{◌≡◌, ◌⊎◌, Bool, true, false, Option, Some, None}
use Rattle.cli_files.specs.declared.looking.Look.{Look}
use Rattle.cli_files.specs.declared.looking.Seen.{Seen}

-- both saw one file, which may have changed
abbrev pub IsOne : Option Seen → Option Seen → Type 0
IsOne (Some x) (Some y) = (x.device ≡ y.device) × (x.number ≡ y.number)
IsOne _ _ = ⊥

-- No journal had anything to play back; and a log with a header is one file, and so is the database, or neither of the
-- two changed.
abbrev pub IsCalm : Look → Look → Type 0
IsCalm x y =
    (x.is_hot ≡ false) × (y.is_hot ≡ false)
    × (((x.has_log ≡ true) × (y.has_log ≡ true) × IsOne x.file y.file × IsOne x.log y.log) ⊎ ((x.file ≡ y.file) × (x.log ≡ y.log)))
