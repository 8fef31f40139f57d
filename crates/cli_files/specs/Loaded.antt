-- What a file in memory shows, and why two aren't opened.
use Rattle.std.specs.Prelude.{ℕ, List, ◌≡◌, ◌⊎◌}
use Rattle.sqlite_disk.specs.declared.Files.{Files}
use Rattle.sqlite_trees.specs.Tree.{Trees}
use Rattle.sqlite.specs.Files.{HoldsDatabase}
use Rattle.cli_files.specs.declared.fault.FileError.{FileError}
use Rattle.cli_files.specs.declared.fault.FileError.TheVariants.{Memory, NoDatabase}
use Rattle.cli_files.specs.declared.loaded.Loaded.{Loaded}

-- the bytes of the file
abbrev pub loaded_bytes : Loaded → List ℕ
loaded_bytes m = m.bytes.items

-- why a log and a database in memory aren't opened: there is no memory, or they hold no database
abbrev pub IsUnopened : Files Loaded → FileError → Type 0
IsUnopened files e =
    (e ≡ Memory)
    ⊎ ((e ≡ NoDatabase) × ((db : Trees) → HoldsDatabase (record { log = loaded_bytes files.log; db = loaded_bytes files.db }) db → ⊥))
