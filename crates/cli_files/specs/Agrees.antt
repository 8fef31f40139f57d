-- Parts of a file, as they were read.
use Rattle.std.specs.Prelude.{◌⊎◌, ◌+◌, ◌≤◌, ℕ, Bool, List, length}
use Rattle.std.specs.List.{list_all}
use Rattle.sqlite_disk.specs.Events.{agrees}
use Rattle.cli_files.specs.declared.parts.Part.{Part}

-- each is what the file has there
abbrev pub agree : List ℕ → List Part → Bool
agree file parts = list_all (λ (p : Part). agrees file p.at p.bytes.items) parts

-- it has none of these bytes
abbrev pub IsApart : ℕ → ℕ → Part → Type 0
IsApart at len p = (p.at + length p.bytes.items ≤ at) ⊎ (at + len ≤ p.at)
