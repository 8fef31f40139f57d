-- What a file that is read by parts shows.
use Rattle.std.specs.Prelude.{◌≡◌, ℕ, Bool, true, false, not, ◌&&◌, ◌==◌, if◌then◌else◌, List, length, is_some}
use Rattle.std.specs.List.{AllByRecursion}
use Rattle.sqlite_disk.specs.declared.start.Start.{Ghosts}
use Rattle.cli_files.specs.declared.parts.FileParts.{FileParts}
use Rattle.cli_files.specs.Agrees.{IsApart, agree}

module _ {S : Type 0} where
  abbrev pub is_file : FileParts S → Bool
  is_file it = is_some it.file

  abbrev pub held_of : FileParts S → List ℕ
  held_of it = it.held.items

  abbrev pub faults_of : FileParts S → ℕ
  faults_of it = it.faults

  -- nothing of these bytes was read
  pub record HasNothingOf (it : FileParts S) (at len : ℕ) : Type 0 where
    pub all : it.has_forgotten ≡ false
    pub apart : AllByRecursion (IsApart at len) it.parts.items

module _ {S : Type 0} where
  -- what the file held, or the bytes in memory
  abbrev pub seen_of : (g : Ghosts S) → FileParts S → List ℕ
  seen_of g it = if is_file it then g.db else held_of it

  -- the length and all that was read is what the file held
  abbrev pub is_clean_of : (g : Ghosts S) → FileParts S → Bool
  is_clean_of g it = if is_file it then not it.has_forgotten && ((it.len == length g.db) && agree g.db it.parts.items) else true
