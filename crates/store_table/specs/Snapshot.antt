-- What a `Snapshot` reads.
use Rattle.std.specs.Prelude.{◌≡◌, ℕ, ◌+◌, Bool, List, length}
use Rattle.sqlite_disk.specs.declared.Disk.{Ghosts}
use Rattle.sqlite_disk.specs.declared.Files.{Files}
use Rattle.sqlite_wal.specs.Recovery.{Image, pages_after}
use Rattle.sqlite_wal.specs.Files.{seen_image}
use Rattle.sqlite_wal.specs.Reads.{are_clean}
use Rattle.sqlite_pages.specs.PageMap.{PageMap}
use Rattle.store_table.specs.declared.pages.snapshot.Snapshot.{Snapshot}

module _ {D : Type 0} {g : Ghosts D} where
  abbrev pub files_of : Snapshot D g → Files D
  files_of it = it.files

  -- what reads of the two files return
  abbrev pub image_of : Snapshot D g → Image
  image_of it = seen_image g it.files.log it.files.db

  abbrev pub size_of : Snapshot D g → ℕ
  size_of it = it.size

  -- how many frames the log has up to its last commit
  abbrev pub frame_count_of : Snapshot D g → ℕ
  frame_count_of it = length it.frames.items

  -- the pages after the last commit of the log
  abbrev pub pages_of : Snapshot D g → PageMap
  pages_of it = pages_after it.size (image_of it).log (image_of it).db (length it.frames.items)

  abbrev pub current_of : Snapshot D g → List ℕ
  current_of it = it.page.items

  abbrev pub faults_of : Snapshot D g → ℕ
  faults_of it = g.faults it.files.log + g.faults it.files.db

  abbrev pub is_clean_of : Snapshot D g → Bool
  is_clean_of it = are_clean g it.files.log it.files.db

  abbrev pub has_failed : Snapshot D g → Bool
  has_failed it = it.has_failed

  -- the files are as they were
  abbrev pub Stays : Snapshot D g → Snapshot D g → Type 0
  Stays old new = image_of new ≡ image_of old
