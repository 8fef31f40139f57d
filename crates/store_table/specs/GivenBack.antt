-- What files have that an opening gave back.
use Rattle.std.specs.Prelude.{◌≡◌, ◌⊎◌, ℕ}
use Rattle.sqlite_disk.specs.declared.Disk.{Ghosts}
use Rattle.sqlite_disk.specs.declared.Files.{Files}
use Rattle.sqlite_wal.specs.Recovery.{Image}
use Rattle.sqlite_wal.specs.Files.{outcomes}
use Rattle.sqlite_pool.specs.Stored.{RecoversAs}
use Rattle.sqlite.specs.Files.{IsNothing, image_of}
use Rattle.store_table.specs.Frames.{NamesSize}

module _ {D : Type 0} (g : Ghosts D) (old : Files D) where
  abbrev pub outcomes_of : Files D → Image → Type 0
  outcomes_of files = outcomes g files.log files.db

  -- whatever a crash leaves stands for the pages that the files stood for, or that a crash might have left of them
  abbrev pub StandAlike : (Image → Type 0) → Type 0
  StandAlike leaves = (size : ℕ) → NamesSize (image_of g old) size → (left : Image) → leaves left
      → RecoversAs size (image_of g old) left ⊎ ((before : Image) × outcomes_of old before × RecoversAs size before left)

  -- reads find what they found, and a crash leaves nothing else
  pub record AreUntouched (new : Files D) : Type 0 where
    pub seen : image_of g new ≡ image_of g old
    pub crash : (left : Image) → outcomes_of new left → outcomes_of old left

  -- Where there was no database yet, nothing was touched, so the next opening finds what tells it so.
  pub record AreGivenBack (new : Files D) : Type 0 where
    pub nothing : IsNothing (image_of g old) → AreUntouched new
    pub alike : StandAlike (outcomes_of new)
