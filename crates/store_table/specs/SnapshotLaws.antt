-- The files stay as they are.
use Rattle.std.proofs.Common.{refl, ◌∙◌}
use Rattle.sqlite_disk.specs.declared.Disk.{Ghosts}
use Rattle.store_table.specs.declared.pages.snapshot.Snapshot.{Snapshot}
use Rattle.store_table.specs.Snapshot.{Stays}

module _ {D : Type 0} {g : Ghosts D} where
  pub Stays-refl : (s : Snapshot D g) → Stays s s
  Stays-refl s = refl

  pub Stays-trans : (a b c : Snapshot D g) → Stays a b → Stays b c → Stays a c
  Stays-trans a b c p q = q ∙ p
