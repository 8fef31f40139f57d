-- Why files in memory aren't opened.
use Rattle.std.proofs.Common.{◌≡◌, ◌⊎◌, inl, inr, ℕ, ap, ◌∙◌}
use Rattle.sqlite.specs.Opening.{FailsAs}
use Rattle.sqlite.specs.State.{store_error}
use Rattle.sqlite.specs.declared.error.Error.{Error as SqlError}
use Rattle.sqlite_trees.specs.declared.error.StoreError.{StoreError}
use Rattle.sqlite_trees.specs.declared.error.StoreError.TheVariants.{Io}
use Rattle.cli_files.specs.Fault.{fault_in_memory}
use Rattle.cli_files.specs.declared.fault.FileError.TheVariants.{Memory, NoDatabase}

-- a fault of theirs is a refused allocation
pub unopened : (kind : StoreError) (old new : ℕ) (AtLimit Wanted : Type 0) (e : SqlError) → kind ≡ Io → FailsAs kind old new AtLimit Wanted e
    → (fault_in_memory e ≡ Memory) ⊎ ((fault_in_memory e ≡ NoDatabase) × (Wanted → ⊥))
unopened kind old new AtLimit Wanted e is (inl memory) = inl (ap fault_in_memory memory)
unopened kind old new AtLimit Wanted e is (inr (inl (inl none, holds))) = inr (ap fault_in_memory none, holds)
unopened kind old new AtLimit Wanted e is (inr (inl (inr corrupt, holds))) = inr (ap fault_in_memory corrupt, holds)
unopened kind old new AtLimit Wanted e is (inr (inr (inl (fault, more)))) = inl (ap fault_in_memory (fault ∙ ap store_error is))
unopened kind old new AtLimit Wanted e is (inr (inr (inr (full, limit)))) = inl (ap fault_in_memory full)
