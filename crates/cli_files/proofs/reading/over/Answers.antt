use Rattle.std.proofs.Common.{◌≡◌, ◌⊎◌, refl, inl, inr}
use Rattle.sqlite.specs.Files.{FailsToOpenFiles, HoldsDatabase, IsCleanLeft, IsNothing}
use Rattle.sqlite.specs.declared.file.Leftover.TheVariants as left
use Rattle.sqlite_trees.specs.Tree.{Trees}
use Rattle.sqlite_trees.specs.View.{doubt}
use Rattle.sqlite_pool.specs.Pool.{state}
use Rattle.cli_files.specs.Fault.{fault_in_memory}
use Rattle.cli_files.specs.Loaded.{loaded_bytes}
use Rattle.cli_files.specs.declared.fault.FileError.TheVariants.{Memory, NoDatabase}
use Rattle.cli_files.proofs.UnopenedLemmas.{unopened}
use Rattle.cli_files.proofs.reading.over.Goals as goal

pub returns-in-Ok-clause-clean : goal.returns-in-Ok-clause-clean
unfolding doubt state
returns-in-Ok-clause-clean c = refl

pub returns-in-Err-clause-refused : goal.returns-in-Err-clause-refused
unfolding state
returns-in-Err-clause-refused c =
    let e = c.in-Err.error in
    let why = elim c.in-Err.left as (λ x. (IsCleanLeft x → FailsToOpenFiles c.args.files x e) → (fault_in_memory e ≡ Memory) ⊎ ((fault_in_memory e ≡ NoDatabase)
    × ((((db : Trees) × HoldsDatabase (record { log = loaded_bytes c.args.files.log; db = loaded_bytes c.args.files.db }) db) ⊎ IsNothing (record { log = loaded_bytes c.args.files.log; db = loaded_bytes c.args.files.db })) → ⊥))) [
      | left.Files files ↦ λ cause. unopened _ _ _ _ _ e refl (cause refl)
      | left.Unopened files ↦ λ cause. unopened _ _ _ _ _ e refl (cause refl)
      | left.Store it ↦ λ cause. unopened _ _ _ _ _ e refl (cause refl)
    ] in
    rw c.fault_in_memory.ensures (elim (why c.in-Err.ensures.cause) [ inl memory ↦ inl memory | inr none ↦ inr (none.0, λ db holds. none.1 (inl (db, holds))) ])
