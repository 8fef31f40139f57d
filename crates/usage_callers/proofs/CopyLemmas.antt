-- What one store gave, another one takes.
use Rattle.std.proofs.Common.{◌≡◌, ℕ, List, [], Some, Result, Ok, Err}
use Rattle.sqlite.specs.State.{State, HasCleanDisk}
use Rattle.bson_base.specs.Device.{Feed, Tally}
use Rattle.store_table.specs.Moves.{Moves, Stands}
use Rattle.store_table.specs.Rows.{TableRow}
use Rattle.store_model.specs.Table.{DocumentTable}
use Rattle.store_model.specs.declared.error.StoreError.{StoreError}
use Rattle.bson_store.specs.Export.{SendsCollection}
use Rattle.bson_store.specs.Many.{Imports}
use Rattle.bson_store.specs.Shown.{Represents}
use Rattle.bson_store.proofs.MoveLemmas.{moved}
use Rattle.bson_store.proofs.RestoreLemmas.{calls_back}
use Rattle.usage_callers.specs.Found.{Copies}

pub rows_stay : (s t : State) (n : List ℕ) (old new : Tally) (r : Result (Unit {0}) StoreError) → Moves s t (SendsCollection n old new r) → Moves s t (λ docs after. after ≡ docs)
rows_stay s t n old new r m = moved s t (SendsCollection n old new r) (λ docs after. after ≡ docs) m (λ docs after h. h.same)

copied_rows : (n bs : List ℕ) (old new : Tally) (fed left : Feed) (r : Result ℕ StoreError) (docs after more last : List TableRow) (a : DocumentTable) → SendsCollection n old new (Ok tt) docs after → Represents docs a → old.taken ≡ Some [] → new.taken ≡ Some bs → fed.supply.left ≡ Some bs
    → Imports n fed left r more last → Copies n a r more last
copied_rows n bs old new fed left (Err e) docs after more last a sends shown was is has imports = tt
copied_rows n bs old new fed left (Ok count) docs after more last a sends shown was is has imports =
    λ b other empty. calls_back n n [] bs old new fed left count docs after more last a b sends shown was is imports other has empty

pub copied : (s t u v : State) (n bs : List ℕ) (old new : Tally) (fed left : Feed) (r : Result ℕ StoreError) → Moves s t (SendsCollection n old new (Ok tt)) → old.taken ≡ Some [] → new.taken ≡ Some bs → fed.supply.left ≡ Some bs
    → Moves u v (Imports n fed left r) → HasCleanDisk t → (docs : List TableRow) → Stands s docs → (a : DocumentTable) → Represents docs a → Moves u v (Copies n a r)
copied s t u v n bs old new fed left r m was is has k clean docs stands a shown =
    let x = (m clean).1 docs stands in
    moved u v (Imports n fed left r) (Copies n a r) k (λ more last h. copied_rows n bs old new fed left r docs x.0 more last a x.2 shown was is has h)
