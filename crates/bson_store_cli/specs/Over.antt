-- What the programs do over a connection: they open its store, do something, and give the connection back.
use Rattle.std.specs.Prelude.{◌⊎◌}
use Rattle.sqlite.specs.Held.{Held, state}
use Rattle.sqlite.specs.State.{State, HasCleanDisk, Survives}
use Rattle.sqlite_trees.specs.declared.store.Store.{Ghosts}
use Rattle.store_table.specs.Open.{KeepsAll}
use Rattle.store_table.specs.Renewal.{Makes}
use Rattle.store_model.specs.State.{State as Lists}
use Rattle.store_model.specs.declared.error.StoreError.{StoreError}
use Rattle.bson_store.specs.Left.{FindsState, Holds, HoldsOnce, Keeps, LeavesOnly}
use Rattle.bson_store.specs.Opening.{Opens, IsRowUnder, RefusesToOpen}

-- a store was opened: its table was made, or is found; and a state that the database held is kept, beside the other
-- tables
pub record WasOpened (old new : State) : Type 0 where
  pub opens : HasCleanDisk new → Opens old new
  pub finds : (x : Lists) → FindsState HoldsOnce old x → HasCleanDisk new → Keeps new x × LeavesOnly (Holds old.now) new x
  pub crash : Survives old new (Makes IsRowUnder old)

-- none was, for this reason, and every row is as it was
pub record WasRefused (e : StoreError) (old new : State) : Type 0 where
  pub refused : HasCleanDisk new → RefusesToOpen old new e
  pub kept : HasCleanDisk new → KeepsAll old new
  pub crash : Survives old new (Makes IsRowUnder old)

-- The store was opened, and this was done from there to the connection that is given back; or it was refused, and this
-- is so.
abbrev pub OpensFor : {S : Type 0} → Ghosts S → Held S → Held S → (Held S → Type 0) → (StoreError → Type 0) → Type 0
OpensFor {S} g old new Done Refused =
    ((opened : Held S) × WasOpened (state g old) (state g opened) × Done opened) ⊎ ((e : StoreError) × WasRefused e (state g old) (state g new) × Refused e)
