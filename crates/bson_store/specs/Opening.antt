-- What an open of a store finds.
use Rattle.std.specs.Prelude.{◌≡◌, ◌⊎◌, ℕ, List, []}
use Rattle.sqlite.specs.State.{State, IsUnchanged}
use Rattle.bson_meaning.specs.Before.{key as key_before}
use Rattle.store_table.specs.Rows.{TableRow, HoldsRows, IsBlank}
use Rattle.store_table.specs.Open.{HasNoTable}
use Rattle.store_table.specs.Beside.{StandsBeside, SparesOthers}
use Rattle.store_table.specs.Renewal.{Unopened, PassesOnce}
use Rattle.store_table.specs.Schema.{HasStoreTable}
use Rattle.store_table.specs.declared.opening.OpenError.{OpenError}
use Rattle.store_documents.specs.Bodies.{IsRow}
use Rattle.store_model.specs.Table.{DocumentTable, own_id}
use Rattle.bson_store.specs.Shown.{Represents, RepresentsOnce}
use Rattle.bson_store.specs.Refusals.{kind_of_opening}
use Rattle.store_model.specs.Refusal.{refusal}
use Rattle.store_model.specs.declared.error.StoreError.{StoreError}

-- A row that a store can have written, under its current key or under the one that its `_id` had before the two zeros
-- of a double meant the same; the current key is given beside the one that the row has.
abbrev pub IsRowUnder : List ℕ → List ℕ → List ℕ → List ℕ → Type 0
IsRowUnder coll k body now = (row : IsRow coll now body) × ((k ≡ now) ⊎ (k ≡ key_before (own_id row.document)))

-- the rows show a table of documents
abbrev pub RepresentsSome : List TableRow → Type 0
RepresentsSome docs = (a : DocumentTable) × Represents docs a

-- rows under current or older keys show a table of documents, and other rows show the same table under current keys
abbrev pub StandFor : List TableRow → List TableRow → Type 0
StandFor docs after = ((a : DocumentTable) × RepresentsOnce docs a × Represents after a) × ((a : DocumentTable) → RepresentsOnce docs a → Represents after a)

-- The table was made, beside what there was, or is found with the rows that it had, each under its current key, and the
-- other tables as they were; nothing is written if all rows had that key.
pub record Opens (old new : State) : Type 0 where
  pub made : IsBlank old → HoldsRows new []
  pub beside : HasNoTable old → StandsBeside old new
  pub found : (docs : List TableRow) → HoldsRows old docs → (after : List TableRow) × HoldsRows new after × StandFor docs after × SparesOthers old.now new.now
  pub listed : HasStoreTable old.now.schema → (docs : List TableRow) × (after : List TableRow) × HoldsRows old docs × HoldsRows new after × StandFor docs after
  pub other : HasNoTable old ⊎ PassesOnce IsRowUnder old new
  pub unwritten : (docs : List TableRow) → HoldsRows old docs → RepresentsSome docs → IsUnchanged old new

-- why the database isn't opened
abbrev pub RefusesToOpen : State → State → StoreError → Type 0
RefusesToOpen old new e = (x : OpenError) × (e ≡ refusal (kind_of_opening x)) × Unopened IsRowUnder old new x
