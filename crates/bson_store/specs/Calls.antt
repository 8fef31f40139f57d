-- What the calls of the store say of the rows.
use Rattle.std.specs.Prelude.{◌≡◌, ℕ, List, Option, Some, None, Result, IfOk, IfErr}
use Rattle.std.specs.List.{find}
use Rattle.serde_json.specs.Data.{Data}
use Rattle.bson_base.specs.Value.{Value, Members}
use Rattle.store_table.specs.Rows.{TableRow, is_row_named}
use Rattle.store_table.specs.Moves.{parts_of_found, parts_of_row, Moves}
use Rattle.store_table.specs.declared.row.Found.{Found}
use Rattle.store_model.specs.Filter.{Path}
use Rattle.store_model.specs.Reading.{Reading, ReadsBytes, ReadsTree, readable}
use Rattle.store_model.specs.State as model
use Rattle.store_model.specs.Table.{DocumentTable, Serves, documents_of}
use Rattle.store_documents.specs.Bodies.{IsKeyOf}
use Rattle.bson_store.specs.Shown.{Represents}
use Rattle.bson_store.specs.Refusals.{IsDenied}
use Rattle.store_model.specs.declared.error.StoreError.{StoreError}
use Rattle.sqlite_trees.specs.declared.store.Store.{Ghosts}
use Rattle.sqlite.specs.State.{State}
use Rattle.sqlite.specs.Held.{Held}
use Rattle.bson_store.specs.Table.{AddsIndex as AddsTableIndex, HasIndex as TableHasIndex, KeepsIndexes as KeepsTableIndexes, LeavesIndexes, connection_of as table_connection, indexed_state as table_state}
use Rattle.bson_store.specs.declared.store.Store.{Store}

-- a store's connection, and its state
abbrev pub store_connection : {S : Type 0} {h : _} → Store S h → Held S
store_connection s = table_connection s.table

abbrev pub store_state : {S : Type 0} {h : _} → Ghosts S → Store S h → State
store_state g s = table_state g s.table

-- a store has an index of a collection on a path
abbrev pub HasIndex : {S : Type 0} {h : _} → Store S h → List ℕ → Path → Type 0
HasIndex s n path = TableHasIndex s.table n path

-- there are no indexes but those of before, and maybe one of the collection on the path
abbrev pub AddsIndex : {S : Type 0} {h : _} → Store S h → Store S h → List ℕ → Path → Type 0
AddsIndex old new n path = AddsTableIndex old.table new.table n path

-- a call leaves the indexes as they are
abbrev pub KeepsIndexes : {S : Type 0} {h : _} → Store S h → Store S h → Type 0
KeepsIndexes old new = KeepsTableIndexes old.table new.table

-- a change leaves the indexes of before, by collection and path, or none
abbrev pub MayDropIndexes : {S : Type 0} {h : _} → Store S h → Store S h → Type 0
MayDropIndexes old new = LeavesIndexes old.table new.table

-- the rows of a store before a call and after it are related by P
abbrev pub Relates : {S : Type 0} {h : _} → Ghosts S → Store S h → Store S h → (List TableRow → List TableRow → Type 0) → Type 0
Relates g old new P = Moves (store_state g old) (store_state g new) P

-- whatever table the rows showed, they now show one that the command took it to
abbrev pub Does : model.Command → model.Reply → List TableRow → List TableRow → Type 0
Does c r old new = (a : DocumentTable) → Represents old a → (b : DocumentTable) × Represents new b × Serves a c r b

-- a call with bytes does what the command does with what they read as
abbrev pub DoesBytes : List ℕ → (Reading → model.Call) → List ℕ → model.Reply → List TableRow → List TableRow → Type 0
DoesBytes n call bytes r old new = (x : Reading) × ReadsBytes bytes x × Does (model.on n (call x)) r old new

-- a call with JSON does what the command does with what it reads as
abbrev pub DoesTree : List ℕ → (Reading → model.Call) → Data → model.Reply → List TableRow → List TableRow → Type 0
DoesTree n call j r old new = (x : Reading) × ReadsTree j x × Does (model.on n (call x)) r old new

-- a call with a document that was read does what the command does with it, in whatever form it was given
abbrev pub DoesRead : List ℕ → (model.Form → Reading → model.Call) → Members → model.Reply → List TableRow → List TableRow → Type 0
DoesRead n call d r old new = (f : model.Form) → Does (model.on n (call f (readable d))) r old new

-- an id's look-up: no document has it, or one has it, whose row is the first of the collection under its key
abbrev pub FindsIn : List TableRow → List ℕ → Value → Option Found → Type 0
FindsIn docs n id None = (a : DocumentTable) → Represents docs a → model.NoneHasId id (documents_of a n)
FindsIn docs n id (Some f) = (k : List ℕ) × (d : TableRow) × IsKeyOf k id × (find (is_row_named n k) docs ≡ Some d) × (parts_of_found f ≡ parts_of_row d)

pub record Looks (n : List ℕ) (id : Value) (result : Result (Option Found) StoreError) (docs after : List TableRow) : Type 0 where
  pub same : after ≡ docs
  pub found : IfOk result (FindsIn docs n id)
  pub denied : IfErr result IsDenied
