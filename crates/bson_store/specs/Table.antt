-- The state of the connection of a table with indexes, and which it has.
use Rattle.std.specs.Prelude.{◌≡◌, ◌⊎◌, ℕ, ℤ, List}
use Rattle.sqlite_trees.specs.declared.store.Store.{Ghosts}
use Rattle.sqlite.specs.State.{State}
use Rattle.sqlite.specs.Held.{Held}
use Rattle.store_table.specs.Table.{connection_of as table_connection, table_state}
use Rattle.bson_store.specs.Find.{Has, Misses, Renews}
use Rattle.store_model.specs.Filter.{Path}
use Rattle.store_table.specs.declared.change.Change.{Change}
use Rattle.bson_store.specs.Changing.{ForgetsRemoved}
use Rattle.bson_store.specs.Kept.{StayOrGo}
use Rattle.bson_store.specs.declared.indexed.table.IndexedTable.{IndexedTable}

abbrev pub connection_of : {S : Type 0} {h : _} → IndexedTable S h → Held S
connection_of t = table_connection t.table

abbrev pub indexed_state : {S : Type 0} {h : _} → Ghosts S → IndexedTable S h → State
indexed_state g t = table_state g t.table

-- there is an index of a collection on a path
abbrev pub HasIndex : {S : Type 0} {h : _} → IndexedTable S h → List ℕ → Path → Type 0
HasIndex t coll path = Has t.indexes coll path

-- there are no indexes but those of before, and maybe one of the collection on the path
abbrev pub AddsIndex : {S : Type 0} {h : _} → IndexedTable S h → IndexedTable S h → List ℕ → Path → Type 0
AddsIndex old new coll path = (c : List ℕ) (p : Path) → HasIndex new c p → HasIndex old c p ⊎ ((c ≡ coll) × (p ≡ path))

-- the indexes are the same, with all that they find
abbrev pub KeepsIndexes : {S : Type 0} {h : _} → IndexedTable S h → IndexedTable S h → Type 0
KeepsIndexes old new = new.indexes ≡ old.indexes

-- a change leaves the indexes of before, by collection and path, or none
abbrev pub LeavesIndexes : {S : Type 0} {h : _} → IndexedTable S h → IndexedTable S h → Type 0
LeavesIndexes old new = StayOrGo old.indexes new.indexes

-- no index has the place of a row under a mark of a body that was removed
abbrev pub ForgetsRow : {S : Type 0} {h : _} → IndexedTable S h → ℤ → List ℕ → Type 0
ForgetsRow t place body = Misses t.indexes place body

-- nor that of a row that one of the changes removes, and to whose place no later one gives a body
abbrev pub ForgetsGone : {S : Type 0} {h : _} → IndexedTable S h → List Change → Type 0
ForgetsGone t changes = ForgetsRemoved changes t.indexes

-- what no index has under a mark of a removed body stays so, at these places
abbrev pub StaysForgotten : {S : Type 0} {h : _} → IndexedTable S h → IndexedTable S h → (ℤ → Type 0) → Type 0
StaysForgotten old new at = (place : ℤ) (body : List ℕ) → at place → ForgetsRow old place body → ForgetsRow new place body

-- no index has it under a mark of the body of before, unless that is one of the new one, too
abbrev pub RenewsRow : {S : Type 0} {h : _} → IndexedTable S h → ℤ → List ℕ → List ℕ → Type 0
RenewsRow t place old body = Renews t.indexes place old body
