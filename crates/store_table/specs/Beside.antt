-- The table of documents beside what a database had before.
use Rattle.std.specs.Prelude.{◌≡◌, ◌≢◌, ℕ, false, [], IsTrue, MatchBool, Ok}
use Rattle.std.specs.List.{AllByRecursion}
use Rattle.sqlite_trees.specs.Tree.{Trees}
use Rattle.sqlite.specs.Table.{Table}
use Rattle.sqlite.specs.Schema.{Schema}
use Rattle.sqlite_resolve.specs.Compile.{table_defined_by}
use Rattle.sqlite_catalog.specs.Change.{created, next_tree, KeepsRows}
use Rattle.sqlite.specs.Does.{lacks_sequence, sequence_text}
use Rattle.sqlite.specs.Effect.{Database, IsDatabase, SparesFrozen}
use Rattle.sqlite.specs.State.{State, Shows as Sees}
use Rattle.store_table.specs.Schema.{documents, HasDocuments}

-- if a table of the schema counts its rows and the table of the counts isn't there, that one is made too
abbrev pub AddsCounts : Schema → Schema → Type 0
AddsCounts schema after = MatchBool (lacks_sequence schema) ((counts : Table) × (table_defined_by sequence_text ≡ Ok counts) × (after ≡ created schema counts)) (after ≡ schema)

-- the empty table comes after the tables that are there, which have the rows that they had; the indexes are those of
-- the rows, and what the database doesn't understand stays
pub record AddsTable (old new : Database) : Type 0 where
  pub schema : AddsCounts (created old.schema documents) new.schema
  pub empty : new.trees (next_tree old.schema) ≡ []
  pub rows : KeepsRows old.schema.tables old.trees new.trees
  pub sound : IsDatabase new
  pub rest : SparesFrozen old new

-- the connection shows it, and has committed it
abbrev pub StandsBeside : State → State → Type 0
StandsBeside old new = Sees old new new.now new.now false × AddsTable old.now new.now

-- the trees of such a database
abbrev pub AreBeside : Database → Trees → Type 0
AreBeside old trees = (new : Database) × AddsTable old new × (trees ≡ new.trees)

-- the schema is the one that was, and every table but this one has the rows that it had
pub record SparesOthers (old new : Database) : Type 0 where
  pub schema : new.schema ≡ old.schema
  pub rows : (place tree : ℕ) → HasDocuments old.schema.tables place tree → AllByRecursion (λ t. t.tree ≢ tree → new.trees t.tree ≡ old.trees t.tree) old.schema.tables

-- a connection that is open afterwards was open before, and shows the schema and the other tables as they were
pub record KeepsOthers (old new : State) : Type 0 where
  pub was_open : IsTrue new.is_open → IsTrue old.is_open
  pub spared : IsTrue new.is_open → SparesOthers old.now new.now

-- while the connection is open, it shows the schema and the other tables as this database has them
abbrev pub ShowsOthers : Database → State → Type 0
ShowsOthers first s = IsTrue s.is_open → SparesOthers first s.now
