-- What an open finds.
use Rattle.std.specs.Prelude.{◌≡◌, ◌≢◌, ◌⊎◌, ℕ, true, false, List, [], map, None, codes, Err, IsTrue}
use Rattle.std.specs.List.{list_all}
use Rattle.sqlite_value.specs.Order.{Row}
use Rattle.sqlite_resolve.specs.declared.error.CompileError.{CompileError}
use Rattle.sqlite.specs.Listing.{understood}
use Rattle.sqlite.specs.State.{State, Shown, Shows as Sees, IsUnchanged}
use Rattle.store_table.specs.declared.opening.OpenError.{OpenError}
use Rattle.store_table.specs.declared.opening.OpenError.TheVariants.{NotAStore, BadRow, IdsCollide, Memory, Database}
use Rattle.sqlite_schema.specs.Names.{table_named, index_named, view_named}
use Rattle.store_table.specs.Rows.{TableRow}
use Rattle.store_table.specs.Cells.{is_listed, doc_of}
use Rattle.store_table.specs.Check.{AreGood, IsFirstBad}

abbrev pub all_text : List ℕ
all_text = codes "SELECT place, coll, idkey, body FROM documents ORDER BY place"

abbrev pub table_name : List ℕ
table_name = codes "documents"

-- the database has a table of the name
abbrev pub HasTable : State → Type 0
HasTable s = table_named s.now.schema table_name ≢ None

abbrev pub HasNoTable : State → Type 0
HasNoTable s = table_named s.now.schema table_name ≡ None

-- a view or an index has the name
abbrev pub IsNameTaken : State → Type 0
IsNameTaken s = (view_named s.now.schema table_name ≢ None) ⊎ (index_named s.now.schema table_name ≢ None)

-- the table is read by the four columns, with these rows, and nothing changes
pub record Reads (old new : State) (docs : List TableRow) : Type 0 where
  pub rows : List Row
  pub answered : Shown all_text [] old new rows
  pub typed : list_all is_listed rows ≡ true
  pub same : docs ≡ map doc_of rows
  pub unchanged : IsUnchanged old new

-- the table can't be read as rows: a column isn't there, or a row has a value of another type
abbrev pub ReadsNot : State → State → Type 0
ReadsNot old new =
    (((fault : CompileError) × (understood old.now.schema all_text ≡ Err fault)) ⊎ ((rows : List Row) × Shown all_text [] old new rows × (list_all is_listed rows ≡ false)))
    × IsUnchanged old new

-- no transaction is open, and what is shown was committed
pub record IsSettled (s : State) : Type 0 where
  pub autocommit : s.in_transaction ≡ false
  pub committed : IsTrue s.is_open → s.now ≡ s.committed

-- no refusal changes a row, or opens or ends a transaction
abbrev pub KeepsAll : State → State → Type 0
KeepsAll old new = IsTrue new.is_open → Sees old new old.now old.committed old.in_transaction

-- what was committed stays so
abbrev pub HasCommitted : State → State → Type 0
HasCommitted old new = IsTrue new.is_open → IsTrue old.is_open × (new.committed ≡ old.committed)

module _ (accepts : List ℕ → List ℕ → List ℕ → Type 0) where
  -- why the rows of a table are refused, and what that leaves
  abbrev pub RefusesOpening : State → State → OpenError → Type 0
  RefusesOpening old new NotAStore = ReadsNot old new
  RefusesOpening old new (BadRow place) = (docs : List TableRow) × Reads old new docs × IsFirstBad accepts docs place
  RefusesOpening old new (IdsCollide first second) = ⊥
  RefusesOpening old new Memory = Unit {0}
  RefusesOpening old new Database = Unit {0}

  abbrev pub PassesOpening : State → State → Type 0
  PassesOpening old new = (docs : List TableRow) × Reads old new docs × AreGood accepts docs
