-- The rows of the table, and what a connection shows of them.
use Rattle.std.specs.Ordering.{int_eq}
use Rattle.store_table.specs.declared.row.NewKey.{NewKey}
use Rattle.store_table.specs.declared.row.NewRow.{NewRow}
use Rattle.std.specs.Prelude.{◌+ℤ◌, pos, not, ◌&&◌, filter, bytes_eq, if◌then◌else◌, ◌≡◌, ◌⊎◌, ◌<ℤ◌, ℕ, ℤ, Bool, false, List, [], ◌∷◌, map, IsTrue}
use Rattle.std.specs.List.{AllByRecursion}
use Rattle.std.specs.List.Sorted.{IsPermutation}
use Rattle.sqlite.specs.declared.types.Value.TheVariants.{Null, Int, Text, Blob}
use Rattle.sqlite_value.specs.Order.{Row}
use Rattle.sqlite_trees.specs.Tree.{Trees, IsAscending}
use Rattle.sqlite_trees.specs.Objects.{catalog_tree}
use Rattle.sqlite_catalog.specs.Listing.{Lists}
use Rattle.sqlite.specs.Effect.{Database}
use Rattle.sqlite.specs.State.{State}
use Rattle.store_table.specs.Schema.{HasDocuments, IsFree}
use Rattle.store_table.specs.Beside.{SparesOthers, AreBeside}

pub record TableRow : Type 0 where
  pub place : ℤ
  pub coll : List ℕ
  pub idkey : List ℕ
  pub body : List ℕ

-- a row as the table stores it: its place, NULL in the column that the place stands for, and the other columns
abbrev pub columns_of : TableRow → Row
columns_of d = Int d.place ∷ Null ∷ Text d.coll ∷ Blob d.idkey ∷ Blob d.body ∷ []

-- the places rise
abbrev pub IsRising : List TableRow → Type 0
IsRising = IsAscending (λ a b. a.place <ℤ b.place)

-- each document is below this place
abbrev pub AreBelow : ℤ → List TableRow → Type 0
AreBelow place = AllByRecursion (λ d. d.place <ℤ place)

-- the trees of a database list its schema
unfoldable pub ListsSchema : Database → Type 0
ListsSchema db = Lists (db.trees catalog_tree) db.schema

-- where the table is in the database, whatever else it has, with these rows
pub record TableRows (db : Database) (docs : List TableRow) : Type 0 where
  pub place : ℕ
  pub tree : ℕ
  pub listed : ListsSchema db
  pub stands : HasDocuments db.schema.tables place tree
  pub rows : IsPermutation (map columns_of docs) (db.trees tree)
  pub rising : IsRising docs

-- the database has the table, with these rows
unfoldable pub RowsIn : Database → List TableRow → Type 0
RowsIn = TableRows

-- the trees list the schema of the database, and have these rows in the table and those of the database in the other tables
pub record HasRows (first : Database) (trees : Trees) (docs : List TableRow) : Type 0 where
  pub table : RowsIn (record { schema = first.schema; trees = trees }) docs
  pub others : SparesOthers first (record { schema = first.schema; trees = trees })

-- No table of the database has the name, and no foreign key refers to one; the trees are those of the database, as they are or with
-- the empty table beside.
pub record HasNone (first : Database) (trees : Trees) : Type 0 where
  pub free : IsFree first.schema.tables
  pub left : (ListsSchema first × (trees ≡ first.trees)) ⊎ AreBeside first trees

-- the greatest place, or 0
abbrev pub last_place : List TableRow → ℤ
last_place [] = pos 0
last_place (d ∷ []) = d.place
last_place (d ∷ (e ∷ docs)) = last_place (e ∷ docs)

-- the connection is open with no transaction, and its database has the table, with these rows
pub record HoldsRows (s : State) (docs : List TableRow) : Type 0 where
  pub is_open : IsTrue s.is_open
  pub autocommit : s.in_transaction ≡ false
  pub settled : s.now ≡ s.committed
  pub table : RowsIn s.now docs

abbrev pub is_at : ℤ → TableRow → Bool
is_at place d = int_eq d.place place

-- the rows without the one at this place
abbrev pub without_place : ℤ → List TableRow → List TableRow
without_place place = filter (λ d. not (is_at place d))

abbrev pub with_body : ℤ → List ℕ → TableRow → TableRow
with_body place body d = if is_at place d then record d { body = body } else d

-- the rows, with this body at this place
abbrev pub with_body_at : ℤ → List ℕ → List TableRow → List TableRow
with_body_at place body = map (with_body place body)

abbrev pub with_idkey : ℤ → List ℕ → TableRow → TableRow
with_idkey place idkey d = if is_at place d then record d { idkey = idkey } else d

-- the rows, with this key at this place
abbrev pub with_key_at : ℤ → List ℕ → List TableRow → List TableRow
with_key_at place idkey = map (with_idkey place idkey)

-- the rows, with each of these keys at its place, one after the other
abbrev pub with_keys_at : List NewKey → List TableRow → List TableRow
with_keys_at [] docs = docs
with_keys_at (k ∷ keys) docs = with_keys_at keys (with_key_at k.place k.idkey.items docs)

abbrev pub is_row_named : List ℕ → List ℕ → TableRow → Bool
is_row_named coll idkey d = bytes_eq d.coll coll && bytes_eq d.idkey idkey

abbrev pub is_in : List ℕ → TableRow → Bool
is_in coll d = bytes_eq d.coll coll

-- a transaction is open, which has made these rows of the first ones
pub record Inside (s : State) (first docs : List TableRow) : Type 0 where
  pub is_open : IsTrue s.is_open
  pub mode : IsTrue s.in_transaction
  pub table : RowsIn s.now docs
  pub first_table : RowsIn s.committed first

-- what a rollback goes back to, whatever the transaction has come to
pub record KeepsCommitted (s : State) (first : List TableRow) : Type 0 where
  pub table : RowsIn s.committed first

-- rows of a collection at consecutive places
abbrev pub docs_from : ℤ → List ℕ → List NewRow → List TableRow
docs_from place coll [] = []
docs_from place coll (r ∷ rows) = record { place = place; coll = coll; idkey = r.idkey.now; body = r.body.now } ∷ docs_from (place +ℤ pos 1) coll rows

-- an open connection with no transaction, whose database has no table of the name and no foreign key to one
pub record IsBlank (s : State) : Type 0 where
  pub is_open : IsTrue s.is_open
  pub autocommit : s.in_transaction ≡ false
  pub settled : s.now ≡ s.committed
  pub free : IsFree s.now.schema.tables
