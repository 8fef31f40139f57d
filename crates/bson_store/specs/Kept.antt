-- What is kept of indexes, whatever is done to the rows.
use Rattle.std.specs.Prelude.{◌≡◌, ◌⊎◌, List, Bool, false}
use Rattle.std.specs.List.{AllByRecursion}
use Rattle.sqlite.specs.State.{State, HasCleanDisk}
use Rattle.bson_store.specs.Find.{AreAsBefore, Finds, HasNone}
use Rattle.bson_store.specs.declared.indexed.indexes.Indexes.{Indexes}
use Rattle.store_table.specs.Moves.{Stands}
use Rattle.store_table.specs.Rows.{TableRow}

-- each index of the row's collection finds its document
abbrev pub FindsRow : Indexes → TableRow → Type 0
FindsRow ixs d = Finds ixs d.coll d.place d.body

abbrev pub FindsRows : Indexes → List TableRow → Type 0
FindsRows ixs = AllByRecursion (λ (d : TableRow). FindsRow ixs d)

-- On a disk that returns what was written rows stand whose documents the indexes find; or there are no indexes, and it
-- isn't known that rows stand.
abbrev pub HasKept : State → Bool → Indexes → Type 0
HasKept s shown ixs = HasCleanDisk s → ((shown ≡ false) × HasNone ixs) ⊎ ((docs : List TableRow) × Stands s docs × FindsRows ixs docs)

-- the indexes are those of before, by collection and path, or there are none
abbrev pub StayOrGo : Indexes → Indexes → Type 0
StayOrGo old new = AreAsBefore old new ⊎ HasNone new
